-- The laws of keys, references, statuses and operations.
use Rattle.std.specs.Prelude.{ℕ, ◌+◌, ◌-◌, ◌%◌, ◌≤◌, ◌<◌, ◌≡◌, refl, Bool, true, false, cond, ◌&&◌, ◌==◌, List, [], ◌∷◌, ◌++◌, length, get_or, take, ◌*◌, ltb}
use Rattle.std.proofs.Common.{sym, ap, ◌∙◌, arith, mod-lt, drop_of_length-le, length-take-le, ne_eqb, ltb-true}
use Rattle.octets.specs.Octets.{splice, zeros, word_sum, same_bytes, Bytes, every}
use Rattle.octets.specs.SpliceLaws.{drop-one, drop-four, splice_eq, drop-zeros}
use Rattle.terms.specs.Terms.{key_from, home_of, end_ref, link_ref}
use Rattle.terms.specs.Operation.{operation_of}
use Rattle.terms.specs.declared.Operation.{Operation}
use Rattle.terms.specs.declared.Operation.TheVariants.{Formt, Sinon, AddM, DelM, Readm, Writm, Rqloc, Rdnxt, Readv, Readr, Readd, Writv, Addvc, Addvb, Addva, Delvd, Unknown}
use Rattle.terms.specs.Status.{status_number, is_done, first_of, status_by}
use Rattle.terms.specs.declared.Refusal.{Refusal}
use Rattle.terms.specs.declared.Refusal.TheVariants as refusal
use Rattle.terms.specs.declared.Status.{Status}
use Rattle.terms.specs.declared.Status.TheVariants.{Done, Schm, Size, Func, Fntf, Kind, Path, Area, Klen, Bctl, Keys, Ivrp, Mrnf, Dupm, Imdl, Full, Damg}
use Rattle.octets.specs.RunLaws.{every_at, ne_same_bytes}

-- ---- keys

-- bytes copied into an array of sixteen zeros
pub key_copied : (s : List ℕ) → length s ≤ 16 → splice (zeros 16) 0 s ≡ (key_from s).bytes
key_copied s h = splice_eq (zeros 16) 0 s (omega arith) ∙ ap (λ (z : List ℕ). s ++ z) (drop-zeros (0 + length s) 16 (16 - length s) (omega arith))

-- a key's list is as long as the key says
pub key_of-length : (bytes : List ℕ) (len : ℕ) → length bytes ≡ 16 → len ≤ 16 → length (take len bytes) ≡ len
key_of-length bytes len full sized = length-take-le len bytes (omega arith)

-- a home is a record of the set
pub home_in_set : (records : ℕ) (key : List ℕ) → 1 ≤ records → (1 ≤ home_of records key) × (home_of records key ≤ records)
home_in_set records key h = let m : word_sum key % records < records = mod-lt (word_sum key) h in (omega arith, omega arith)

-- ---- references: "no record number reaches either"

pub end_ref_high : 65535 < end_ref
end_ref_high = omega arith

pub link_ref_high : (a b : ℕ) → 65535 < link_ref a b
link_ref_high a b = omega arith

-- ---- statuses

-- the statuses by number
abbrev statuses : List Status
statuses = Done ∷ Schm ∷ Size ∷ Func ∷ Fntf ∷ Kind ∷ Path ∷ Area ∷ Klen ∷ Bctl ∷ Keys ∷ Ivrp ∷ Mrnf ∷ Dupm ∷ Imdl ∷ Full ∷ Damg ∷ []

numbered : (s : Status) → get_or statuses (status_number s) Done ≡ s
numbered Done = refl
numbered Schm = refl
numbered Size = refl
numbered Func = refl
numbered Fntf = refl
numbered Kind = refl
numbered Path = refl
numbered Area = refl
numbered Klen = refl
numbered Bctl = refl
numbered Keys = refl
numbered Ivrp = refl
numbered Mrnf = refl
numbered Dupm = refl
numbered Imdl = refl
numbered Full = refl
numbered Damg = refl

-- no two statuses have one number
pub status-number-one : (s t : Status) → status_number s ≡ status_number t → s ≡ t
status-number-one s t e = sym (numbered s) ∙ ap (λ (n : ℕ). get_or statuses n Done) e ∙ numbered t

-- a status that refuses is not Done
pub not_done : (s : Status) → 0 < status_number s → is_done s ≡ false
not_done s h = ne_eqb (status_number s) 0 (λ e. omega arith)

pub refused-done : {A : Type 0} {s u : Status} → s ≡ u → 0 < status_number u → s ≡ Done → A
refused-done {u = u} h l d = absurd (let z : status_number u ≡ 0 = ap status_number (sym h ∙ d) in omega arith)

-- a refusal is never Done
pub refusal-counts : (why : Refusal) → 0 < status_number (status_by why)
refusal-counts refusal.Schm = omega arith
refusal-counts refusal.Size = omega arith
refusal-counts refusal.Func = omega arith
refusal-counts refusal.Fntf = omega arith
refusal-counts refusal.Kind = omega arith
refusal-counts refusal.Path = omega arith
refusal-counts refusal.Area = omega arith
refusal-counts refusal.Klen = omega arith
refusal-counts refusal.Bctl = omega arith
refusal-counts refusal.Keys = omega arith
refusal-counts refusal.Ivrp = omega arith
refusal-counts refusal.Mrnf = omega arith
refusal-counts refusal.Dupm = omega arith
refusal-counts refusal.Imdl = omega arith
refusal-counts refusal.Full = omega arith
refusal-counts refusal.Damg = omega arith

pub refusal-not-done : (why : Refusal) → is_done (status_by why) ≡ false
refusal-not-done why = not_done (status_by why) (refusal-counts why)

pub refusal_no_done : {A : Type 0} (why : Refusal) → status_by why ≡ Done → A
refusal_no_done why d = refused-done refl (refusal-counts why) d

-- one test that refuses, or two, and the status behind them
pub one_first : (a : Bool) (s more : Status) → 0 < status_number s → cond a s more ≡ first_of (cond a s Done) more
one_first true s more h = rw (not_done s h) refl
one_first false s more h = refl

pub two_first : (a b : Bool) (s u more : Status) → 0 < status_number s → 0 < status_number u → cond a s (cond b u more) ≡ first_of (cond a s (cond b u Done)) more
two_first true b s u more h k = rw (not_done s h) refl
two_first false b s u more h k = one_first b u more k

-- where all is done, the test has passed
pub one_passes : (a : Bool) (s more : Status) → 0 < status_number s → cond a s more ≡ Done → (a ≡ false) × (more ≡ Done)
one_passes true s more h e = refused-done refl h e
one_passes false s more h e = (refl, e)

-- of three statuses the first that refuses
pub first_of_assoc : (r s u : Status) → first_of (first_of r s) u ≡ first_of r (first_of s u)
first_of_assoc r s u = go (is_done r) refl
  where
    go : (d : Bool) → is_done r ≡ d → first_of (first_of r s) u ≡ first_of r (first_of s u)
    go true e = rw e refl
    go false e = rw (e, e) refl

-- ---- operations

-- what five letters ask for, letter by letter, as a `match` tells them apart
abbrev pub letters_ask : ℕ → ℕ → ℕ → ℕ → ℕ → Operation
letters_ask a b c d e =
    cond (a == 70 && (b == 79 && (c == 82 && (d == 77 && (e == 84 && true))))) Formt
    (cond (a == 83 && (b == 73 && (c == 78 && (d == 79 && (e == 78 && true))))) Sinon
    (cond (a == 65 && (b == 68 && (c == 68 && (d == 45 && (e == 77 && true))))) AddM
    (cond (a == 68 && (b == 69 && (c == 76 && (d == 45 && (e == 77 && true))))) DelM
    (cond (a == 82 && (b == 69 && (c == 65 && (d == 68 && (e == 77 && true))))) Readm
    (cond (a == 87 && (b == 82 && (c == 73 && (d == 84 && (e == 77 && true))))) Writm
    (cond (a == 82 && (b == 81 && (c == 76 && (d == 79 && (e == 67 && true))))) Rqloc
    (cond (a == 82 && (b == 68 && (c == 78 && (d == 88 && (e == 84 && true))))) Rdnxt
    (cond (a == 82 && (b == 69 && (c == 65 && (d == 68 && (e == 86 && true))))) Readv
    (cond (a == 82 && (b == 69 && (c == 65 && (d == 68 && (e == 82 && true))))) Readr
    (cond (a == 82 && (b == 69 && (c == 65 && (d == 68 && (e == 68 && true))))) Readd
    (cond (a == 87 && (b == 82 && (c == 73 && (d == 84 && (e == 86 && true))))) Writv
    (cond (a == 65 && (b == 68 && (c == 68 && (d == 86 && (e == 67 && true))))) Addvc
    (cond (a == 65 && (b == 68 && (c == 68 && (d == 86 && (e == 66 && true))))) Addvb
    (cond (a == 65 && (b == 68 && (c == 68 && (d == 86 && (e == 65 && true))))) Addva
    (cond (a == 68 && (b == 69 && (c == 76 && (d == 86 && (e == 68 && true))))) Delvd
    Unknown)))))))))))))))

-- five letters as one number
abbrev pub number5 : ℕ → ℕ → ℕ → ℕ → ℕ → ℕ
number5 a b c d e = a * 4294967296 + b * 16777216 + c * 65536 + d * 256 + e

abbrev pub number5_of : List ℕ → ℕ
number5_of xs = number5 (get_or xs 0 0) (get_or xs 1 0) (get_or xs 2 0) (get_or xs 3 0) (get_or xs 4 0)

-- a byte, by a test that computes
abbrev pub byte? : ℕ → Bool
byte? x = ltb x 256

one_way : (a b c d e p q r s t : ℕ) → (b < 256) × (c < 256) × (d < 256) × (e < 256) → (q < 256) × (r < 256) × (s < 256) × (t < 256)
    → number5 a b c d e ≡ number5 p q r s t → a ∷ b ∷ c ∷ d ∷ e ∷ [] ≡ p ∷ q ∷ r ∷ s ∷ t ∷ []
one_way a b c d e p q r s t h k n =
    let f : a ≡ p = omega arith in
    let g : b ≡ q = omega arith in
    let i : c ≡ r = omega arith in
    let j : d ≡ s = omega arith in
    let l : e ≡ t = omega arith in
    cc

fives : (xs : List ℕ) → length xs ≡ 5 → xs ≡ get_or xs 0 0 ∷ get_or xs 1 0 ∷ get_or xs 2 0 ∷ get_or xs 3 0 ∷ get_or xs 4 0 ∷ []
fives xs h = drop-four xs 0 (omega arith) ∙ cc (drop-one xs 4 (omega arith), drop_of_length-le xs {i = 5} (omega arith))

pub operation_of_letters : (op : List ℕ) → length op ≡ 5 → operation_of op ≡ letters_ask (get_or op 0 0) (get_or op 1 0) (get_or op 2 0) (get_or op 3 0) (get_or op 4 0)
unfolding operation_of same_bytes
operation_of_letters op h = ap operation_of (fives op h)

-- five bytes that make the number of a word are that word
pub spelt : (op w : List ℕ) → length op ≡ 5 → length w ≡ 5 → Bytes op → every byte? w ≡ true → number5_of op ≡ number5_of w → op ≡ w
spelt op w lo lw bo bw e =
    let at : (i : ℕ) → i < 5 → get_or w i 0 < 256 = λ i l. ltb-true _ _ (every_at byte? w i bw (omega arith)) in
    fives op lo
    ∙ one_way _ _ _ _ _ _ _ _ _ _ (bo 1, bo 2, bo 3, bo 4) (at 1 (omega arith), at 2 (omega arith), at 3 (omega arith), at 4 (omega arith)) e
    ∙ sym (fives w lw)

-- and where the numbers differ, so do the bytes
pub misspelt : (op w : List ℕ) → (number5_of op ≡ number5_of w → ⊥) → same_bytes op w ≡ false
misspelt op w h = ne_same_bytes op w (λ e. h (ap number5_of e))
