-- The tests of Sound in the words of Members and Segments: what is in a list, what holds of each record, which records pass a test, what
-- a chain is and what following pointers gives. Each test is told both ways: what it says, and what makes it true.
use Prim.Native.Nat.{ℕ, zero, suc, ◌+◌, ◌-◌, ◌≤◌, ◌<◌}
use Rattle.std.specs.Prelude.{◌≡◌, ◌⊎◌, Bool, true, false, cond, not, ◌&&◌, ◌||◌, eqb, leb, length}
use Rattle.std.proofs.Math.Path.{refl}
use Rattle.std.proofs.Common.{sym, ap, ◌∙◌, inl, inr, ⊎_elim, arith, eqb-true, eq-eqb, le-leb}
use Rattle.std.proofs.Math.Bool.{and-eq-true_iff}
use mathlib.Core.List.{List, [], ◌∷◌}
use Rattle.octets.specs.Below.{all_below, sum_below, count_below}
use Rattle.octets.specs.BelowLaws.{all_below-all, sum_below-same}
use Rattle.octets.specs.TestLaws.{never_both, either, either_left, either-right}
use Rattle.schema.specs.declared.Entry.{Entry}
use Rattle.schema.specs.Place.{InSet, in_set}
use Rattle.chains.specs.Members.{All, all_map, In, NoDup, in_gathered, gathered_in, length_gathered, nodup_gathered}
use Rattle.chains.specs.Segments.{NoZero, last_or, Run, run_nodup, run_agree, LooksBack, answers_agree, Seg, seg-run, seg-answers, run_seg, at_ends, headed, headed-at}
use Rattle.sound.specs.Sound.{each_record, records_with, is_in, within, follow, is_chain, last_of}
use Rattle.sound.proofs.SoundLaws.{Linked}

-- ---- tests

-- "not a, or b": b where a holds
pub where_holds : (a b : Bool) → (not a || b) ≡ true → a ≡ true → b ≡ true
where_holds true b h e = h
where_holds false b h e = absurd (never_both false e refl)

pub holds_where : (a b : Bool) → (a ≡ true → b ≡ true) → (not a || b) ≡ true
holds_where true b f = f refl
holds_where false b f = refl

-- "not both"
pub not_and : (a b : Bool) → not (a && b) ≡ true → a ≡ true → b ≡ false
not_and true true h e = absurd (never_both false h refl)
not_and true false h e = refl
not_and false b h e = absurd (never_both false e refl)

pub and_not : (a b : Bool) → (a ≡ true → b ≡ false) → not (a && b) ≡ true
and_not true b f = rw (f refl) refl
and_not false b f = refl

pub in_set_test : (e : Entry) (r : ℕ) → InSet e r → in_set e r ≡ true
in_set_test e r h = (and-eq-true_iff (leb 1 r) (leb r e.records)).1 (le-leb _ _ h.0, le-leb _ _ h.1)

-- ---- membership

pub is_in_in : (r : ℕ) (xs : List ℕ) → is_in r xs ≡ true → In r xs
unfolding is_in
is_in_in r [] h = never_both false h refl
is_in_in r (x ∷ xs) h = ⊎_elim (λ q. inl (sym (eqb-true x r q))) (λ q. inr (is_in_in r xs q)) (either (eqb x r) (is_in r xs) h)

pub in_is_in : (r : ℕ) (xs : List ℕ) → In r xs → is_in r xs ≡ true
unfolding is_in
in_is_in r [] m = absurd m
in_is_in r (x ∷ xs) (inl e) = either_left (eqb x r) (is_in r xs) (eq-eqb x r (sym e))
in_is_in r (x ∷ xs) (inr m) = either-right (eqb x r) (is_in r xs) (in_is_in r xs m)

pub within_in : (xs ys : List ℕ) → within xs ys ≡ true → (r : ℕ) → In r xs → In r ys
unfolding within
within_in [] ys h r m = absurd m
within_in (x ∷ xs) ys h r (inl e) = rw e (is_in_in x ys ((and-eq-true_iff (is_in x ys) (within xs ys)).0 h).0)
within_in (x ∷ xs) ys h r (inr m) = within_in xs ys ((and-eq-true_iff (is_in x ys) (within xs ys)).0 h).1 r m

pub in_within : (xs ys : List ℕ) → ((r : ℕ) → In r xs → In r ys) → within xs ys ≡ true
unfolding within
in_within [] ys f = refl
in_within (x ∷ xs) ys f = (and-eq-true_iff (is_in x ys) (within xs ys)).1 (in_is_in x ys (f x (inl refl)), in_within xs ys (λ r m. f r (inr m)))

-- ---- each record, some record

-- the number of the record behind k others
below : (e : Entry) (r : ℕ) → InSet e r → (r - 1 < e.records) × (r - 1 + 1 ≡ r)
below e r h = (omega arith, omega arith)

pub each_record-all : (e : Entry) (f : ℕ → Bool) → ((r : ℕ) → InSet e r → f r ≡ true) → each_record e f ≡ true
each_record-all e f h = all_below-all (λ k. f (k + 1)) e.records (λ k l. h (k + 1) (omega arith, omega arith))

-- a test that fails of some number below n
pub below-some : (f : ℕ → Bool) (n : ℕ) → all_below f n ≡ false → (i : ℕ) × (i < n) × (f i ≡ false)
unfolding all_below
below-some f zero h = absurd (never_both true refl h)
below-some f (suc n) h = by (all_below f n) (f n) refl refl h (λ q. let t = below-some f n q in (t.0, omega arith, t.2))
  where
    by : (a b : Bool) → all_below f n ≡ a → f n ≡ b → (a && b) ≡ false → (all_below f n ≡ false → (i : ℕ) × (i < suc n) × (f i ≡ false)) → (i : ℕ) × (i < suc n) × (f i ≡ false)
    by true b p q h more = (n, omega arith, q ∙ h)
    by false b p q h more = more p

pub each_record-some : (e : Entry) (f : ℕ → Bool) → each_record e f ≡ false → (r : ℕ) × InSet e r × (f r ≡ false)
each_record-some e f h = let t = below-some (λ k. f (k + 1)) e.records h in (t.0 + 1, (omega arith, omega arith), t.2)

-- ---- the records that pass a test

count-is : (f : ℕ → Bool) (n : ℕ) → sum_below (λ k. cond (f k) 1 0) n ≡ count_below f n
unfolding sum_below count_below
count-is f zero = refl
count-is f (suc n) = rw (count-is f n) refl

module _ (e : Entry) (f : ℕ → Bool) where
  abbrev one : ℕ → List ℕ
  one k = cond (f (k + 1)) ((k + 1) ∷ []) []

  one_in : (k r : ℕ) → In r (one k) → (r ≡ k + 1) × (f (k + 1) ≡ true)
  one_in k r m = by (f (k + 1)) refl m
    where
      by : (t : Bool) → f (k + 1) ≡ t → In r (cond t ((k + 1) ∷ []) []) → (r ≡ k + 1) × (f (k + 1) ≡ true)
      by true q (inl p) = (p, q)
      by true q (inr m) = absurd m
      by false q m = absurd m

  pub records_with_in : (r : ℕ) → In r (records_with e f) → InSet e r × (f r ≡ true)
  records_with_in r m =
      let t = gathered_in one e.records r m in
      let u = one_in t.0 r t.2 in
      ((omega arith, omega arith), rw u.0 u.1)

  pub in_records_with : (r : ℕ) → InSet e r → f r ≡ true → In r (records_with e f)
  in_records_with r h q =
      let d = below e r h in
      let p : f (r - 1 + 1) ≡ true = rw d.1 q in
      in_gathered one e.records (r - 1) r d.0 (rw p (inl (sym d.1)))

  pub nodup-records_with : NoDup (records_with e f)
  nodup-records_with =
      nodup_gathered one e.records (λ k l. single (f (k + 1)) k)
      (λ j k x l m p q. let a = (one_in j x p).0 in let c = (one_in k x q).0 in omega arith)
    where
      single : (t : Bool) (k : ℕ) → NoDup (cond t ((k + 1) ∷ []) [])
      single true k = (tt, tt)
      single false k = tt

  pub length-records_with : length (records_with e f) ≡ count_below (λ k. f (k + 1)) e.records
  length-records_with = length_gathered one e.records ∙ ones e.records
    where
      size : (t : Bool) (k : ℕ) → length (cond t ((k + 1) ∷ []) []) ≡ cond t 1 0
      size true k = refl
      size false k = refl

      ones : (n : ℕ) → sum_below (λ k. length (one k)) n ≡ count_below (λ k. f (k + 1)) n
      ones n = sum_below-same (λ k. length (one k)) (λ k. cond (f (k + 1)) 1 0) n (λ k l. size (f (k + 1)) k) ∙ count-is (λ k. f (k + 1)) n

-- ---- chains

-- what is linked passes the test
pub linked-chain : (next prior : ℕ → ℕ) (p head : ℕ) (rs : List ℕ) → Linked next prior p head rs → is_chain next prior p head rs ≡ true
unfolding is_chain
linked-chain next prior p head [] h = eq-eqb head 0 h
linked-chain next prior p head (r ∷ rs) h =
    rw (eq-eqb head r h.0, eq-eqb (prior r) p h.1) (linked-chain next prior r (next r) rs h.2)

module _ (next prior : ℕ → ℕ) where
  pub linked-run : (r : ℕ) (rs : List ℕ) → Linked next prior r (next r) rs → Run next r rs
  linked-run r [] h = h
  linked-run r (q ∷ rs) h = (h.0, linked-run q rs h.2)

  pub linked-answers : (p head : ℕ) (rs : List ℕ) → Linked next prior p head rs → LooksBack prior p rs
  linked-answers p head [] h = tt
  linked-answers p head (r ∷ rs) h = (h.1, linked-answers r (next r) rs h.2)

  pub run_linked : (r : ℕ) (rs : List ℕ) → Run next r rs → LooksBack prior r rs → Linked next prior r (next r) rs
  run_linked r [] s a = s
  run_linked r (q ∷ rs) s a = (s.0, a.0, run_linked q rs s.1 a.1)

  pub linked-nodup : (p head : ℕ) (rs : List ℕ) → Linked next prior p head rs → NoZero rs → NoDup rs
  linked-nodup p head [] h z = tt
  linked-nodup p head (r ∷ rs) h z = run_nodup next r rs (linked-run r rs h.2) z.1

  -- behind a record of the list stands none, or another one that points back to it
  pub linked-next : (p head : ℕ) (rs : List ℕ) (r : ℕ) → Linked next prior p head rs → In r rs → (next r ≡ 0) ⊎ (In (next r) rs × (prior (next r) ≡ r))
  linked-next p head [] r h m = absurd m
  linked-next p head (q ∷ []) r h (inl e) = inl (rw e h.2)
  linked-next p head (q ∷ []) r h (inr m) = absurd m
  linked-next p head (q ∷ s ∷ rs) r h (inl e) = inr (inr (inl (rw e h.2.0)), (rw (e, h.2.0) h.2.1))
  linked-next p head (q ∷ s ∷ rs) r h (inr m) = ⊎_elim (λ z. inl z) (λ t. inr (inr t.0, t.1)) (linked-next q (next q) (s ∷ rs) r h.2 m)

  -- and following from its head gives the list
  pub follow-linked : (n : ℕ) (e : Entry) (p head : ℕ) (rs : List ℕ) → Linked next prior p head rs → All (InSet e) rs → length rs ≤ n → follow n e next head ≡ rs
  unfolding follow
  follow-linked zero e p head [] h s l = refl
  follow-linked zero e p head (r ∷ rs) h s l = absurd (omega arith)
  follow-linked (suc n) e p head [] h s l = rw h refl
  follow-linked (suc n) e p head (r ∷ rs) h s l =
      rw (h.0, in_set_test e r s.0) (ap (λ zs. r ∷ zs) (follow-linked n e r (next r) rs h.2 s.1 (omega arith)))

-- such a list is a segment from the head to the head, in the words of Segments; first and last are the head's pointers
pub linked-seg : (next prior : ℕ → ℕ) (first last : ℕ) (rs : List ℕ) → Linked next prior 0 first rs → last ≡ last_or 0 rs → NoZero rs
    → Seg (headed first next) (headed last prior) 0 rs 0
linked-seg next prior first last [] h e z = (h, e)
linked-seg next prior first last (r ∷ rs) h e z =
    let s = all_map (λ a. 1 ≤ a) (λ a. headed first next a ≡ next a) (headed-at first next) (r ∷ rs) z in
    let t = all_map (λ a. 1 ≤ a) (λ a. headed last prior a ≡ prior a) (headed-at last prior) (r ∷ rs) z in
    run_seg (headed first next) (headed last prior) 0 (r ∷ rs) (h.0, run_agree next (headed first next) r rs s (linked-run next prior r rs h.2))
    (answers_agree prior (headed last prior) 0 (r ∷ rs) t (linked-answers next prior 0 first (r ∷ rs) h)) e

pub seg-linked : (next prior : ℕ → ℕ) (first last : ℕ) (rs : List ℕ) → Seg (headed first next) (headed last prior) 0 rs 0 → NoZero rs
    → Linked next prior 0 first rs × (last ≡ last_or 0 rs)
seg-linked next prior first last [] s z = s
seg-linked next prior first last (r ∷ rs) s z =
    let t = all_map (λ a. 1 ≤ a) (λ a. next a ≡ headed first next a) (λ a l. sym (headed-at first next a l)) (r ∷ rs) z in
    let u = all_map (λ a. 1 ≤ a) (λ a. prior a ≡ headed last prior a) (λ a l. sym (headed-at last prior a l)) (r ∷ rs) z in
    let run = run_agree (headed first next) next r rs t (seg-run (headed first next) (headed last prior) r rs s.1) in
    let back = answers_agree (headed last prior) prior 0 (r ∷ rs) u (seg-answers (headed first next) (headed last prior) 0 (r ∷ rs) 0 s) in
    ((s.0.0, back.0, run_linked next prior r rs run back.1), (at_ends (headed first next) (headed last prior) 0 (r ∷ rs) 0 s).1)

pub last_of-is : (rs : List ℕ) → last_of rs ≡ last_or 0 rs
unfolding last_of
last_of-is [] = refl
last_of-is (r ∷ []) = refl
last_of-is (r ∷ q ∷ rs) = last_of-is (q ∷ rs)
