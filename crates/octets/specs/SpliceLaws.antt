-- The laws of `splice` and `run`: what a store changes and what it leaves.
use Rattle.std.specs.Prelude.{◌≡◌, ℕ, zero, suc, ◌+◌, ◌-◌, ◌<◌, ◌≤◌, List, [], ◌∷◌, ◌++◌, length, take, drop, set, slice_index, slice_set, refl, replicate}
use Rattle.std.proofs.Common.{sym, ap, ◌∙◌, append-nil, append_assoc, arith, add-one, length-set, length-take, length-drop, length-take-le, take-take, drop-cons, drop-drop, get_or-take, get_or-drop, get_or-set_same, get_or-set_other, set-set, drop-set-lt, ext_get_or, take-suc}
use Rattle.std.proofs.lemmas.List.{set_comm, set-get_or, take-set-le, drop-set-add, length-replicate, replicate-append-replicate}
use Rattle.std.proofs.Math.Seq.{take-length, take-set-lt, drop-length}
use Rattle.std.proofs.lemmas.List.Edits.{sets, sets-eq, paste_all}
use Rattle.std.proofs.lemmas.Slice.{put_mid-paste}
use Rattle.std.specs.List.{copy_within}
use native.Mathlib.Nat.{add-sub_cancel_left}
use borrow.Rule.Slice.PartMut.{put_mid, put_same}
use Rattle.octets.specs.Octets.{Bytes, Apart, run, splice, zeros}

-- ---- lengths and elements

pub length-splice : (xs : List ℕ) (a : ℕ) (ys : List ℕ) → length (splice xs a ys) ≡ length xs
unfolding splice
length-splice xs a [] = refl
length-splice xs a (y ∷ ys) = length-splice (slice_set xs a y) (a + 1) ys ∙ length-set xs a y

pub length_run : (xs : List ℕ) (a n : ℕ) → a + n ≤ length xs → length (run xs a n) ≡ n
length_run xs a n h = length-take-le n (drop a xs) (rw length-drop (omega arith))

pub get_d_run : (xs : List ℕ) (a n j : ℕ) → j < n → slice_index (run xs a n) j ≡ slice_index xs (a + j)
get_d_run xs a n j h = get_or-take n (drop a xs) j 0 h ∙ get_or-drop a xs j 0

-- an element outside is as it was
pub get_d_splice_out : (xs : List ℕ) (a : ℕ) (ys : List ℕ) (j : ℕ) → Apart a (length ys) j 1 → slice_index (splice xs a ys) j ≡ slice_index xs j
unfolding splice
get_d_splice_out xs a [] j h = refl
get_d_splice_out xs a (y ∷ ys) j h =
    get_d_splice_out (slice_set xs a y) (a + 1) ys j (λ p q. h (omega arith) (omega arith))
    ∙ get_or-set_other xs a j y 0 (λ e. h (omega arith) (omega arith))

-- an element inside is the new one
pub get_d_splice_in : (xs : List ℕ) (a : ℕ) (ys : List ℕ) (j : ℕ) → j < length ys → a + length ys ≤ length xs → slice_index (splice xs a ys) (a + j) ≡ slice_index ys j
unfolding splice
get_d_splice_in xs a [] j h k = absurd (omega arith)
get_d_splice_in xs a (y ∷ ys) zero h k =
    let e : a + 0 ≡ a = omega arith in
    rw (get_d_splice_out (slice_set xs a y) (a + 1) ys (a + 0) (λ p q. omega arith), e) (get_or-set_same xs a y 0 (omega arith))
get_d_splice_in xs a (y ∷ ys) (suc j) h k =
    let e : a + suc j ≡ a + 1 + j = omega arith in
    rw e (get_d_splice_in (slice_set xs a y) (a + 1) ys j (omega arith) (rw length-set (omega arith)))

-- ---- runs

-- one more element, at i + 1
pub drop-one : (xs : List ℕ) (i : ℕ) → i < length xs → drop i xs ≡ slice_index xs i ∷ drop (i + 1) xs
drop-one xs i h = rw (add-one, drop-cons xs i 0)

pub drop-four : (xs : List ℕ) (i : ℕ) → i + 4 ≤ length xs
    → drop i xs ≡ slice_index xs i ∷ slice_index xs (i + 1) ∷ slice_index xs (i + 2) ∷ slice_index xs (i + 3) ∷ drop (i + 4) xs
drop-four xs i h =
    let a : i + 1 + 1 ≡ i + 2 = omega arith in
    let b : i + 2 + 1 ≡ i + 3 = omega arith in
    let d : i + 3 + 1 ≡ i + 4 = omega arith in
    cc (drop-one xs i (omega arith), drop-one xs (i + 1) (omega arith), drop-one xs (i + 2) (omega arith), drop-one xs (i + 3) (omega arith))

-- runs of two lists that agree there
pub run_same : (xs ys : List ℕ) (a n : ℕ) → length xs ≡ length ys → ((k : ℕ) → k < n → slice_index xs (a + k) ≡ slice_index ys (a + k)) → run xs a n ≡ run ys a n
run_same xs ys a n l h =
    let e : length (run xs a n) ≡ length (run ys a n) = simp (length-take, length-drop, l) in
    ext_get_or 0 (run xs a n) (run ys a n) e (λ i m.
    let i<n : i < n = omega (arith, rw length-take at m) in
    get_d_run xs a n i i<n ∙ h i i<n ∙ sym (get_d_run ys a n i i<n))

-- a run apart from a store is as it was
pub run_splice_out : (xs : List ℕ) (a : ℕ) (ys : List ℕ) (b n : ℕ) → Apart a (length ys) b n → run (splice xs a ys) b n ≡ run xs b n
run_splice_out xs a ys b n h =
    run_same (splice xs a ys) xs b n (length-splice xs a ys) (λ k l. get_d_splice_out xs a ys (b + k) (λ p q. h (omega arith) (omega arith)))

-- what is stored is read again
pub run_splice_in : (xs : List ℕ) (a : ℕ) (ys : List ℕ) (j n : ℕ) → j + n ≤ length ys → a + length ys ≤ length xs → run (splice xs a ys) (a + j) n ≡ run ys j n
run_splice_in xs a ys j n h k =
    let s : length (splice xs a ys) ≡ length xs = length-splice xs a ys in
    let l : length (run (splice xs a ys) (a + j) n) ≡ n = length_run (splice xs a ys) (a + j) n (omega arith) in
    ext_get_or 0 _ (run ys j n) (l ∙ sym (length_run ys j n h)) (λ i m.
    let i<n : i < n = omega arith in
    let e : a + j + i ≡ a + (j + i) = omega arith in
    rw (get_d_run (splice xs a ys) (a + j) n i i<n, get_d_run ys j n i i<n, e) (get_d_splice_in xs a ys (j + i) (omega arith) k))

pub run_splice : (xs : List ℕ) (a : ℕ) (ys : List ℕ) → a + length ys ≤ length xs → run (splice xs a ys) a (length ys) ≡ ys
run_splice xs a ys h =
    let e : a + 0 ≡ a = omega arith in
    (rw e at (run_splice_in xs a ys 0 (length ys) (omega arith) h)) ∙ take-length ys

within : (xs : List ℕ) (n b m : ℕ) → b + m ≤ n → run (take n xs) b m ≡ run xs b m
within xs n zero m h = take-take m n xs (omega arith)
within [] zero (suc b) m h = refl
within [] (suc n) (suc b) m h = refl
within (x ∷ xs) zero (suc b) m h = absurd (omega arith)
within (x ∷ xs) (suc n) (suc b) m h = within xs n b m (omega arith)

-- a run of a run
pub run_run : (xs : List ℕ) (a n b m : ℕ) → b + m ≤ n → run (run xs a n) b m ≡ run xs (a + b) m
run_run xs a n b m h = within (drop a xs) n b m h ∙ ap (take m) (drop-drop b a xs)

-- ---- stores after stores

-- a store outside may as well come first
splice-set : (xs : List ℕ) (a : ℕ) (ys : List ℕ) (j v : ℕ) → Apart a (length ys) j 1 → splice (slice_set xs j v) a ys ≡ slice_set (splice xs a ys) j v
unfolding splice
splice-set xs a [] j v h = refl
splice-set xs a (y ∷ ys) j v h =
    rw (set_comm xs j a v y (λ e. h (omega arith) (omega arith))) (splice-set (slice_set xs a y) (a + 1) ys j v (λ p q. h (omega arith) (omega arith)))

-- a later run at the same place covers an earlier one that is no longer
pub splice-splice : (xs : List ℕ) (a : ℕ) (ys zs : List ℕ) → length ys ≤ length zs → splice (splice xs a ys) a zs ≡ splice xs a zs
unfolding splice
splice-splice xs a [] zs h = refl
splice-splice xs a (y ∷ ys) [] h = absurd (omega arith)
splice-splice xs a (y ∷ ys) (z ∷ zs) h =
    rw (← splice-set (slice_set xs a y) (a + 1) ys a z (λ p q. omega arith), set-set xs a y z) (splice-splice (slice_set xs a z) (a + 1) ys zs (omega arith))

-- storing what stands there changes nothing
pub splice-run_id : (xs : List ℕ) (a n : ℕ) → a + n ≤ length xs → splice xs a (run xs a n) ≡ xs
unfolding splice
splice-run_id xs a zero h = refl
splice-run_id xs a (suc n) h =
    let l : a < length xs = omega arith in
    rw (drop-cons xs a 0 l, ← add-one a, set-get_or xs a 0) (splice-run_id xs (a + 1) n (omega arith))

pub splice_append : (xs : List ℕ) (a : ℕ) (ys zs : List ℕ) → splice xs a (ys ++ zs) ≡ splice (splice xs a ys) (a + length ys) zs
unfolding splice
splice_append xs a [] zs = let e : a + 0 ≡ a = omega arith in rw e refl
splice_append xs a (y ∷ ys) zs =
    let e : a + suc (length ys) ≡ a + 1 + length ys = omega arith in
    rw e (splice_append (slice_set xs a y) (a + 1) ys zs)

-- one more element at the end: a turn of a loop that stores
pub splice_snoc : (xs : List ℕ) (a : ℕ) (ys : List ℕ) (v : ℕ) → splice xs a (ys ++ (v ∷ [])) ≡ slice_set (splice xs a ys) (a + length ys) v
unfolding splice
splice_snoc xs a ys v = splice_append xs a ys (v ∷ [])

-- the same, as a loop that copies has it
pub splice-turn : (xs : List ℕ) (a : ℕ) (ys : List ℕ) (i : ℕ) → i < length ys
    → slice_set (splice xs a (take i ys)) (a + i) (slice_index ys i) ≡ splice xs a (take (i + 1) ys)
splice-turn xs a ys i h =
    let l : length (take i ys) ≡ i = length-take-le i ys (omega arith) in
    sym (rw (add-one, take-suc ys i 0, splice_snoc, l) refl)

-- the same, where each element is d
pub splice_fill : (xs : List ℕ) (a d i : ℕ) → slice_set (splice xs a (replicate i d)) (a + i) d ≡ splice xs a (replicate (i + 1) d)
splice_fill xs a d i = sym (rw (← replicate-append-replicate i 1 d, splice_snoc, length-replicate) refl)

-- the same, where the n elements are read from the list itself, at places apart from those that are stored to
pub moved : (xs : List ℕ) (from to n i : ℕ) → Apart to n from n → i < n → from + n ≤ length xs
    → slice_set (splice xs to (run xs from i)) (to + i) (slice_index (splice xs to (run xs from i)) (from + i)) ≡ splice xs to (run xs from (i + 1))
moved xs from to n i a h k =
    let m : i < length (drop from xs) = rw length-drop (omega arith) in
    let l : length (run xs from i) ≡ i = length_run xs from i (omega arith) in
    rw (get_d_splice_out xs to (run xs from i) (from + i) (λ p q. a (omega arith) (omega arith)), ← get_or-drop from xs i 0) (splice-turn xs to (drop from xs) i m)

-- ---- the cut and the paste

splice_sets : (xs : List ℕ) (a : ℕ) (ys : List ℕ) → splice xs a ys ≡ sets xs a ys
unfolding splice
splice_sets xs a [] = refl
splice_sets xs a (y ∷ ys) = rw add-one (splice_sets (slice_set xs a y) (suc a) ys)

pub splice_eq : (xs : List ℕ) (a : ℕ) (ys : List ℕ) → a + length ys ≤ length xs → splice xs a ys ≡ take a xs ++ ys ++ drop (a + length ys) xs
splice_eq xs a ys h = splice_sets xs a ys ∙ sets-eq ys xs a h

-- ---- what std stores at once is one splice

-- the k elements from a on, replaced by ys
pub splice-put : (a k : ℕ) (xs ys : List ℕ) → length ys ≡ k → a + k ≤ length xs → put_mid a (a + k - a) xs ys ≡ splice xs a ys
splice-put a k xs ys l h =
    rw add-sub_cancel_left (put_mid-paste a k xs ys ys k refl refl (sym l) ∙ rw (← l, paste_all xs a ys (length ys) refl, splice_eq xs a ys (omega arith)) (sym (append_assoc (take a xs) ys (drop (a + length ys) xs))))

-- the n elements from `from` on, copied to `to`
pub splice-copy : (xs : List ℕ) (from to n : ℕ) → from + n ≤ length xs → to + n ≤ length xs → copy_within xs from (from + n) to ≡ splice xs to (run xs from n)
splice-copy xs from to n h k =
    let l : length (run xs from n) ≡ n = length_run xs from n h in
    rw add-sub_cancel_left (sym (rw l at (splice_eq xs to (run xs from n) (omega arith))))

-- ---- a part `&mut s[a..e]`: with ys in its place the whole is `put_mid a (e - a) xs ys`

-- a run stored into a part is a run stored into the whole
pub splice-part : (a k : ℕ) (xs : List ℕ) (j : ℕ) (ys : List ℕ) → j + length ys ≤ k → put_mid a k xs (splice (run xs a k) j ys) ≡ splice xs (a + j) ys
unfolding splice
splice-part a k xs j [] h = put_same a k xs
splice-part a k xs j (y ∷ ys) h =
    let j<k : j < k = omega arith in
    let a≤ : a ≤ a + j = omega arith in
    let mid : run (slice_set xs (a + j) y) a k ≡ set (run xs a k) j y = rw (drop-set-add, take-set-lt) refl in
    let fore : take a (slice_set xs (a + j) y) ≡ take a xs = take-set-le a xs (a + j) y a≤ in
    let aft : drop k (drop a (slice_set xs (a + j) y)) ≡ drop k (drop a xs) = rw (drop-set-add, drop-set-lt) refl in
    let e : a + (j + 1) ≡ a + j + 1 = omega arith in
    rw (← mid, ← fore, ← aft, ← e) (splice-part a k (slice_set xs (a + j) y) (j + 1) ys (omega arith))

-- ---- bytes stay bytes

pub bytes-set : (xs : List ℕ) (a v : ℕ) → v < 256 → Bytes xs → Bytes (slice_set xs a v)
bytes-set [] a v k h i = h i
bytes-set (x ∷ xs) zero v k h zero = k
bytes-set (x ∷ xs) zero v k h (suc i) = h (suc i)
bytes-set (x ∷ xs) (suc a) v k h zero = h zero
bytes-set (x ∷ xs) (suc a) v k h (suc i) = bytes-set xs a v k (λ j. h (suc j)) i

pub bytes-splice : (xs : List ℕ) (a : ℕ) (ys : List ℕ) → Bytes ys → Bytes xs → Bytes (splice xs a ys)
unfolding splice
bytes-splice xs a [] k h = h
bytes-splice xs a (y ∷ ys) k h = bytes-splice (slice_set xs a y) (a + 1) ys (λ i. k (suc i)) (bytes-set xs a y (k zero) h)

bytes_take : (n : ℕ) (xs : List ℕ) → Bytes xs → Bytes (take n xs)
bytes_take zero xs h i = omega arith
bytes_take (suc n) [] h i = h i
bytes_take (suc n) (x ∷ xs) h zero = h zero
bytes_take (suc n) (x ∷ xs) h (suc i) = bytes_take n xs (λ j. h (suc j)) i

pub bytes_run : (xs : List ℕ) (a n : ℕ) → Bytes xs → Bytes (run xs a n)
bytes_run xs a n h = bytes_take n (drop a xs) (λ i. rw get_or-drop (h (a + i)))

-- zeros read as zero everywhere, past their end too
pub get_d_zeros : (n i : ℕ) → slice_index (zeros n) i ≡ 0
get_d_zeros zero i = refl
get_d_zeros (suc n) zero = refl
get_d_zeros (suc n) (suc i) = get_d_zeros n i

pub bytes-zeros : (n : ℕ) → Bytes (zeros n)
bytes-zeros n i = rw get_d_zeros (omega arith)

-- a run of zeros is zeros
pub drop-zeros : (a n m : ℕ) → n ≡ a + m → drop a (zeros n) ≡ zeros m
drop-zeros zero n m h = let e : n ≡ m = omega arith in ap zeros e
drop-zeros (suc a) zero m h = absurd (omega arith)
drop-zeros (suc a) (suc n) m h = drop-zeros a n m (omega arith)

take_zeros : (m n : ℕ) → m ≤ n → take m (zeros n) ≡ zeros m
take_zeros zero n h = refl
take_zeros (suc m) zero h = absurd (omega arith)
take_zeros (suc m) (suc n) h = ap (λ (xs : List ℕ). 0 ∷ xs) (take_zeros m n (omega arith))

pub run_zeros : (n a m : ℕ) → a + m ≤ n → run (zeros n) a m ≡ zeros m
run_zeros n a m h = rw (drop-zeros a n (n - a) (omega arith)) (take_zeros m (n - a) (omega arith))

-- all of a list stored anew
pub splice-whole : (xs ys : List ℕ) → length ys ≡ length xs → splice xs 0 ys ≡ ys
splice-whole xs ys h =
    let e : 0 + length ys ≡ length xs = omega arith in
    splice_eq xs 0 ys (omega arith) ∙ (rw (e, drop-length xs) (append-nil ys))

-- a run stored behind another: the two are one
pub splice_join : (xs : List ℕ) (a : ℕ) (ys : List ℕ) (n : ℕ) (zs : List ℕ) → a + length ys ≡ n → splice (splice xs a ys) n zs ≡ splice xs a (ys ++ zs)
splice_join xs a ys n zs h = rw (← h) (sym (splice_append xs a ys zs))
