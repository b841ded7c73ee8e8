-- The laws of tests and sums over a run: a loop keeps what the run from place i on gives, so each has a turn, a failure and an end.
use Rattle.std.specs.Prelude.{◌≡◌, ℕ, zero, suc, ◌+◌, ◌*◌, ◌/◌, ◌%◌, ◌<◌, ◌≤◌, Bool, true, false, ◌&&◌, List, [], ◌∷◌, ◌++◌, length, drop, replicate, get_or, ◌==◌, nat_eq, ◌≢◌, slice_index, refl}
use Rattle.std.proofs.Common.{sym, ap, ◌∙◌, arith, mod-lt, mod-eq_of_lt, lit<, add-one, drop-cons, length-drop}
use Rattle.std.proofs.Math.Bool.{and_assoc, and-eq-true_iff}
use Rattle.std.proofs.Math.ListN.{drop_of_length-le}
use borrow.Author.Tests.{eq-eqb, eqb-true, ne_eqb}
use Rattle.std.specs.List.{fold}
use Rattle.std.specs.Simd.{first_chunks}
use Rattle.std.specs.Cmp.Lexicographic.{pointwise}
use Rattle.octets.specs.Octets.{word4, zeros, every, is, all_zero, same_bytes, sum_onto, word_at}
use Rattle.octets.specs.SpliceLaws.{drop-one, drop-four}

-- a test that cannot be true is false; two tests that are true together are equal
pub refuted : (t : Bool) → (t ≢ true) → t ≡ false
refuted true h = absurd (h refl)
refuted false h = refl

pub tests_eq : (t u : Bool) → (t ≡ true → u ≡ true) → (u ≡ true → t ≡ true) → t ≡ u
tests_eq true u f g = sym (f refl)
tests_eq false true f g = g refl
tests_eq false false f g = refl

-- ---- every

module _ (f : ℕ → Bool) (xs : List ℕ) (i : ℕ) where
  pub every_turn : i < length xs → f (slice_index xs i) ≡ true → every f (drop i xs) ≡ every f (drop (i + 1) xs)
  unfolding every
  every_turn h e = rw (drop-one xs i h, e)

  pub every_fails : i < length xs → f (slice_index xs i) ≡ false → every f (drop i xs) ≡ false
  unfolding every
  every_fails h e = rw (drop-one xs i h, e)

  pub every_end : length xs ≤ i → every f (drop i xs) ≡ true
  unfolding every
  every_end h = rw (drop_of_length-le xs {i = i} h)

-- what a true `every` says of one element, and what makes it true
pub every_at : (f : ℕ → Bool) (xs : List ℕ) (i : ℕ) → every f xs ≡ true → i < length xs → f (slice_index xs i) ≡ true
unfolding every
every_at f [] i h l = absurd (omega arith)
every_at f (x ∷ xs) zero h l = ((and-eq-true_iff (f x) (every f xs)).0 h).0
every_at f (x ∷ xs) (suc i) h l = every_at f xs i ((and-eq-true_iff (f x) (every f xs)).0 h).1 (omega arith)

pub every_all : (f : ℕ → Bool) (xs : List ℕ) → ((i : ℕ) → i < length xs → f (slice_index xs i) ≡ true) → every f xs ≡ true
unfolding every
every_all f [] h = refl
every_all f (x ∷ xs) h = rw (h 0 (omega arith)) (every_all f xs (λ i l. h (suc i) (omega arith)))

pub every_append : (f : ℕ → Bool) (xs ys : List ℕ) → every f (xs ++ ys) ≡ (every f xs && every f ys)
unfolding every
every_append f [] ys = refl
every_append f (x ∷ xs) ys = rw (every_append f xs ys) (sym (and_assoc (f x) (every f xs) (every f ys)))

-- copies of an element that passes pass
pub every_replicate : (f : ℕ → Bool) (n x : ℕ) → f x ≡ true → every f (replicate n x) ≡ true
unfolding every
every_replicate f zero x h = refl
every_replicate f (suc n) x h = rw h (every_replicate f n x h)

pub all_zero-zeros : (n : ℕ) → all_zero (zeros n) ≡ true
all_zero-zeros n = every_replicate (is 0) n 0 refl

-- a run that is all zero is zeros
pub all_zero_eq : (xs : List ℕ) → all_zero xs ≡ true → xs ≡ zeros (length xs)
unfolding every
all_zero_eq [] h = refl
all_zero_eq (x ∷ xs) h =
    let t = (and-eq-true_iff (x == 0) (all_zero xs)).0 h in
    let e : x ≡ 0 = eqb-true x 0 t.0 in
    cc (all_zero_eq xs t.1)

-- ---- same_bytes

-- a loop over both runs: its turn, its failure and its end
module _ (xs ys : List ℕ) (i : ℕ) where
  pub same_turn : i < length xs → i < length ys → slice_index xs i ≡ slice_index ys i
      → same_bytes (drop i xs) (drop i ys) ≡ same_bytes (drop (i + 1) xs) (drop (i + 1) ys)
  unfolding same_bytes
  same_turn h k e = rw (drop-one xs i h, drop-one ys i k, eq-eqb _ _ e)

  pub same_fails : i < length xs → i < length ys → (slice_index xs i ≢ slice_index ys i) → same_bytes (drop i xs) (drop i ys) ≡ false
  unfolding same_bytes
  same_fails h k e = rw (drop-one xs i h, drop-one ys i k, ne_eqb _ _ e)

  pub same_end : length xs ≤ i → length ys ≤ i → same_bytes (drop i xs) (drop i ys) ≡ true
  unfolding same_bytes
  same_end h k = rw (drop_of_length-le xs {i = i} h, drop_of_length-le ys {i = i} k)

-- it is what `==` of slices answers
pub pointwise-same : (xs ys : List ℕ) → pointwise nat_eq xs ys ≡ same_bytes xs ys
unfolding same_bytes
pointwise-same [] [] = refl
pointwise-same [] (y ∷ ys) = refl
pointwise-same (x ∷ xs) [] = refl
pointwise-same (x ∷ xs) (y ∷ ys) = ap (λ (t : Bool). x == y && t) (pointwise-same xs ys)

-- the test tells whether the runs are equal
pub same_bytes_eq : (xs ys : List ℕ) → same_bytes xs ys ≡ true → xs ≡ ys
unfolding same_bytes
same_bytes_eq [] [] h = refl
same_bytes_eq [] (y ∷ ys) h = absurd (let z : ◌≡◌ {A = ℕ} 0 1 = cc in omega arith)
same_bytes_eq (x ∷ xs) [] h = absurd (let z : ◌≡◌ {A = ℕ} 0 1 = cc in omega arith)
same_bytes_eq (x ∷ xs) (y ∷ ys) h =
    let t = (and-eq-true_iff (x == y) (same_bytes xs ys)).0 h in
    cc (eqb-true x y t.0, same_bytes_eq xs ys t.1)

pub same_bytes_refl : (xs : List ℕ) → same_bytes xs xs ≡ true
unfolding same_bytes
same_bytes_refl [] = refl
same_bytes_refl (x ∷ xs) = rw (eq-eqb x x refl) (same_bytes_refl xs)

pub eq_same_bytes : (xs ys : List ℕ) → xs ≡ ys → same_bytes xs ys ≡ true
eq_same_bytes xs ys e = rw e (same_bytes_refl ys)

pub ne_same_bytes : (xs ys : List ℕ) → (xs ≢ ys) → same_bytes xs ys ≡ false
ne_same_bytes xs ys h = refuted (same_bytes xs ys) (λ e. h (same_bytes_eq xs ys e))

pub same_lengths : (xs ys : List ℕ) → (length xs ≢ length ys) → same_bytes xs ys ≡ false
same_lengths xs ys h = ne_same_bytes xs ys (λ e. h (ap length e))

pub same_bytes_comm : (xs ys : List ℕ) → same_bytes xs ys ≡ same_bytes ys xs
same_bytes_comm xs ys =
    tests_eq (same_bytes xs ys) (same_bytes ys xs) (λ h. eq_same_bytes ys xs (sym (same_bytes_eq xs ys h))) (λ h. eq_same_bytes xs ys (sym (same_bytes_eq ys xs h)))

-- ---- sum_onto

sum_short : (acc : ℕ) (xs : List ℕ) → length xs < 4 → sum_onto acc xs ≡ acc
unfolding sum_onto
sum_short acc [] h = refl
sum_short acc (a ∷ []) h = refl
sum_short acc (a ∷ b ∷ []) h = refl
sum_short acc (a ∷ b ∷ c ∷ []) h = refl
sum_short acc (a ∷ b ∷ c ∷ d ∷ xs) h = absurd (omega arith)

-- a turn, in the words of the code: the word read and the wrapping sum
pub sum_turn : (acc : ℕ) (xs : List ℕ) (i : ℕ) {w r : ℕ} → i + 4 ≤ length xs → w ≡ word_at xs i → r ≡ (acc + w) % 4294967296
    → sum_onto acc (drop i xs) ≡ sum_onto r (drop (i + 4) xs)
unfolding sum_onto word_at
sum_turn acc xs i h ew er = rw (er, ew, drop-four xs i h)

pub sum_end : (acc : ℕ) (xs : List ℕ) (i : ℕ) → length xs < i + 4 → sum_onto acc (drop i xs) ≡ acc
sum_end acc xs i h = sum_short acc (drop i xs) (rw length-drop (omega arith))

-- a word, as the list of its four bytes, onto what is summed already
abbrev pub word_added : ℕ → List ℕ → ℕ
word_added acc w = (acc + word4 (slice_index w 0) (slice_index w 1) (slice_index w 2) (slice_index w 3)) % 4294967296

-- a loop over the words: its turn and its end
pub words_turn : (acc : ℕ) (words : List (List ℕ)) (i : ℕ) (d : List ℕ) → i < length words
    → fold word_added acc (drop i words) ≡ fold word_added (word_added acc (get_or words i d)) (drop (i + 1) words)
words_turn acc words i d h = rw (add-one, drop-cons words i d)

pub words_end : (acc : ℕ) (words : List (List ℕ)) (i : ℕ) → length words ≤ i → fold word_added acc (drop i words) ≡ acc
words_end acc words i h = rw (drop_of_length-le words {i = i} h)

-- the fold over the words is the sum; k is how many words they are
sum_of_words : (k acc : ℕ) (xs : List ℕ) → k * 4 ≤ length xs → length xs < k * 4 + 4 → fold word_added acc (first_chunks 4 k xs) ≡ sum_onto acc xs
unfolding sum_onto
sum_of_words zero acc xs h l = sym (sum_short acc xs (omega arith))
sum_of_words (suc k) acc [] h l = absurd (omega arith)
sum_of_words (suc k) acc (a ∷ []) h l = absurd (omega arith)
sum_of_words (suc k) acc (a ∷ b ∷ []) h l = absurd (omega arith)
sum_of_words (suc k) acc (a ∷ b ∷ c ∷ []) h l = absurd (omega arith)
sum_of_words (suc k) acc (a ∷ b ∷ c ∷ d ∷ xs) h l =
    sum_of_words k ((acc + word4 a b c d) % 4294967296) xs (omega arith) (omega arith)

pub sum_of_chunks : (acc : ℕ) (xs : List ℕ) → fold word_added acc (first_chunks 4 (length xs / 4) xs) ≡ sum_onto acc xs
sum_of_chunks acc xs = sum_of_words (length xs / 4) acc xs (omega arith) (omega arith)

pub sum_onto_lt : (acc : ℕ) (xs : List ℕ) → acc < 4294967296 → sum_onto acc xs < 4294967296
unfolding sum_onto
sum_onto_lt acc [] h = h
sum_onto_lt acc (a ∷ []) h = h
sum_onto_lt acc (a ∷ b ∷ []) h = h
sum_onto_lt acc (a ∷ b ∷ c ∷ []) h = h
sum_onto_lt acc (a ∷ b ∷ c ∷ d ∷ xs) h = sum_onto_lt ((acc + word4 a b c d) % 4294967296) xs (mod-lt _ (lit< tt))

-- a sum that has a word in it is a word, whatever it began at
pub sum_onto-word : (acc : ℕ) (xs : List ℕ) → 4 ≤ length xs → sum_onto acc xs < 4294967296
unfolding sum_onto
sum_onto-word acc [] h = absurd (omega arith)
sum_onto-word acc (a ∷ []) h = absurd (omega arith)
sum_onto-word acc (a ∷ b ∷ []) h = absurd (omega arith)
sum_onto-word acc (a ∷ b ∷ c ∷ []) h = absurd (omega arith)
sum_onto-word acc (a ∷ b ∷ c ∷ d ∷ xs) h = sum_onto_lt ((acc + word4 a b c d) % 4294967296) xs (mod-lt _ (lit< tt))

-- zeros add nothing; k is how many words they are
lower : (a : ℕ) → a < 4294967296 → a % 4294967296 ≡ a
lower a h = mod-eq_of_lt h

pub sum_onto-zeros : (k n acc : ℕ) → n ≡ k * 4 → acc < 4294967296 → sum_onto acc (zeros n) ≡ acc
unfolding sum_onto
sum_onto-zeros zero zero acc e h = refl
sum_onto-zeros zero (suc n) acc e h = absurd (omega arith)
sum_onto-zeros (suc k) zero acc e h = refl
sum_onto-zeros (suc k) (suc zero) acc e h = refl
sum_onto-zeros (suc k) (suc (suc zero)) acc e h = refl
sum_onto-zeros (suc k) (suc (suc (suc zero))) acc e h = refl
sum_onto-zeros (suc k) (suc (suc (suc (suc n)))) acc e h =
    let z : (acc + word4 0 0 0 0) % 4294967296 ≡ acc = lower (acc + word4 0 0 0 0) (omega arith) ∙ omega arith in
    rw z (sum_onto-zeros k n acc (omega arith) h)
