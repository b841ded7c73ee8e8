-- The laws of `Below`: the turns of loops that count up, and what the answers say.
use Rattle.std.specs.Prelude.{◌≡◌, ℕ, zero, suc, ◌+◌, ◌-◌, ◌<◌, ◌≤◌, Bool, true, false, cond, ◌&&◌, ◌⊎◌, List, [], ◌∷◌, ◌++◌, length, get_or, take, drop, set, ◌==◌, ◌≢◌}
use Rattle.std.specs.List.{list_all, range_with_len}
use Rattle.std.proofs.Math.Path.{refl}
use Rattle.std.proofs.Common.{sym, ap, ◌∙◌, inl, inr, eq-or-lt_of_le, length-append, take-suc-set, drop-set-lt, drop-drop, eqb-true}
use Rattle.std.proofs.Math.Bool.{and-eq-true_iff}
use native.Mathlib.Omega.{arith}
use Rattle.std.proofs.Math.Numerals.{add-one}
use Rattle.std.proofs.Math.ListN.{get_or-append}
use Rattle.std.proofs.lemmas.List.{get_or_at}
use Rattle.std.proofs.lemmas.Bool.{eqb-false}
use Rattle.octets.specs.TestLaws.{never_both}
use Rattle.octets.specs.Below.{all_below, sum_below, count_below, lowest_from, upto, concat_below}
use Rattle.octets.specs.RunLaws.{refuted}

-- two numbers are the same, or they are not
pub same? : (m n : ℕ) → (m ≡ n) ⊎ (m ≢ n)
same? m n = by (m == n) refl
  where
    by : (t : Bool) → (m == n) ≡ t → (m ≡ n) ⊎ (m ≢ n)
    by true e = inl (eqb-true m n e)
    by false e = inr (eqb-false m n e)

-- the two ways to be at most n
last? {ℓ} : {P : Type ℓ} {i n : ℕ} → i ≤ n → (i ≡ n → P) → (i < n → P) → P
last? {P = P} {i = i} {n = n} h p q = go (eq-or-lt_of_le h) where
  go : (i ≡ n) ⊎ (i < n) → P
  go (inl e) = p e
  go (inr k) = q k

-- ---- all_below

module _ (f : ℕ → Bool) where
  pub all_below_suc : (i : ℕ) → all_below f (i + 1) ≡ (all_below f i && f i)
  unfolding all_below
  all_below_suc i = rw add-one refl

  pub all_below-turn : (i : ℕ) → all_below f i ≡ true → f i ≡ true → all_below f (i + 1) ≡ true
  all_below-turn i h e = rw (all_below_suc i, h) e

  -- loops that join their tests by `&`: a turn, and the end
  pub joined : (i : ℕ) {ok r : Bool} → ok ≡ all_below f i → r ≡ f i → (ok && r) ≡ all_below f (i + 1)
  joined i e q = rw (all_below_suc i, e, q) refl

  pub joined-all : (n i : ℕ) {ok : Bool} → i ≤ n → n ≤ i → ok ≡ all_below f i → ok ≡ all_below f n
  joined-all n i a b e = let q : i ≡ n = omega arith in rw q at e

  -- what a true one says of one number, and what makes it true
  pub all_below-at : (n i : ℕ) → all_below f n ≡ true → i < n → f i ≡ true
  unfolding all_below
  all_below-at zero i h l = absurd (omega arith)
  all_below-at (suc n) i h l =
      let t = (and-eq-true_iff (all_below f n) (f n)).0 h in
      last? {i = i} {n = n} (omega arith) (λ e. rw e t.1) (λ k. all_below-at n i t.0 k)

  pub all_below-all : (n : ℕ) → ((i : ℕ) → i < n → f i ≡ true) → all_below f n ≡ true
  unfolding all_below
  all_below-all zero h = refl
  all_below-all (suc n) h = rw (all_below-all n (λ i l. h i (omega arith))) (h n (omega arith))

  pub all_below-fails : (n i : ℕ) → i < n → f i ≡ false → all_below f n ≡ false
  all_below-fails n i l e = refuted (all_below f n) (λ h. never_both (f i) (all_below-at n i h l) e)

pub all_below-same : (f g : ℕ → Bool) (n : ℕ) → ((i : ℕ) → i < n → f i ≡ g i) → all_below f n ≡ all_below g n
unfolding all_below
all_below-same f g zero h = refl
all_below-same f g (suc n) h = rw (all_below-same f g n (λ i l. h i (omega arith)), h n (omega arith)) refl

-- a test of every number of a range, in its order: of n numbers from a on, where those below a pass; and of each number below n
all-range : (f : ℕ → Bool) (n a m : ℕ) → a + n ≡ m → all_below f a ≡ true → list_all f (range_with_len a n) ≡ all_below f m
all-range f zero a m e h = let q : a ≡ m = omega (arith, e) in rw q at (sym h)
all-range f (suc n) a m e h = turn (f a) refl (λ k. all-range f n (a + 1) m (omega (arith, e)) (all_below-turn f a h k))
  where
    turn : (t : Bool) → f a ≡ t → (f a ≡ true → list_all f (range_with_len (a + 1) n) ≡ all_below f m) → (t && list_all f (range_with_len (a + 1) n)) ≡ all_below f m
    turn true k more = more k
    turn false k more = sym (all_below-fails f m a (omega (arith, e)) k)

pub list_all-below : (f : ℕ → Bool) (n : ℕ) → list_all f (range_with_len 0 n) ≡ all_below f n
unfolding all_below
list_all-below f n = all-range f n 0 n (omega arith) refl

-- ---- lowest_from

-- what holds of both answers of a test
cond_both : (P : ℕ → Type 0) (t : Bool) (x y : ℕ) → (t ≡ true → P x) → (t ≡ false → P y) → P (cond t x y)
cond_both P true x y p q = p refl
cond_both P false x y p q = q refl

module _ (f : ℕ → Bool) where
  -- a loop has n left to try, from k on
  pub lowest_from-turn : (n m k : ℕ) → n ≡ m + 1 → f k ≡ false → lowest_from f n k ≡ lowest_from f m (k + 1)
  unfolding lowest_from
  lowest_from-turn n m k e h = rw (e, add-one m, h) refl

  pub lowest_from_hit : (n m k : ℕ) → n ≡ m + 1 → f k ≡ true → lowest_from f n k ≡ k
  unfolding lowest_from
  lowest_from_hit n m k e h = rw (e, add-one m, h) refl

  pub lowest_from_end : (n k : ℕ) → n ≡ 0 → lowest_from f n k ≡ k
  unfolding lowest_from
  lowest_from_end n k e = rw e refl

  -- the answer is one of the numbers, or the end
  pub lowest_from_ge : (n k : ℕ) → k ≤ lowest_from f n k
  unfolding lowest_from
  lowest_from_ge zero k = omega arith
  lowest_from_ge (suc n) k = cond_both (λ r. k ≤ r) (f k) k (lowest_from f n (k + 1)) (λ _. omega arith) (λ _. omega (arith, lowest_from_ge n (k + 1)))

  pub lowest_from_le : (n k : ℕ) → lowest_from f n k ≤ k + n
  unfolding lowest_from
  lowest_from_le zero k = omega arith
  lowest_from_le (suc n) k = cond_both (λ r. r ≤ k + suc n) (f k) k (lowest_from f n (k + 1)) (λ _. omega arith) (λ _. omega (arith, lowest_from_le n (k + 1)))

  -- f holds of an answer that is not the end
  pub lowest_from-at : (n k : ℕ) → lowest_from f n k < k + n → f (lowest_from f n k) ≡ true
  unfolding lowest_from
  lowest_from-at zero k l = absurd (omega arith)
  lowest_from-at (suc n) k l =
      cond_both (λ r. r < k + suc n → f r ≡ true) (f k) k (lowest_from f n (k + 1)) (λ e m. e) (λ e m. lowest_from-at n (k + 1) (omega arith)) l

  pub lowest_from-first : (n k i : ℕ) → k ≤ i → f i ≡ true → i < k + n → lowest_from f n k ≤ i
  unfolding lowest_from
  lowest_from-first zero k i h e l = absurd (omega arith)
  lowest_from-first (suc n) k i h e l =
      cond_both (λ r. r ≤ i) (f k) k (lowest_from f n (k + 1)) (λ _. h)
      (λ d. last? h (λ p. absurd (never_both (f i) e (rw p at d))) (λ p. lowest_from-first n (k + 1) i (omega arith) e (omega arith)))

-- ---- sum_below

module _ (f : ℕ → ℕ) where
  pub sum_below-turn : (i : ℕ) → sum_below f (i + 1) ≡ sum_below f i + f i
  unfolding sum_below
  sum_below-turn i = rw add-one refl

  pub sum_below_le : (i j : ℕ) → i ≤ j → sum_below f i ≤ sum_below f j
  unfolding sum_below
  sum_below_le i zero h = let e : i ≡ 0 = omega arith in rw e (omega arith)
  sum_below_le i (suc j) h = last? h (λ e. rw e (omega arith)) (λ k. omega (arith, sum_below_le i j (omega arith)))

  pub sum_below-at : (i n : ℕ) → i < n → sum_below f i + f i ≤ sum_below f n
  sum_below-at i n h = omega (arith, sum_below-turn i, sum_below_le (i + 1) n (omega arith))

pub sum_below-same : (f g : ℕ → ℕ) (n : ℕ) → ((i : ℕ) → i < n → f i ≡ g i) → sum_below f n ≡ sum_below g n
unfolding sum_below
sum_below-same f g zero h = refl
sum_below-same f g (suc n) h = rw (sum_below-same f g n (λ i l. h i (omega arith)), h n (omega arith)) refl

-- ---- count_below

module _ (f : ℕ → Bool) where
  pub count_below_hit : (i : ℕ) → f i ≡ true → count_below f (i + 1) ≡ count_below f i + 1
  unfolding count_below
  count_below_hit i h = rw (add-one i, h) refl

  pub count_below_miss : (i : ℕ) → f i ≡ false → count_below f (i + 1) ≡ count_below f i
  unfolding count_below
  count_below_miss i h = rw (add-one, h) (omega arith)

  pub count_below_le : (n : ℕ) → count_below f n ≤ n
  unfolding count_below
  count_below_le zero = omega arith
  count_below_le (suc n) = cond_both (λ r. count_below f n + r ≤ suc n) (f n) 1 0 (λ _. omega (arith, count_below_le n)) (λ _. omega (arith, count_below_le n))

-- a number that f holds of counts from there on
pub count_below-at : (f : ℕ → Bool) (i n : ℕ) → i < n → f i ≡ true → count_below f i + 1 ≤ count_below f n
unfolding count_below
count_below-at f i zero l h = absurd (omega arith)
count_below-at f i (suc n) l h = last? {i = i} {n = n} (omega arith) (λ k. rw (k, rw k at h) (omega arith)) (λ k. omega (arith, count_below-at f i n k h))

-- ---- upto

module _ {ℓ} {A : Type ℓ} (f : ℕ → A) where
  pub length-upto : (n : ℕ) → length (upto f n) ≡ n
  length-upto zero = refl
  length-upto (suc n) = rw length-append (omega (arith, length-upto n))

  pub get_d_upto : (n i : ℕ) (d : A) → i < n → get_or (upto f n) i d ≡ f i
  get_d_upto zero i d l = absurd (omega arith)
  get_d_upto (suc n) i d l =
      last? {i = i} {n = n} (omega arith)
      (λ e. get_or_at (upto f n) (f n) [] d i (length-upto n ∙ sym e) ∙ ap f (sym e))
      (λ k. get_or-append (upto f n) (f n ∷ []) d i (rw (length-upto n) k) ∙ get_d_upto n i d k)

  -- a turn of a loop that stores f's next value, and the loop's end
  pub fill_step : (xs : List A) (j : ℕ) (v : A) → j < length xs → take j xs ≡ upto f j → v ≡ f j → take (j + 1) (set xs j v) ≡ upto f (j + 1)
  fill_step xs j v h e q = rw (add-one, take-suc-set xs j v, e, q)

-- two lists that agree from n on agree from any later place on
pub drop_later {ℓ} : {A : Type ℓ} (xs ys : List A) (n m : ℕ) → n ≤ m → drop n xs ≡ drop n ys → drop m xs ≡ drop m ys
drop_later xs ys n m h e =
    let k : n + (m - n) ≡ m = omega arith in
    rw (← k, ← drop-drop (m - n) n xs, ← drop-drop (m - n) n ys, e) refl

-- behind what such a loop stores the list stays
pub rest-step {ℓ} : {A : Type ℓ} (xs ys : List A) (j : ℕ) (v : A) → drop j xs ≡ drop j ys → drop (j + 1) (set xs j v) ≡ drop (j + 1) ys
rest-step xs ys j v e = drop-set-lt (j + 1) xs j v (omega arith) ∙ drop_later xs ys j (j + 1) (omega arith) e

-- ---- lists one behind the other

module _ {ℓ} {A : Type ℓ} where
  pub concat_below-turn : (f : ℕ → List A) (n : ℕ) → concat_below f (n + 1) ≡ concat_below f n ++ f n
  unfolding concat_below
  concat_below-turn f n = rw add-one refl

  pub concat_below-none : (f : ℕ → List A) → concat_below f 0 ≡ []
  unfolding concat_below
  concat_below-none f = refl

  pub concat_below-same : (f g : ℕ → List A) (n : ℕ) → ((k : ℕ) → k < n → f k ≡ g k) → concat_below f n ≡ concat_below g n
  unfolding concat_below
  concat_below-same f g zero h = refl
  concat_below-same f g (suc n) h = rw (concat_below-same f g n (λ k l. h k (omega arith)), h n (omega arith)) refl
