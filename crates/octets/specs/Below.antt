-- Tests, counts, sums and lists over the numbers 0, 1, .. below a bound: how the definitions say "for each" and "the lowest".
use Rattle.std.specs.Prelude.{ℕ, zero, suc, ◌+◌, Bool, true, cond, ◌&&◌, List, [], ◌∷◌, ◌++◌}

-- f holds of every number below n
unfoldable pub all_below : (ℕ → Bool) → ℕ → Bool
all_below f zero = true
all_below f (suc n) = all_below f n && f n

-- f's values at the numbers below n, summed
unfoldable pub sum_below : (ℕ → ℕ) → ℕ → ℕ
sum_below f zero = 0
sum_below f (suc n) = sum_below f n + f n

-- how many numbers below n f holds of
unfoldable pub count_below : (ℕ → Bool) → ℕ → ℕ
count_below f zero = 0
count_below f (suc n) = count_below f n + cond (f n) 1 0

-- the lowest of the n numbers from k on that f holds of; k + n where there is none
unfoldable pub lowest_from : (ℕ → Bool) → ℕ → ℕ → ℕ
lowest_from f zero k = k
lowest_from f (suc n) k = cond (f k) k (lowest_from f n (k + 1))

-- the lowest number below n that f holds of; n where there is none
abbrev pub lowest : (ℕ → Bool) → ℕ → ℕ
lowest f n = lowest_from f n 0

module _ {ℓ} {A : Type ℓ} where
  -- f 0, f 1, .. : the first n
  abbrev pub upto : (ℕ → A) → ℕ → List A
  upto f zero = []
  upto f (suc n) = upto f n ++ (f n ∷ [])

  -- the lists f 0, f 1, .. : the first n, one behind the other
  unfoldable pub concat_below : (ℕ → List A) → ℕ → List A
  concat_below f zero = []
  concat_below f (suc n) = concat_below f n ++ f n
