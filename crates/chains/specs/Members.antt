-- Lists of record numbers: what holds of all elements, what is in a list, no element twice, and counting. Every predicate is a recursive
-- product or sum that computes, so a proof reads its parts. The use of it: a chain is such a list, and a list with no element twice that
-- lies within another one and is as long has all of it.
use Prim.Native.Nat.{ℕ, zero, suc, ◌≤◌, ◌<◌}
use Rattle.std.specs.Prelude.{◌≡◌, ◌≢◌, ◌⊎◌, List, [], ◌∷◌, ◌++◌, length}
use Rattle.std.proofs.Math.Path.{refl}
use Rattle.std.proofs.Common.{sym, ap, inl, inr}
use Rattle.std.proofs.Math.Logic.{⊎_map, ⊎_elim}
use native.Mathlib.Omega.{arith}
use Rattle.std.proofs.Math.ListN.{length-append}
use Rattle.octets.specs.Below.{sum_below, concat_below}
use Rattle.octets.specs.BelowLaws.{same?}

-- ---- what holds of every element

abbrev pub All : (ℕ → Type 0) → List ℕ → Type 0
All P [] = Unit {0}
All P (x ∷ xs) = P x × All P xs

module _ (P : ℕ → Type 0) where
  pub all_append : (us vs : List ℕ) → All P us → All P vs → All P (us ++ vs)
  all_append [] vs h k = k
  all_append (u ∷ us) vs h k = (h.0, all_append us vs h.1 k)

  pub all_left : (us vs : List ℕ) → All P (us ++ vs) → All P us
  all_left [] vs h = tt
  all_left (u ∷ us) vs h = (h.0, all_left us vs h.1)

  pub all_right : (us vs : List ℕ) → All P (us ++ vs) → All P vs
  all_right [] vs h = h
  all_right (u ∷ us) vs h = all_right us vs h.1

  -- but for one in the middle
  pub all_without : (us : List ℕ) (x : ℕ) (vs : List ℕ) → All P (us ++ x ∷ vs) → All P (us ++ vs)
  all_without us x vs h = all_append us vs (all_left us (x ∷ vs) h) (all_right us (x ∷ vs) h).1

pub all_map : (P Q : ℕ → Type 0) → ((a : ℕ) → P a → Q a) → (xs : List ℕ) → All P xs → All Q xs
all_map P Q f [] h = tt
all_map P Q f (x ∷ xs) h = (f x h.0, all_map P Q f xs h.1)

pub all_both : (P Q : ℕ → Type 0) (xs : List ℕ) → All P xs → All Q xs → All (λ a. P a × Q a) xs
all_both P Q [] h k = tt
all_both P Q (x ∷ xs) h k = ((h.0, k.0), all_both P Q xs h.1 k.1)

-- ---- what is in a list

abbrev pub In : ℕ → List ℕ → Type 0
In x [] = ⊥
In x (y ∷ ys) = (x ≡ y) ⊎ In x ys

module _ (P : ℕ → Type 0) where
  pub all_in : (x : ℕ) (ys : List ℕ) → All P ys → In x ys → P x
  all_in x [] h m = absurd m
  all_in x (y ∷ ys) h (inl e) = rw e h.0
  all_in x (y ∷ ys) h (inr m) = all_in x ys h.1 m

  pub in_all : (ys : List ℕ) → ((y : ℕ) → In y ys → P y) → All P ys
  in_all [] f = tt
  in_all (y ∷ ys) f = (f y (inl refl), in_all ys (λ z m. f z (inr m)))

pub in_left : (x : ℕ) (us vs : List ℕ) → In x us → In x (us ++ vs)
in_left x [] vs m = absurd m
in_left x (u ∷ us) vs (inl e) = inl e
in_left x (u ∷ us) vs (inr m) = inr (in_left x us vs m)

pub in_right : (x : ℕ) (us vs : List ℕ) → In x vs → In x (us ++ vs)
in_right x [] vs m = m
in_right x (u ∷ us) vs m = inr (in_right x us vs m)

pub in_cases : (x : ℕ) (us vs : List ℕ) → In x (us ++ vs) → In x us ⊎ In x vs
in_cases x [] vs m = inr m
in_cases x (u ∷ us) vs (inl e) = inl (inl e)
in_cases x (u ∷ us) vs (inr m) = ⊎_map inr (λ k. k) (in_cases x us vs m)

-- a member splits its list
pub split_in : (x : ℕ) (ys : List ℕ) → In x ys → (us : List ℕ) × (vs : List ℕ) × (ys ≡ us ++ x ∷ vs)
split_in x [] m = absurd m
split_in x (y ∷ ys) (inl e) = ([], ys, rw e)
split_in x (y ∷ ys) (inr m) = let t = split_in x ys m in (y ∷ t.0, t.1, ap (λ zs. y ∷ zs) t.2)

-- ---- no element twice

-- x is none of ys
abbrev pub Fresh : ℕ → List ℕ → Type 0
Fresh x ys = All (λ y. x ≢ y) ys

abbrev pub NoDup : List ℕ → Type 0
NoDup [] = Unit {0}
NoDup (x ∷ xs) = Fresh x xs × NoDup xs

-- a number is in a list, or it is fresh; not both
pub in? : (x : ℕ) (ys : List ℕ) → In x ys ⊎ Fresh x ys
in? x [] = inr tt
in? x (y ∷ ys) = go (same? x y) (in? x ys)
  where
    go : (x ≡ y) ⊎ (x ≢ y) → In x ys ⊎ Fresh x ys → In x (y ∷ ys) ⊎ Fresh x (y ∷ ys)
    go (inl e) r = inl (inl e)
    go (inr n) (inl m) = inl (inr m)
    go (inr n) (inr f) = inr (n, f)

pub not-fresh : (x : ℕ) (ys : List ℕ) → In x ys → Fresh x ys → ⊥
not-fresh x ys m f = all_in (λ y. x ≢ y) x ys f m refl

pub nodup_append : (us vs : List ℕ) → NoDup us → NoDup vs → ((x : ℕ) → In x us → In x vs → ⊥) → NoDup (us ++ vs)
nodup_append [] vs d e f = e
nodup_append (u ∷ us) vs d e f = (
  all_append (λ y. u ≢ y) us vs d.0 (in_all (λ y. u ≢ y) vs (λ y m q. f y (inl (sym q)) m)),
  nodup_append us vs d.1 e (λ x m n. f x (inr m) n),
)

-- without one in the middle, which then is fresh; without the whole middle
pub nodup-without : (us : List ℕ) (x : ℕ) (vs : List ℕ) → NoDup (us ++ x ∷ vs) → NoDup (us ++ vs) × Fresh x (us ++ vs)
nodup-without [] x vs d = (d.1, d.0)
nodup-without (u ∷ us) x vs d =
    let ih = nodup-without us x vs d.1 in
    let r = all_right (λ y. u ≢ y) us (x ∷ vs) d.0 in
    ((all_without (λ y. u ≢ y) us x vs d.0, ih.0), (λ e. r.0 (sym e), ih.1))

pub nodup-ends : (us ms vs : List ℕ) → NoDup (us ++ (ms ++ vs)) → NoDup (us ++ vs)
nodup-ends [] [] vs d = d
nodup-ends [] (m ∷ ms) vs d = nodup-ends [] ms vs d.1
nodup-ends (u ∷ us) ms vs d =
    let f = d.0 in
    (all_append (λ y. u ≢ y) us vs (all_left (λ y. u ≢ y) us (ms ++ vs) f) (all_right (λ y. u ≢ y) ms vs (all_right (λ y. u ≢ y) us (ms ++ vs) f)), nodup-ends us ms vs d.1)

-- ---- counting

-- ys without the x that m points at
remove : (x : ℕ) (ys : List ℕ) → In x ys → List ℕ
remove x [] m = absurd m
remove x (y ∷ ys) (inl e) = ys
remove x (y ∷ ys) (inr m) = y ∷ remove x ys m

length-remove : (x : ℕ) (ys : List ℕ) (m : In x ys) → length ys ≡ suc (length (remove x ys m))
unfolding remove
length-remove x [] m = absurd m
length-remove x (y ∷ ys) (inl e) = refl
length-remove x (y ∷ ys) (inr m) = ap suc (length-remove x ys m)

in_remove : (x : ℕ) (ys : List ℕ) (m : In x ys) (z : ℕ) → z ≢ x → In z ys → In z (remove x ys m)
unfolding remove
in_remove x [] m z n k = absurd m
in_remove x (y ∷ ys) (inl e) z n (inl q) = absurd (omega arith)
in_remove x (y ∷ ys) (inl e) z n (inr k) = k
in_remove x (y ∷ ys) (inr m) z n (inl q) = inl q
in_remove x (y ∷ ys) (inr m) z n (inr k) = inr (in_remove x ys m z n k)

-- a list with no element twice is no longer than one that it lies within
pub length-within : (xs ys : List ℕ) → NoDup xs → ((x : ℕ) → In x xs → In x ys) → length xs ≤ length ys
length-within [] ys d s = omega arith
length-within (x ∷ xs) ys d s =
    let m : In x ys = s x (inl refl) in
    let ih = length-within xs (remove x ys m) d.1 (λ z k. in_remove x ys m z (λ e. not-fresh x xs (rw e at k) d.0) (s z (inr k))) in
    omega (arith, length-remove x ys m)

-- and if it is as long, it has all of it
pub counting : (xs ys : List ℕ) → NoDup xs → ((x : ℕ) → In x xs → In x ys) → length ys ≤ length xs → (y : ℕ) → In y ys → In y xs
counting xs ys d s l y m = go (in? y xs)
  where
    sub : (x : ℕ) → In x (y ∷ xs) → In x ys
    sub x (inl e) = rw e m
    sub x (inr k) = s x k

    go : In y xs ⊎ Fresh y xs → In y xs
    go (inl k) = k
    go (inr f) = absurd (omega (arith, length-within (y ∷ xs) ys (f, d) sub))

-- the numbers from n down to 1
abbrev down : ℕ → List ℕ
down zero = []
down (suc n) = suc n ∷ down n

length-down : (n : ℕ) → length (down n) ≡ n
length-down zero = refl
length-down (suc n) = ap suc (length-down n)

in_down : (n x : ℕ) → 1 ≤ x → x ≤ n → In x (down n)
in_down zero x p l = absurd (omega arith)
in_down (suc n) x p l = ⊎_elim (λ e. inl e) (λ q. inr (in_down n x p (omega arith))) (same? x (suc n))

-- record numbers with none twice are at most as many as there are records
pub pigeonhole : (n : ℕ) (xs : List ℕ) → NoDup xs → All (λ x. (1 ≤ x) × (x ≤ n)) xs → length xs ≤ n
pigeonhole n xs d h =
    omega (arith, length-down n, length-within xs (down n) d (λ x m. let b = all_in (λ x. (1 ≤ x) × (x ≤ n)) x xs h m in in_down n x b.0 b.1))

-- ---- lists one behind the other, `concat_below`

module _ (f : ℕ → List ℕ) where
  pub in_gathered : (n k x : ℕ) → k < n → In x (f k) → In x (concat_below f n)
  unfolding concat_below
  in_gathered zero k x l m = absurd (omega arith)
  in_gathered (suc n) k x l m =
      ⊎_elim (λ e. in_right x (concat_below f n) (f n) (rw e at m)) (λ q. in_left x (concat_below f n) (f n) (in_gathered n k x (omega arith) m)) (same? k n)

  pub gathered_in : (n x : ℕ) → In x (concat_below f n) → (k : ℕ) × (k < n) × In x (f k)
  unfolding concat_below
  gathered_in zero x m = absurd m
  gathered_in (suc n) x m =
      ⊎_elim (λ q. let t = gathered_in n x q in (t.0, omega arith, t.2)) (λ q. (n, omega arith, q)) (in_cases x (concat_below f n) (f n) m)

  pub length_gathered : (n : ℕ) → length (concat_below f n) ≡ sum_below (λ k. length (f k)) n
  unfolding concat_below sum_below
  length_gathered zero = refl
  length_gathered (suc n) = rw length-append (omega (arith, length_gathered n))

  -- with none twice in each list and none in two of them
  pub nodup_gathered : (n : ℕ) → ((k : ℕ) → k < n → NoDup (f k)) → ((j k x : ℕ) → j < k → k < n → In x (f j) → In x (f k) → ⊥) → NoDup (concat_below f n)
  unfolding concat_below
  nodup_gathered zero d a = tt
  nodup_gathered (suc n) d a =
      nodup_append (concat_below f n) (f n) (nodup_gathered n (λ k l. d k (omega arith)) (λ j k x p q. a j k x p (omega arith))) (d n (omega arith))
      (λ x m k. let t = gathered_in n x m in a t.0 n x t.1 (omega arith) t.2 k)
