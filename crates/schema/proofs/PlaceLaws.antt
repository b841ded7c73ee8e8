-- Where the records of a set lie, as facts: each in the first 508 bytes of one block of the base, and no two on one another.
-- To `omega` a quotient, a remainder and a product of two variables are unknowns; the first section holds the few facts about them, and
-- everything below it is linear.
use Rattle.std.specs.Prelude.{ℕ, ◌+◌, ◌*◌, ◌-◌, ◌/◌, ◌%◌, ◌≤◌, ◌<◌, min, ◌≡◌, refl, ◌≢◌, ◌⊎◌, Bool, true, false, List, ltb, length, drop}
use Rattle.std.proofs.Common.{sym, ap, ◌∙◌, inl, inr, arith, mod-lt, mul-le-mul_right, div-lt_iff_lt-mul, div-add-mod', le-div_iff_mul-le, ltb-true, ltb-false, length-drop, length-take-le}
use Rattle.std.proofs.Math.Nat.{lt-div-mul-add, div-eq_of_lt-le, min-le_left, sub-zero}
use Rattle.octets.specs.Octets.{Apart}
use Rattle.blocks.specs.Blocks.{block_at, block_with, check_at}
use Rattle.schema.specs.declared.Entry.{Entry}
use Rattle.schema.specs.declared.Stretch.{Stretch}
use Rattle.schema.specs.Place.{InSet, block_of, place_of, record_of, stretch_from, next_stretch, blocks_held, records_held, LiesIn}

-- ---- quotients, remainders and products

pub order? : (a b : ℕ) → (a < b) ⊎ (a ≡ b) ⊎ (b < a)
order? a b = go (ltb a b) (ltb b a) refl refl
  where
    go : (s t : Bool) → ltb a b ≡ s → ltb b a ≡ t → (a < b) ⊎ (a ≡ b) ⊎ (b < a)
    go true t p q = inl (ltb-true a b p)
    go false true p q = inr (inr (ltb-true b a q))
    go false false p q = inr (inl (omega (arith, ltb-false a b p, ltb-false b a q)))

-- a larger number has no smaller quotient
pub div_mono : (a b k : ℕ) → 1 ≤ k → a ≤ b → a / k ≤ b / k
div_mono a b k h l =
    let t : a / k < b / k + 1 = (div-lt_iff_lt-mul {k = k} {x = a} {y = b / k + 1} (omega arith)).1 (omega (arith, lt-div-mul-add {a = b} {b = k} (omega arith))) in
    omega arith

-- the whole records of a block end by byte 508
pub in_block : (k per size : ℕ) → 1 ≤ per → per * size ≤ 508 → k % per * size + size ≤ 508
in_block k per size h l =
    let m : k % per < per = mod-lt k (omega arith) in
    omega (arith, mul-le-mul_right size m)

-- a quotient and a remainder tell the number
div-mod-same : (a b k : ℕ) → a / k ≡ b / k → a % k ≡ b % k → a ≡ b
div-mod-same a b k p q = sym (div-add-mod' a k) ∙ (rw (p, q) (div-add-mod' b k))

module _ (q k : ℕ) where
  div-along : (i : ℕ) → q % k + i < k → (q + i) / k ≡ q / k
  div-along i h = let d = div-add-mod' q k in div-eq_of_lt-le k (omega arith) (omega arith)

  mod-along : (i : ℕ) → q % k + i < k → (q + i) % k ≡ q % k + i
  mod-along i h = omega (arith, div-add-mod' q k, div-add-mod' (q + i) k, ap (λ (d : ℕ). d * k) (div-along i h))

  div_past : 1 ≤ k → (q + (k - q % k)) / k ≡ q / k + 1
  div_past h =
      let d = div-add-mod' q k in
      let m = mod-lt q {m = k} h in
      div-eq_of_lt-le k (omega arith) (omega arith)

  mod_past : 1 ≤ k → (q + (k - q % k)) % k ≡ 0
  mod_past h =
      let m = mod-lt q {m = k} h in
      omega (arith, div-add-mod' q k, div-add-mod' (q + (k - q % k)) k, ap (λ (d : ℕ). d * k) (div_past h))

-- ---- one record

-- a set that lies in a base lies in the largest
pub lies_most : {e : Entry} {n : ℕ} → LiesIn e n → LiesIn e 2097152
lies_most l = record { per = l.per; whole = l.whole; sized = l.sized; many = l.many; inside = omega (arith, l.inside, l.small); small = omega arith }

-- a record's block is in the base
pub block_inside : {e : Entry} {n : ℕ} (r : ℕ) → LiesIn e n → InSet e r → block_at (block_of e r) + 512 ≤ n
unfolding block_of
block_inside {e} r ok in_set = omega (arith, div_mono (r - 1) (e.records - 1) e.per ok.per (omega arith))

-- it lies in its block, in front of the check
pub place_in_block : {e : Entry} {n : ℕ} (r : ℕ) → LiesIn e n → (block_at (block_of e r) ≤ place_of e r) × (place_of e r + e.size ≤ check_at (block_of e r))
unfolding place_of
place_in_block {e} r ok = let h = in_block (r - 1) e.per e.size ok.per ok.whole in (omega arith, omega arith)

-- it lies in the base
pub place_inside : {e : Entry} {n : ℕ} (r : ℕ) → LiesIn e n → InSet e r → place_of e r + e.size ≤ n
place_inside r ok in_set = omega (arith, place_in_block r ok, block_inside r ok in_set)

-- the block of any place in it, and of its end
pub block_of_place : {e : Entry} {n : ℕ} (r o : ℕ) → LiesIn e n → o ≤ e.size → (place_of e r + o) / 512 ≡ block_of e r
block_of_place r o ok h = omega (arith, place_in_block r ok)

pub block_of_record : {e : Entry} {n : ℕ} (r : ℕ) → LiesIn e n → place_of e r / 512 ≡ block_of e r
block_of_record r ok = omega (arith, place_in_block r ok)

-- its bytes are as many as the set says
pub record_length : (b : List ℕ) (e : Entry) (r : ℕ) → LiesIn e (length b) → InSet e r → length (record_of b e r) ≡ e.size
record_length b e r ok in_set =
    let p = place_inside r ok in_set in
    length-take-le e.size (drop (place_of e r) b) (rw length-drop (omega arith))

-- ---- two records of one set

module _ {e : Entry} {n : ℕ} (r q : ℕ) (ok : LiesIn e n) where
  -- one lies behind the other
  records-ordered : (r - 1 ≡ q - 1 → ⊥) → (place_of e r + e.size ≤ place_of e q) ⊎ (place_of e q + e.size ≤ place_of e r)
  unfolding place_of block_of
  records-ordered h = go (order? ((r - 1) / e.per) ((q - 1) / e.per)) (order? ((r - 1) % e.per) ((q - 1) % e.per))
    where
      below : (k : ℕ) → k % e.per * e.size + e.size ≤ 508
      below k = in_block k e.per e.size ok.per ok.whole

      go : ((r - 1) / e.per < (q - 1) / e.per) ⊎ ((r - 1) / e.per ≡ (q - 1) / e.per) ⊎ ((q - 1) / e.per < (r - 1) / e.per)
          → ((r - 1) % e.per < (q - 1) % e.per) ⊎ ((r - 1) % e.per ≡ (q - 1) % e.per) ⊎ ((q - 1) % e.per < (r - 1) % e.per)
          → (place_of e r + e.size ≤ place_of e q) ⊎ (place_of e q + e.size ≤ place_of e r)
      go (inl d) m = inl (omega (arith, below (r - 1)))
      go (inr (inr d)) m = inr (omega (arith, below (q - 1)))
      go (inr (inl d)) (inl m) = inl (omega (arith, mul-le-mul_right e.size m))
      go (inr (inl d)) (inr (inr m)) = inr (omega (arith, mul-le-mul_right e.size m))
      go (inr (inl d)) (inr (inl m)) = absurd (h (div-mod-same (r - 1) (q - 1) e.per d m))

  -- they have no place in common
  pub records-apart : InSet e r → InSet e q → r ≢ q → Apart (place_of e r) e.size (place_of e q) e.size
  records-apart in-r in-q h a b = go (records-ordered (λ k. h (omega arith)))
    where
      go : (place_of e r + e.size ≤ place_of e q) ⊎ (place_of e q + e.size ≤ place_of e r) → ⊥
      go (inl k) = omega arith
      go (inr k) = omega arith

-- ---- the records of one block, one behind the other

pub place-along : (e : Entry) (q i : ℕ) → q % e.per + i < e.per → place_of e (q + 1 + i) ≡ place_of e (q + 1) + i * e.size
unfolding place_of block_of
place-along e q i h =
    let s : q + 1 + i - 1 ≡ q + i = omega arith in
    let t : q + 1 - 1 ≡ q = omega arith in
    rw (s, t, div-along q e.per i h, mod-along q e.per i h) (omega arith)

-- a block that is passed: the next record begins the next block
next_block : {e : Entry} {n : ℕ} (q : ℕ) → LiesIn e n → place_of e (q + (e.per - q % e.per) + 1) ≡ block_at (block_of e (q + 1) + 1)
unfolding place_of block_of
next_block {e} q ok =
    let s : q + (e.per - q % e.per) + 1 - 1 ≡ q + (e.per - q % e.per) = omega arith in
    let t : q + 1 - 1 ≡ q = omega arith in
    rw (s, t, div_past q e.per ok.per, mod_past q e.per ok.per) (omega arith)

-- `s` are the records from q + 1 on in their block
module _ {e : Entry} {n : ℕ} (q : ℕ) (s : Stretch) (ok : LiesIn e n) (l : q < e.records) (h : s ≡ stretch_from e (q + 1)) where
  begins : s.at ≡ place_of e (q + 1)
  begins = ap (λ (x : Stretch). x.at) h

  counted : s.count ≡ min (e.per - q % e.per) (e.records - q)
  counted = let t : q + 1 - 1 ≡ q = omega arith in rw t at (ap (λ (x : Stretch). x.count) h)

  -- there is one at least, and no more than the set has
  pub some-held : 1 ≤ s.count
  some-held = omega (arith, counted, mod-lt q {m = e.per} ok.per)

  pub few-held : q + s.count ≤ e.records
  few-held = omega (arith, counted)

  -- they lie one behind the other, and in the base
  pub stretch_along : (i : ℕ) → i < s.count → place_of e (q + 1 + i) ≡ s.at + i * e.size
  stretch_along i k = rw begins (place-along e q i (omega (arith, counted)))

  pub stretch_inside : s.at + s.count * e.size ≤ n
  stretch_inside =
      let c = s.count in
      let w : c ≡ c - 1 + 1 = omega (arith, some-held) in
      omega (arith, stretch_along (c - 1) (omega (arith, some-held)), place_inside (q + 1 + (c - 1)) ok (omega arith, omega (arith, few-held)), ap (λ (m : ℕ). m * e.size) w)

  -- where they are not the last, the next begin the next block
  pub stretch_next : q + s.count < e.records → next_stretch e s (q + s.count) ≡ stretch_from e (q + s.count + 1)
  stretch_next m =
      let w : s.count ≡ e.per - q % e.per = omega (arith, counted) in
      let p : q + s.count + 1 - 1 ≡ q + s.count = omega arith in
      let at : block_at (block_with s.at + 1) ≡ place_of e (q + s.count + 1) = rw (begins, w, next_block q ok, block_of_record (q + 1) ok) refl in
      let count : min e.per (e.records - (q + s.count)) ≡ (stretch_from e (q + s.count + 1)).count = rw (p, w, mod_past q e.per ok.per, sub-zero e.per) refl in
      rw (at, count) refl

-- ---- the room behind the records of a block

-- what is known of the k-th block of a set: a record of the set begins it, it is in the base, and its records end by byte 508
pub record Held (e : Entry) (n k : ℕ) : Type 0 where
  pub some : k * e.per < e.records
  pub inside : block_at (e.first.0 + k) + 512 ≤ n
  pub whole : records_held e k * e.size ≤ 508

pub held : {e : Entry} {n : ℕ} (k : ℕ) → LiesIn e n → k < blocks_held e → Held e n k
held {e} {n} k ok l =
    let p = ok.per in
    let a : (k + 1) * e.per ≤ e.records + (e.per - 1) = (le-div_iff_mul-le {k = e.per} {x = k + 1} (omega arith)).0 (omega arith) in
    let s : k * e.per < e.records = omega arith in
    let q : k ≤ (e.records - 1) / e.per = (le-div_iff_mul-le {k = e.per} {x = k} (omega arith)).1 (omega arith) in
    record {
      some = s;
      inside = omega (arith, ok.inside);
      whole = omega (arith, ok.whole, mul-le-mul_right e.size (min-le_left e.per (e.records - k * e.per)));
    }
