-- The scans: a test for both answers, `lowest_from` in pieces, and what is seen of the records of one block. The lowest free record is free.
use Rattle.std.specs.Prelude.{ℕ, zero, suc, ◌+◌, ◌*◌, ◌-◌, ◌≤◌, ◌<◌, ◌≡◌, refl, Bool, true, false, cond, List}
use Rattle.std.proofs.Common.{sym, ap, ◌∙◌, arith, mul-le-mul_right}
use Rattle.std.proofs.Math.Bool.{not}
use Rattle.std.specs.Bool.{beq}
use borrow.Author.Tests.{ltb-false, not-true}
use Rattle.octets.specs.SpliceLaws.{get_d_run}
use Rattle.octets.specs.Below.{lowest_from}
use Rattle.octets.specs.BelowLaws.{lowest_from-turn, lowest_from_hit, lowest_from_ge, lowest_from-at}
use Rattle.schema.specs.declared.Entry.{Entry}
use Rattle.schema.specs.declared.Stretch.{Stretch}
use Rattle.schema.specs.Place.{InSet, LiesIn, stretch_from, stretch_of}
use Rattle.schema.proofs.PlaceLaws.{few-held, stretch_along}
use Rattle.records.specs.Records.{is_live}
use Rattle.scan.specs.Scan.{lowest_free, is_full}
use Rattle.scan.specs.Wanted.{is_wanted, wanted, wanted_in}

-- the code's test
pub wanted-is : (live l : Bool) → beq l live ≡ is_wanted live l
wanted-is true true = refl
wanted-is true false = refl
wanted-is false true = refl
wanted-is false false = refl

-- ---- lowest_from in pieces: with m numbers tried, n are left

module _ (f : ℕ → Bool) (m n k : ℕ) where
  stays-turn : (t : Bool) → f k ≡ t → (lowest_from f m (k + 1) < k + 1 + m → lowest_from f (m + n) (k + 1) ≡ lowest_from f m (k + 1))
      → lowest_from f (suc m) k < k + suc m → lowest_from f (suc m + n) k ≡ lowest_from f (suc m) k
  stays-turn true e more h = lowest_from_hit f (suc m + n) (m + n) k (omega arith) e ∙ sym (lowest_from_hit f (suc m) m k (omega arith) e)
  stays-turn false e more h =
      let q = lowest_from-turn f (suc m) m k (omega arith) e in
      lowest_from-turn f (suc m + n) (m + n) k (omega arith) e ∙ more (omega arith) ∙ sym q

  goes_turn : (t : Bool) → f k ≡ t → (k + 1 + m ≤ lowest_from f m (k + 1) → lowest_from f (m + n) (k + 1) ≡ lowest_from f n (k + 1 + m))
      → k + suc m ≤ lowest_from f (suc m) k → lowest_from f (suc m + n) k ≡ lowest_from f n (k + suc m)
  goes_turn true e more h = absurd (omega (arith, lowest_from_hit f (suc m) m k (omega arith) e))
  goes_turn false e more h =
      let q = lowest_from-turn f (suc m) m k (omega arith) e in
      let p : k + 1 + m ≡ k + suc m = omega arith in
      lowest_from-turn f (suc m + n) (m + n) k (omega arith) e ∙ (rw p at (more (omega arith)))

-- an answer among the m stands
pub lowest_from-stays : (f : ℕ → Bool) (m n k : ℕ) → lowest_from f m k < k + m → lowest_from f (m + n) k ≡ lowest_from f m k
lowest_from-stays f zero n k h = absurd (omega (arith, lowest_from_ge f 0 k))
lowest_from-stays f (suc m) n k h = stays-turn f m n k (f k) refl (λ l. lowest_from-stays f m n (k + 1) l) h

-- and where there is none among them, it is that of the rest
pub lowest_from_goes : (f : ℕ → Bool) (m n k : ℕ) → k + m ≤ lowest_from f m k → lowest_from f (m + n) k ≡ lowest_from f n (k + m)
lowest_from_goes f zero n k h = let p : 0 + n ≡ n = omega arith in let q : k + 0 ≡ k = omega arith in rw (p, q)
lowest_from_goes f (suc m) n k h = goes_turn f m n k (f k) refl (λ l. lowest_from_goes f m n (k + 1) l) h

-- the same tests, k numbers higher
cond-add : (t : Bool) (k a b : ℕ) → cond t (k + a) (k + b) ≡ k + cond t a b
cond-add true k a b = refl
cond-add false k a b = refl

pub lowest_from_shift : (f g : ℕ → Bool) (k n j : ℕ) → ((i : ℕ) → j ≤ i → i < j + n → f (k + i) ≡ g i) → lowest_from f n (k + j) ≡ k + lowest_from g n j
unfolding lowest_from
lowest_from_shift f g k zero j h = refl
lowest_from_shift f g k (suc n) j h =
    let p : k + j + 1 ≡ k + (j + 1) = omega arith in
    rw (h j (omega arith) (omega arith), p, lowest_from_shift f g k n (j + 1) (λ i a b. h i (omega arith) (omega arith)))
    (cond-add (g j) k j (lowest_from g n (j + 1)))

-- ---- the scan: q records are passed, and `s` are the next of them that lie in one block

module _ {e : Entry} {len : ℕ} (q : ℕ) (s : Stretch) (ok : LiesIn e len) (l : q < e.records) (h : s ≡ stretch_from e (q + 1)) (size : 1 ≤ e.size) (live : Bool) (b : List ℕ) where
  -- what is seen of record q + 1 + i
  along : (i : ℕ) → i < s.count → wanted live b e (q + 1 + i) ≡ wanted_in live (stretch_of b e s) e.size i
  along i k =
      rw (stretch_along q s ok l h i k, get_d_run b s.at (s.count * e.size) (i * e.size) (omega (arith, mul-le-mul_right e.size k))) refl

  seen : lowest_from (wanted live b e) s.count (q + 1) ≡ q + 1 + lowest_from (wanted_in live (stretch_of b e s) e.size) s.count 0
  seen =
      let z : q + 1 + 0 ≡ q + 1 = omega arith in
      rw z at (lowest_from_shift (wanted live b e) (wanted_in live (stretch_of b e s) e.size) (q + 1) s.count 0 (λ i a k. along i (omega arith)))

  module _ (i : ℕ) (part : List ℕ) (lent : part ≡ stretch_of b e s) (r : i ≡ lowest_from (wanted_in live part e.size) s.count 0) where
    answered : lowest_from (wanted live b e) s.count (q + 1) ≡ q + 1 + i
    answered = seen ∙ ap (λ (j : ℕ). q + 1 + j) (sym (rw lent at r))

    pub scan_hit : i < s.count → q + 1 + i ≡ lowest_from (wanted live b e) (e.records - q) (q + 1)
    scan_hit k =
        let m : e.records - q ≡ s.count + (e.records - (q + s.count)) = omega (arith, few-held q s ok l h) in
        rw m (sym (lowest_from-stays (wanted live b e) s.count (e.records - (q + s.count)) (q + 1) (omega (arith, answered)) ∙ answered))

    pub scan_miss : s.count ≤ i → lowest_from (wanted live b e) (e.records - q) (q + 1) ≡ lowest_from (wanted live b e) (e.records - (q + s.count)) (q + s.count + 1)
    scan_miss k =
        let m : e.records - q ≡ s.count + (e.records - (q + s.count)) = omega (arith, few-held q s ok l h) in
        let p : q + s.count + 1 ≡ q + 1 + s.count = omega arith in
        rw (m, p) (lowest_from_goes (wanted live b e) s.count (e.records - (q + s.count)) (q + 1) (omega (arith, answered)))

-- ---- the lowest free record

-- of a set that is not full it is a free record of the set
module _ (b : List ℕ) (e : Entry) where
  pub lowest_free_in : is_full b e ≡ false → InSet e (lowest_free b e)
  unfolding lowest_free
  lowest_free_in h = (lowest_from_ge (λ r. not (is_live b e r)) e.records 1, ltb-false e.records _ h)

  pub lowest_free_free : is_full b e ≡ false → is_live b e (lowest_free b e) ≡ false
  unfolding lowest_free
  lowest_free_free h =
      let l = ltb-false e.records _ h in
      not-true _ (lowest_from-at (λ r. not (is_live b e r)) e.records 1 (omega arith))
