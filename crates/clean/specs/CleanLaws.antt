-- The laws of a clean data base: how the loops of its tests end, and what is asked of one record.
use Rattle.std.specs.Prelude.{ℕ, ◌≤◌, ◌≡◌, refl, Bool, true, false, List, ◌+◌, ◌<◌, ◌&&◌, not}
use Rattle.std.proofs.Common.{sym, ◌∙◌, arith, eq-eqb}
use Rattle.std.proofs.Math.Path.{ap}
use Rattle.octets.specs.Octets.{run, all_zero, byte_at}
use Rattle.octets.specs.SpliceLaws.{run_run}
use Rattle.schema.specs.declared.Entry.{Entry}
use Rattle.schema.specs.Place.{place_of, record_of}
use Rattle.records.specs.Records.{is_live, state_of}
use Rattle.sound.specs.Sound.{record_clean}
use Rattle.std.proofs.lemmas.Bool.{not-true, not-false}
use Rattle.octets.specs.Below.{all_below}
use Rattle.octets.specs.BelowLaws.{all_below-turn, all_below-fails}
use Rattle.records.proofs.RecordLaws.{state-part}

-- ---- a loop that tests the numbers below n and leaves at the first that fails: a turn, the way out, the end. r is what the code was told.

module _ (f : ℕ → Bool) where
  pub passes : (i : ℕ) {r : Bool} → r ≡ f i → not r ≡ false → all_below f i ≡ true → all_below f (i + 1) ≡ true
  passes i {r} e h a = all_below-turn f i a (sym e ∙ not-false r h)

  pub fails : (n i : ℕ) {r : Bool} → i < n → r ≡ f i → not r ≡ true → false ≡ all_below f n
  fails n i {r} l e h = sym (all_below-fails f n i l (sym e ∙ not-true r h))

  pub ends : (n i : ℕ) → i ≤ n → n ≤ i → all_below f i ≡ true → true ≡ all_below f n
  ends n i a b h = let q : i ≡ n = omega arith in sym (rw q at h)

-- ---- two tests, the second only where the first holds: the way out, and the end

pub stops : (a b : Bool) {p : Bool} → p ≡ a → not p ≡ true → false ≡ (a && b)
stops a b {p} e h = rw (← e, not-true p h) refl

pub goes_on : (a b : Bool) {p q : Bool} → p ≡ a → not p ≡ false → q ≡ b → q ≡ (a && b)
goes_on a b {p} e h d = rw (← e, not-false p h) d

-- ---- one record, from the part that was lent

module _ (b : List ℕ) (e : Entry) (r : ℕ) {part : List ℕ} (lent : part ≡ record_of b e r) where
  pub clean_live : 4 ≤ e.size → {l : Bool} → l ≡ is_live b e r → l ≡ true → {c : Bool} → c ≡ all_zero (run part 1 3) → c ≡ record_clean b e r
  unfolding record_clean
  clean_live four el h q = rw (← el, h) (q ∙ (rw (lent, run_run b (place_of e r) e.size 1 3 four) refl))

  pub clean_free : {l : Bool} → l ≡ is_live b e r → l ≡ false → {c : Bool} → c ≡ all_zero part → c ≡ record_clean b e r
  unfolding record_clean
  clean_free el h q = rw (← el, h) (q ∙ ap all_zero lent)

-- the same, by the state byte of the part
module _ (b : List ℕ) (e : Entry) (r : ℕ) {part : List ℕ} (lent : part ≡ record_of b e r) (four : 4 ≤ e.size) where
  state_lent : byte_at part 0 ≡ state_of b e r
  state_lent = rw lent (state-part b e r (omega arith))

  pub clean-live : {c : Bool} → byte_at part 0 ≡ 1 → c ≡ all_zero (run part 1 3) → c ≡ record_clean b e r
  unfolding record_clean
  clean-live h q = rw (eq-eqb _ _ (sym state_lent ∙ h)) (q ∙ (rw (lent, run_run b (place_of e r) e.size 1 3 four) refl))
