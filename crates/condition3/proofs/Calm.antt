-- A ladder does not say DAMG if each of its tests that would say so passes, once the tests in front of it have passed. And the tests of a
-- ladder that is passed, part by part.
use Prim.Native.Nat.{ℕ, zero, suc, ◌<◌}
use Rattle.std.proofs.Math.Path.{◌≡◌, ap}
use Rattle.std.specs.Prelude.{refl, ◌≢◌, ◌⊎◌, Bool, true, false, cond, not, ◌&&◌}
use Rattle.std.proofs.Common.{inl, inr}
use Rattle.std.proofs.Math.Logic.{⊎_elim}
use mathlib.Core.List.{List, [], ◌∷◌, ◌++◌}
use native.Mathlib.Omega.{arith}
use Rattle.octets.specs.Below.{concat_below}
use Rattle.octets.specs.BelowLaws.{same?}
use Rattle.octets.specs.TestLaws.{never_both}
use Rattle.terms.specs.declared.Status.{Status}
use Rattle.terms.specs.declared.Status.TheVariants.{Damg}
use Rattle.terms.specs.Status.{status_number}
use Rattle.calls.specs.Call.{Call}
use Rattle.calls.specs.Scene.{Scene}
use Rattle.calls.specs.Ladder.{Rung, rule_of, refuses, refusal}
use Rattle.calls.proofs.LadderLaws.{Passes}

abbrev pub Calm : Scene → Call → List Rung → Type 0
Calm x c [] = Unit {0}
Calm x c (r ∷ rs) = (((rule_of r).status ≢ Damg) ⊎ (refuses x c r ≡ false)) × (refuses x c r ≡ false → Calm x c rs)

-- one test, and those behind it
pub calm_test : {s : Status} {f : Bool} {More : Type 0} → (s ≢ Damg) ⊎ (f ≡ false) → (f ≡ false → More) → ((s ≢ Damg) ⊎ (f ≡ false)) × (f ≡ false → More)
calm_test h k = (h, k)

calm_one : (f : Bool) (s u : Status) → (s ≢ Damg) ⊎ (f ≡ false) → (f ≡ false → u ≢ Damg) → cond f s u ≢ Damg
calm_one true s u (inl n) k = n
calm_one true s u (inr e) k = absurd (never_both true refl e)
calm_one false s u h k = k refl

module _ (x : Scene) (c : Call) where
  pub calm_refusal : (rs : List Rung) → Calm x c rs → refusal x c rs ≢ Damg
  unfolding refusal
  calm_refusal [] h = λ e. let z : ◌≡◌ {A = ℕ} 0 16 = ap status_number e in omega arith
  calm_refusal (r ∷ rs) h = calm_one (refuses x c r) (rule_of r).status (refusal x c rs) h.0 (λ e. calm_refusal rs (h.1 e))

  pub calm_append : (rs more : List Rung) → Calm x c rs → (Passes x c rs → Calm x c more) → Calm x c (rs ++ more)
  calm_append [] more h k = k tt
  calm_append (r ∷ rs) more h k = (h.0, λ e. calm_append rs more (h.1 e) (λ p. k (e, p)))

  pub calm_below : (f : ℕ → List Rung) (n : ℕ) → ((k : ℕ) → k < n → Calm x c (f k)) → Calm x c (concat_below f n)
  unfolding concat_below
  calm_below f zero h = tt
  calm_below f (suc n) h = calm_append (concat_below f n) (f n) (calm_below f n (λ k l. h k (omega arith))) (λ p. h n (omega arith))

-- tests of other statuses
pub mild : (s : Status) (f : Bool) → status_number s < 16 → (s ≢ Damg) ⊎ (f ≡ false)
mild s f l = inl (λ e. let z : status_number s ≡ 16 = ap status_number e in omega arith)

abbrev pub Others : List Rung → Type 0
Others [] = Unit {0}
Others (r ∷ rs) = (status_number (rule_of r).status < 16) × Others rs

module _ (x : Scene) (c : Call) where
  pub others_calm : (rs : List Rung) → Others rs → Calm x c rs
  others_calm [] h = tt
  others_calm (r ∷ rs) h = (mild (rule_of r).status (refuses x c r) h.0, λ e. others_calm rs h.1)

  -- ---- what is passed

  pub passes-left : (rs more : List Rung) → Passes x c (rs ++ more) → Passes x c rs
  passes-left [] more h = tt
  passes-left (r ∷ rs) more h = (h.0, passes-left rs more h.1)

  pub passes-right : (rs more : List Rung) → Passes x c (rs ++ more) → Passes x c more
  passes-right [] more h = h
  passes-right (r ∷ rs) more h = passes-right rs more h.1

  pub passes_at : (f : ℕ → List Rung) (n k : ℕ) → k < n → Passes x c (concat_below f n) → Passes x c (f k)
  unfolding concat_below
  passes_at f zero k l h = absurd (omega arith)
  passes_at f (suc n) k l h =
      ⊎_elim (λ e. rw e (passes-right (concat_below f n) (f n) h)) (λ d. passes_at f n k (omega arith) (passes-left (concat_below f n) (f n) h)) (same? k n)

pub unasked : (a b : Bool) → (not a && b) ≡ false → a ≡ false → b ≡ false
unasked true b h e = absurd (never_both true refl e)
unasked false b h e = h

pub if_asked : (a b : Bool) → (a ≡ true → b ≡ false) → (a && b) ≡ false
if_asked true b f = f refl
if_asked false b f = refl
