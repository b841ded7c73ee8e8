-- The tests that ADD-M and DEL-M share, and what they say.
use Rattle.std.specs.Prelude.{ℕ, ◌≤◌, ◌<◌, ◌≡◌, refl, Bool, true, false, not, ◌&&◌, List, eqb, Result, IfOk}
use Rattle.std.proofs.Common.{◌∙◌, arith, eqb-true, eq-eqb, ne_eqb, le-leb}
use Rattle.std.proofs.lemmas.Bool.{lt-leb}
use Rattle.std.proofs.lemmas.Result.{IfOk-weaker}
use Rattle.terms.specs.declared.Refusal.{Refusal}
use Rattle.schema.specs.declared.Entry.{Entry}
use Rattle.schema.specs.Place.{InSet, in_set}
use Rattle.records.specs.Records.{is_live}
use Rattle.plans.specs.declared.Plan.{Plan}
use Rattle.plans.specs.Plan.{Store}
use Rattle.masters.proofs.FindLaws.{in_set_true}
use Rattle.masters.specs.Root.{bad_root}
use Rattle.master_plans.specs.Shape.{StandsFor}

module _ (b : List ℕ) (e : Entry) (p : ℕ) where
  pub root_none : p ≡ 0 → false ≡ bad_root b e p
  root_none h = rw (eq-eqb p 0 h)

  pub root_above : e.records < p → true ≡ bad_root b e p
  root_above l = rw (ne_eqb p 0 (λ z. omega arith), le-leb 1 p (omega arith), lt-leb p e.records l)

  pub root_live : {t : Bool} → InSet e p → t ≡ is_live b e p → not t ≡ bad_root b e p
  root_live i h = rw (ne_eqb p 0 (λ z. omega arith), le-leb 1 p i.0, le-leb p e.records i.1, h)

  -- a pointer that is not bad is 0 or a record of the set
  pub not_bad : bad_root b e p ≡ false → p ≤ e.records
  not_bad h = by (eqb p 0) (in_set e p) (is_live b e p) refl refl h
    where
      by : (z s l : Bool) → eqb p 0 ≡ z → in_set e p ≡ s → (not z && not (s && l)) ≡ false → p ≤ e.records
      by true s l k i h = let q = eqb-true p 0 k in omega arith
      by false true l k i h = (in_set_true e p i).1
      by false false l k i h = absurd (let z : ◌≡◌ {A = ℕ} 0 1 = cc in omega arith)

-- what a plan stores may be said in another way
pub stands_as : {b : List ℕ} {e : Entry} {p : Plan} {f g : List ℕ → List Store} → StandsFor b e p f → ((area : List ℕ) → f area ≡ g area) → StandsFor b e p g
stands_as s h = record { stores = λ area. s.stores area ∙ h area; ok = s.ok }

pub stands_as-ok : (b : List ℕ) (e : Entry) {f g : List ℕ → List Store} (made : Result Plan Refusal) → IfOk made (λ p. StandsFor b e p f) → ((area : List ℕ) → f area ≡ g area)
    → IfOk made (λ p. StandsFor b e p g)
stands_as-ok b e made s h = IfOk-weaker made _ _ (λ p w. stands_as w h) s
