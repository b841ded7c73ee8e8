-- The plan of WRITM and WRITV: "WRITM and WRITV replace the D bytes."
use Rattle.std.specs.Prelude.{ℕ, ◌≡◌, List, [], ◌∷◌, length}
use Rattle.std.proofs.Math.Path.{refl}
use native.Mathlib.Omega.{arith}
use Rattle.terms.specs.declared.RecordNo.{RecordNo}
use Rattle.schema.specs.declared.Entry.{Entry}
use Rattle.schema.specs.Place.{InSet}
use Rattle.records.specs.Areas.{area_length, area_body}
use Rattle.plans.specs.Plan.{store_run}
use Rattle.plans.specs.PlanOk.{PlanOk, AreaOk}
use Rattle.plans.specs.Stores.{word_stores, plan_stores}
use Rattle.plans.specs.Made.{body_plan}

module _ (e : Entry) (area : List ℕ) (r : RecordNo) where
  pub body_stores : (b : List ℕ) → plan_stores b e area (body_plan r) ≡ store_run e r.0 e.body (area_body e area) ∷ []
  unfolding plan_stores word_stores
  body_stores b = refl

  pub body_ok : (n : ℕ) → InSet e r.0 → length area ≡ area_length e → PlanOk n e (body_plan r) × AreaOk (body_plan r).head e area
  unfolding word_stores
  body_ok n i l = (record { few = omega arith; head = i; words = tt; records = tt; wiped = omega arith }, l)
