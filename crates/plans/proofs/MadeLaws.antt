-- A refusal's plan stores nothing.
use Rattle.std.specs.Prelude.{ℕ, ◌≡◌, refl, List, [], Result, Ok, Err}
use Rattle.terms.specs.declared.Refusal.{Refusal}
use Rattle.terms.specs.declared.Status.TheVariants.{Done}
use Rattle.terms.specs.Status.{status_of}
use Rattle.schema.specs.declared.Entry.{Entry}
use Rattle.plans.specs.declared.Plan.{Plan}
use Rattle.plans.specs.Stores.{word_stores, plan_stores}
use Rattle.plans.specs.Made.{no_plan, planned_of}

pub none-refused : (q : Result Plan Refusal) → (status_of q ≡ Done → ⊥) → planned_of q ≡ no_plan
none-refused (Ok p) n = absurd (n refl)
none-refused (Err why) n = refl

pub none_stored : (b : List ℕ) (e : Entry) (area : List ℕ) → plan_stores b e area no_plan ≡ []
unfolding plan_stores word_stores
none_stored b e area = refl
