-- The outcome of a call: status, reference, area and data base, for every call whatever its parameters. This is what the contract of
-- `call` cites.
use Rattle.std.specs.Prelude.{◌≡◌, cond, eqb}
use Rattle.terms.specs.declared.Status.{Status}
use Rattle.terms.specs.declared.Status.TheVariants.{Done}
use Rattle.terms.specs.Status.{status_number}
use Rattle.calls.specs.Call.{Call, Outcome}
use Rattle.calls.specs.Scene.{Scene, scene_of}
use Rattle.calls.specs.Ladder.{ladder, refusal}
use Rattle.calls.specs.Reply.{reference_after, area_after, base_after}

-- "Nonzero: reference as given, data base and area unchanged."
abbrev pub refused : Call → Status → Outcome
refused c s = record { status = s; reference = c.reference; area = c.area; base = c.base }

-- every test passed
unfoldable pub done : Scene → Call → Outcome
done x c = record { status = Done; reference = reference_after x c; area = area_after x c; base = base_after x c }

-- what a status makes of a call
unfoldable pub answered : Scene → Call → Status → Outcome
answered x c s = cond (eqb (status_number s) 0) (done x c) (refused c s)

unfoldable pub outcome_in : Scene → Call → Outcome
outcome_in x c = cond (eqb (status_number (refusal x c (ladder x))) 0) (done x c) (refused c (refusal x c (ladder x)))

unfoldable pub outcome : Call → Outcome
outcome c = outcome_in (scene_of c) c

-- "this is the outcome": what a contract says of the four results of a call
pub record IsOutcome (c : Call) (o : Outcome) : Type 0 where
  pub status : o.status ≡ (outcome c).status
  pub reference : o.reference ≡ (outcome c).reference
  pub area : o.area ≡ (outcome c).area
  pub base : o.base ≡ (outcome c).base
