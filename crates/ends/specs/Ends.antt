-- How a call ends: with a refusal that changes nothing, with a record that is given, or with stores that are committed.
use Rattle.std.specs.Prelude.{ℕ, ◌≡◌, cond, List, eqb, Option, Some, None, Result, Ok, Err}
use Rattle.terms.specs.declared.RecordNo.{RecordNo}
use Rattle.terms.specs.declared.Reference.{Reference}
use Rattle.terms.specs.declared.Refusal.{Refusal}
use Rattle.terms.specs.declared.Status.{Status}
use Rattle.terms.specs.declared.Status.TheVariants.{Done, Damg}
use Rattle.terms.specs.Status.{is_done}
use Rattle.blocks.specs.declared.Check.{Check}
use Rattle.schema.specs.declared.Entry.{Entry}
use Rattle.records.specs.Areas.{area_of}
use Rattle.plans.specs.Plan.{Store, blocks_sealed, committed}
use Rattle.calls.specs.Call.{Outcome}
use Rattle.calls.specs.Reply.{or_end}

-- what the code came to is this outcome
pub record Ends (o : Outcome) (s : Status) (r : ℕ) (a b : List ℕ) : Type 0 where
  pub status : s ≡ o.status
  pub reference : r ≡ o.reference
  pub area : a ≡ o.area
  pub base : b ≡ o.base

-- the reference that a call returns: a refused one gives back what it was given
abbrev pub reference_returned : ℕ → Result Reference Refusal → ℕ
reference_returned given (Ok r) = r.0
reference_returned given (Err _) = given

-- the number of a record, 0 for none
abbrev pub number_of : Option RecordNo → ℕ
number_of (Some r) = r.0
number_of None = 0

-- a record that is given, or none: r is 0
unfoldable pub gave : List ℕ → Entry → ℕ → List ℕ → Outcome
gave b e r area = record { status = Done; reference = or_end r; area = cond (eqb r 0) area (area_of b e r); base = b }

-- stores: the kind of check, the status so far, the stores, the reference that a call returns where it is done
unfoldable pub settled : Check → Status → List ℕ → List Store → ℕ → ℕ → List ℕ → Outcome
settled k s b xs after reference area =
    cond (is_done s)
    (cond (blocks_sealed k b xs)
    (record { status = Done; reference = after; area = area; base = committed k b xs })
    (record { status = Damg; reference = reference; area = area; base = b }))
    (record { status = s; reference = reference; area = area; base = b })
