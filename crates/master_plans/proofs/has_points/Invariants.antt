use Rattle.std.proofs.Common.{◌≡◌, true}
use Rattle.octets.specs.Below.{all_below}
use Rattle.schema.specs.Decode.{entry_of}
use Rattle.master_plans.specs.Shape.{empty_in}
use Rattle.master_plans.proofs.has_points.Given as goal

-- every set passed is one with no point of the record
abbrev pub invariant-loop-i : goal.invariant-loop-i
invariant-loop-i l = all_below (λ k. empty_in l.master.base.now l.master.entry.now l.n.0 l.master.number.0 (entry_of l.t k)) l.i ≡ true
