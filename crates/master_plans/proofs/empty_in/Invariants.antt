use Rattle.std.proofs.Common.{◌≡◌, true}
use Rattle.octets.specs.Below.{all_below}
use Rattle.schema.specs.Decode.{path_of}
use Rattle.master_plans.specs.Shape.{empty_on}
use Rattle.master_plans.proofs.empty_in.Given as goal

-- every path passed is one with no point
abbrev pub invariant-loop-j : goal.invariant-loop-j
invariant-loop-j l = all_below (λ k. empty_on l.master.base.now l.master.entry.now l.n.0 l.master.number.0 (path_of l.x k)) l.j ≡ true
