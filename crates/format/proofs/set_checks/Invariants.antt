-- `format::set_checks` meets its contract. The invariant: the checks of the blocks passed are set, and nothing else is changed.
use mathlib.Core.Path.{◌≡◌}
use lib.ListN.{length}
use Rattle.blocks.specs.declared.Check.{Check}
use Rattle.plans.specs.Plan.{seal_below}
use Rattle.format.proofs.set_checks.Given as goal

abbrev pub invariant-loop-i : goal.invariant-loop-i
invariant-loop-i l = ((k : Check) → l.base ≡ seal_below k l.i l.initial.base) × (length l.base ≡ length l.initial.base)
