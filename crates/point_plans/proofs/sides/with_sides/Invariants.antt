-- `point_plans::sides::with_sides` meets its contract. The invariant: the plan has the words of the paths passed.
use Prim.Native.Nat.{◌*◌}
use Rattle.point_plans.specs.Paths.{words_below}
use Rattle.point_plans.specs.Plans.{Longer}
use Rattle.point_plans.proofs.sides.with_sides.Given as goal

abbrev pub invariant-loop-k : goal.invariant-loop-k
invariant-loop-k l = Longer l.initial.made l.made (2 * l.k) (words_below l.e l.owners l.links l.values l.k)
