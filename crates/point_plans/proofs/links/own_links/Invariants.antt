-- `point_plans::links::own_links` meets its contract. The invariant: the neighbours on the paths passed are kept.
use mathlib.Core.Path.{◌≡◌}
use lib.ListN.{length, take, drop}
use Rattle.octets.specs.Below.{upto}
use Rattle.point_plans.specs.Paths.{link_on}
use Rattle.point_plans.proofs.links.own_links.Given as goal

abbrev pub invariant-loop-k : goal.invariant-loop-k
invariant-loop-k l = (length l.links ≡ 4) × (take l.k l.links ≡ upto (link_on l.base l.entry l.r.0) l.k) × (drop l.k l.links ≡ drop l.k l.initial.links)
