-- `point_plans::links::new_links` meets its contract. The invariant: the neighbours on the paths passed are kept.
use mathlib.Core.Path.{◌≡◌}
use lib.ListN.{length, take, drop}
use Rattle.octets.specs.Below.{upto}
use Rattle.point_plans.specs.Paths.{link_at}
use Rattle.point_plans.proofs.links.new_links.Given as goal

abbrev pub invariant-loop-k : goal.invariant-loop-k
invariant-loop-k l = (length l.links ≡ 4) × (take l.k l.links ≡ upto (link_at l.base l.entry l.owners l.spot l.named) l.k) × (drop l.k l.links ≡ drop l.k l.initial.links)
