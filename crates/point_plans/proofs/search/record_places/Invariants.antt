-- `point_plans::search::record_places` meets its contract. The invariant: the places of the paths passed are kept.
use mathlib.Core.Path.{◌≡◌}
use lib.ListN.{length, take, drop}
use Rattle.octets.specs.Below.{upto}
use Rattle.schema.specs.Decode.{path_of}
use Rattle.point_plans.proofs.search.record_places.Given as goal

abbrev pub invariant-loop-k : goal.invariant-loop-k
invariant-loop-k l = (length l.at ≡ 4) × (take l.k l.at ≡ upto (λ j. (path_of l.e j).at) l.k) × (drop l.k l.at ≡ drop l.k l.initial.at)
