-- `point_plans::search::area_places` meets its contract. The invariant: the places of the paths passed are kept, and `from` is the next one.
use Prim.Native.Nat.{◌*◌, ◌≤◌}
use mathlib.Core.Path.{◌≡◌}
use lib.ListN.{length, take, drop}
use Rattle.octets.specs.Below.{upto}
use Rattle.records.specs.Areas.{area_key_place}
use Rattle.point_plans.proofs.search.area_places.Given as goal

abbrev pub invariant-loop-k : goal.invariant-loop-k
invariant-loop-k l = (l.from ≡ area_key_place l.e l.k) × (l.from ≤ 255 * l.k) × (length l.at ≡ 4) × (take l.k l.at ≡ upto (area_key_place l.e) l.k) × (drop l.k l.at ≡ drop l.k l.initial.at)
