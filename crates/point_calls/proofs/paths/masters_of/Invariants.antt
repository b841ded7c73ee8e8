-- `point_calls::paths::masters_of` meets its contract. The invariant: the masters of the paths passed are kept.
use mathlib.Core.Path.{◌≡◌}
use lib.ListN.{length, take}
use Rattle.octets.specs.Below.{upto}
use Rattle.schema.specs.Decode.{masters_on}
use Rattle.point_calls.proofs.paths.masters_of.Given as goal

abbrev pub invariant-loop-k : goal.invariant-loop-k
invariant-loop-k l = (length l.all ≡ 4) × (take l.k l.all ≡ upto (masters_on l.t l.e) l.k)
