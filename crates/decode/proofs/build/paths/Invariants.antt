-- `decode::build::paths` meets its contract. The invariant: the slots passed are filled, the others empty.
use mathlib.Core.Path.{◌≡◌}
use lib.ListN.{length}
use Rattle.octets.specs.Below.{upto}
use Rattle.decode.specs.DecodeLaws.{filled}
use Rattle.schema.specs.Decode.{empty_path, full_path}
use Rattle.decode.proofs.build.paths.Given as goal

abbrev pub invariant-loop-j : goal.invariant-loop-j
invariant-loop-j l = (length l.paths ≡ 4) × (l.paths ≡ upto (filled (full_path l.s l.i) empty_path l.j) 4)
