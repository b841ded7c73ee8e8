-- `rules::zeros` meets its contract. The invariant: the bytes passed are zero, or not.
use mathlib.Core.Path.{◌≡◌}
use lib.ListN.{take}
use Rattle.octets.specs.Octets.{all_zero}
use Rattle.rules.proofs.zeros.Given as goal

abbrev pub invariant-loop-b : goal.invariant-loop-b
invariant-loop-b l = l.ok ≡ all_zero (take l.b-index l.b-items)
