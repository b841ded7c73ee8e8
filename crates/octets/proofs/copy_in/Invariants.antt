-- `octets::copy_in` meets its contract. The invariant: the first i bytes of src are stored.
use Rattle.std.proofs.Common.{◌≡◌, length, take}
use Rattle.octets.specs.Octets.{splice}
use Rattle.octets.proofs.copy_in.Given as goal

abbrev pub invariant-loop-i : goal.invariant-loop-i
invariant-loop-i l = (l.dst ≡ splice l.initial.dst l.at (take l.i l.src)) × (length l.dst ≡ length l.initial.dst)
