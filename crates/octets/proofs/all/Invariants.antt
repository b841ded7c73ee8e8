-- `octets::all` meets its contract. The invariant: what is left decides.
use Rattle.std.proofs.Common.{◌≡◌, drop}
use Rattle.octets.specs.Octets.{every, is}
use Rattle.octets.proofs.all.Given as goal

abbrev pub invariant-loop-b : goal.invariant-loop-b
invariant-loop-b l = every (is l.v) (drop l.b-index l.s) ≡ every (is l.v) l.s
