-- `scan::in_block` meets its contract. The invariant: `p` is the place of record i, and what is left decides.
use Rattle.std.proofs.Common.{◌≡◌, ◌*◌, ◌-◌}
use Rattle.octets.specs.Below.{lowest_from}
use Rattle.scan.specs.Wanted.{wanted_in}
use Rattle.scan.proofs.in_block.Given as goal

abbrev pub invariant-loop-i : goal.invariant-loop-i
invariant-loop-i l = record {
  at : l.p ≡ l.i * l.size;
  left : lowest_from (wanted_in l.live l.records l.size) (l.n - l.i) l.i ≡ lowest_from (wanted_in l.live l.records l.size) l.n 0;
}
