-- `scan::scan` meets its contract. The invariant: while records are left, `s` are the next of them that lie in one block, and the
-- records not passed yet decide.
use Rattle.std.proofs.Common.{◌≡◌, ◌+◌, ◌-◌, ◌≤◌, ◌<◌}
use Rattle.schema.specs.Place.{stretch_from}
use Rattle.scan.specs.Wanted.{wanted_above}
use Rattle.scan.proofs.scan.Given as goal

abbrev pub invariant-loop-passed : goal.invariant-loop-passed
invariant-loop-passed l = record {
  few : l.passed ≤ l.set.entry.now.records;
  enters : l.passed < l.set.entry.now.records → l.s ≡ stretch_from l.set.entry.now (l.passed + 1);
  left : wanted_above l.live l.set.base.now l.set.entry.now l.passed ≡ wanted_above l.live l.set.base.now l.set.entry.now l.from;
}

abbrev pub decreases-loop-passed : goal.decreases-loop-passed
decreases-loop-passed l = l.set.entry.now.records - l.passed
