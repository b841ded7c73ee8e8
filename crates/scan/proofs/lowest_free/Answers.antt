-- `scan::lowest_free` meets its contract: the scan for a free record from the first on.
use Rattle.std.proofs.Math.Nat.{sub-zero}
use Rattle.scan.specs.Scan.{lowest_free}
use Rattle.scan.proofs.lowest_free.Goals as goal

pub returns : goal.returns
unfolding lowest_free
returns c = rw (sub-zero c.args.set.now.entry.now.records) at c.scan.ensures
