-- `scan::next_live` meets its contract: above the last record there is none, and below it the scan decides.
use Rattle.std.proofs.Common.{◌+◌, ◌-◌, arith}
use Rattle.octets.specs.BelowLaws.{lowest_from_ge}
use Rattle.records.specs.Records.{is_live}
use Rattle.schema.specs.Numbers.{record_nowhere}
use Rattle.scan.proofs.next_live.Goals as goal

pub returns-then-from-set : goal.returns-then-from-set
returns-then-from-set c =
    let a = c.args in
    record_nowhere a.set.now.entry.now.records _ (omega (arith, c.if-from-set.true, lowest_from_ge (is_live a.set.now.base.now a.set.now.entry.now) (a.set.now.entry.now.records - a.from) (a.from + 1)))
