-- `signon::on_points::live_count` meets its contract. The invariant: the live records passed are counted.
use Rattle.std.proofs.Common.{◌≡◌, ◌≤◌}
use Rattle.octets.specs.Below.{count_below}
use Rattle.signon.specs.PointLaws.{live_at}
use Rattle.signon.proofs.on_points.live_count.Given as goal

abbrev pub invariant-loop-k : goal.invariant-loop-k
invariant-loop-k l = (l.count ≡ count_below (live_at l.set.base.now l.set.entry.now) l.k) × (l.count ≤ l.k)
