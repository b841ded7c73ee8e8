-- `signon::on_points::ride` meets its contract. The invariant: what is left of the ride gives what the whole ride gives. The measure: how many
-- records may still be met.
use Rattle.std.proofs.Common.{◌≡◌, ◌-◌, ◌≤◌}
use Rattle.terms.specs.Terms.{key_of}
use Rattle.signon.specs.Judged.{ride_from}
use Rattle.signon.proofs.on_points.ride.Given as goal

abbrev pub invariant-loop-at : goal.invariant-loop-at
invariant-loop-at l =
    (l.count ≤ l.set.entry.now.records)
    × (ride_from (l.set.entry.now.records - l.count) l.set.base.now l.set.entry.now l.p (key_of l.k) l.count l.last l.at ≡ ride_from l.set.entry.now.records l.set.base.now l.set.entry.now l.p (key_of l.k) 0 0 l.first)

abbrev pub decreases-loop-at : goal.decreases-loop-at
decreases-loop-at l = l.set.entry.now.records - l.count
