-- `signon::on_points::Chains::points_met` meets its contract. The invariant: the chains of the masters passed are in order, and their points are
-- counted; no chain has more than 65,535, nor has a set more masters, so the sum fits.
use Rattle.std.proofs.Common.{◌≡◌, ◌*◌, ◌≤◌, true}
use Rattle.octets.specs.Below.{all_below}
use Rattle.sound.specs.Linear.{points_on}
use Rattle.signon.specs.PointLaws.{ends_at}
use Rattle.signon.proofs.on_points.Chains.points_met.Given as goal

abbrev pub invariant-loop-k : goal.invariant-loop-k
invariant-loop-k l =
    (all_below (ends_at l.self.base.now l.self.entry.now l.self.path l.self.masters.now) l.k ≡ true) × (l.met ≡ points_on l.self.base.now l.self.entry.now l.self.path l.self.masters.now l.k) × (l.met ≤ l.k * 65535)
