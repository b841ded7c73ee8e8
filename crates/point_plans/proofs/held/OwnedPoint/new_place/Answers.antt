-- `point_plans::OwnedPoint::new_place` meets its contract: the lowest free record.
use borrow.Author.Rules.{rules}
use Rattle.points.specs.Points.{new_place}
use Rattle.point_plans.proofs.held.OwnedPoint.new_place.Goals as goal

pub returns : goal.returns
unfolding new_place
returns c = search rules
