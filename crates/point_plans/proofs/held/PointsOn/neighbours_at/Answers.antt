-- `point_plans::links::PointsOn::neighbours_at` meets its contract, by the spot.
use borrow.Author.Rules.{rules}
use Rattle.points.specs.Points.{neighbours_at}
use Rattle.point_plans.proofs.held.PointsOn.neighbours_at.Goals as goal

pub returns-in-Last : goal.returns-in-Last
unfolding neighbours_at
returns-in-Last c = rw c.in-Last.is

pub returns-in-After : goal.returns-in-After
unfolding neighbours_at
returns-in-After c = rw c.in-After.is (search rules)

pub returns-in-Before : goal.returns-in-Before
unfolding neighbours_at
returns-in-Before c = rw c.in-Before.is (search rules)
