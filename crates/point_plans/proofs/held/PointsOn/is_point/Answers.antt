-- `point_plans::damage::PointsOn::is_point` meets its contract: both tests, joined.
use borrow.Author.Rules.{rules}
use Rattle.terms.specs.Terms.{key_of}
use Rattle.point_plans.specs.DamageLaws.{point-read}
use Rattle.point_plans.proofs.held.PointsOn.is_point.Goals as goal

pub returns : goal.returns
returns c =
    let a = c.args in
    point-read {live = c.is_live-live.result} {same = c.key_is-same.result} {len = a.key.len} a.self.now.base.now a.self.now.entry.now a.self.now.path (key_of a.key) a.r.0 c.requires.len_value (search rules) (search rules)
