-- `signon::on_points::Chains::path_ride` meets its contract: the ride of the master's key, from its first.
use Rattle.std.proofs.Common.{rules, ap, ◌∙◌}
use Rattle.signon.specs.Judged.{ridden_of}
use Rattle.signon.specs.PointLaws.{path_ride-is}
use Rattle.signon.proofs.on_points.Chains.path_ride.Goals as goal

pub returns : goal.returns
returns c =
    let s = c.args.self.now in
    (rw (c.points.ensures.0, c.points.ensures.1) at c.ride.ensures)
    ∙ ap ridden_of (path_ride-is s.base.now s.entry.now s.path s.masters.now c.args.m.0 (search rules) (search rules))
