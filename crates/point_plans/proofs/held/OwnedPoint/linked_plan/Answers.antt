-- `point_plans::OwnedPoint::linked_plan` meets its contract: a head, and every path's two words.
use mathlib.Core.Path.{refl}
use lib.ListN.{replicate}
use Rattle.plans.specs.declared.Head.TheVariants.{Variable}
use Rattle.point_plans.specs.Paths.{both, both_on}
use Rattle.records.proofs.InBaseLaws.{points_most}
use Rattle.point_plans.specs.WithinLaws.{owners_most}
use Rattle.point_plans.specs.PlanLaws.{built, both-same}
use Rattle.point_plans.proofs.held.OwnedPoint.linked_plan.Goals as goal

pub with_sides-requires : goal.with_sides-requires
with_sides-requires c =
    let o = c.args.self.now in
    record { count_value = rw c.of-plan.ensures refl; points_in = points_most o.points_in; owners_in = owners_most o.owners o.points_in.lies o.owners_in; links_in = c.requires }

pub returns : goal.returns
returns c =
    let a = c.args in
    built a.self.now.entry.now a.self.now.owners a.links (replicate 4 (both a.r.0)) (both_on a.self.now.entry.now a.r.0) Variable a.r _ _ c.of-plan.ensures c.with_sides.ensures (both-same a.self.now.entry.now a.r.0 c.args.self.now.points_in.few)
