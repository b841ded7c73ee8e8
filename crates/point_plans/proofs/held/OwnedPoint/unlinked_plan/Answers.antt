-- `point_plans::OwnedPoint::unlinked_plan` meets its contract: every path's two words, and the record wiped.
use mathlib.Core.Path.{refl, sym}
use lib.ListN.{take}
use lib.Seq.{get_or-take}
use Rattle.records.specs.Areas.{no_link}
use Rattle.plans.specs.declared.Head.TheVariants.{Nothing}
use Rattle.records.proofs.InBaseLaws.{points_most}
use Rattle.point_plans.specs.WithinLaws.{owners_most}
use Rattle.point_plans.specs.PlanLaws.{built, built-wiped}
use Rattle.point_plans.proofs.held.OwnedPoint.unlinked_plan.Goals as goal

pub with_sides-requires : goal.with_sides-requires
with_sides-requires c =
    let o = c.args.self.now in
    record { count_value = rw c.of-plan.ensures refl; points_in = points_most o.points_in; owners_in = owners_most o.owners o.points_in.lies o.owners_in; links_in = c.requires }

pub returns : goal.returns
returns c =
    let a = c.args in
    let ls = take a.self.now.entry.now.count a.links in
    built-wiped a.self.now.entry.now a.self.now.owners ls a.links ls Nothing a.r _ _ 0 a.r.0
    (built a.self.now.entry.now a.self.now.owners a.links a.links ls Nothing a.r _ _ c.of-plan.ensures c.with_sides.ensures (λ k l. sym (get_or-take a.self.now.entry.now.count a.links k no_link l)))
    c.with_wiped.ensures
