-- `point_plans::OwnedPoint::delete` meets its contract: damaged, or a plan.
use mathlib.Core.Path.{refl, sym, ◌∙◌}
use Rattle.point_plans.specs.DamageLaws.{damaged-kept, links_in}
use Rattle.point_plans.specs.PlanLaws.{unlinked-same}
use Rattle.point_plans.proofs.held.OwnedPoint.delete.Goals as goal

pub returns-then-any_damaged-clause-status : goal.returns-then-any_damaged-clause-status
returns-then-any_damaged-clause-status c =
    let a = c.args in
    rw (damaged-kept a.self.now.base.now a.self.now.entry.now a.self.now.src.now a.self.now.at a.self.now.owners _ c.any_damaged.ensures c.own_links-links.ensures.result_value ∙ c.if-any_damaged.true) refl

pub unlinked_plan-requires : goal.unlinked_plan-requires
unlinked_plan-requires c =
    let a = c.args in
    links_in a.self.now.base.now a.self.now.entry.now a.self.now.src.now a.self.now.at a.self.now.owners _ (sym c.any_damaged.ensures ∙ c.if-any_damaged.false)

pub returns : goal.returns
returns c =
    let a = c.args in
    record {
      status = rw (damaged-kept a.self.now.base.now a.self.now.entry.now a.self.now.src.now a.self.now.at a.self.now.owners _ c.any_damaged.ensures c.own_links-links.ensures.result_value ∙ c.if-any_damaged.false) refl;
      built = unlinked-same a.self.now.entry.now a.self.now.owners c.own_links-links.ensures.result_value c.unlinked_plan.ensures;
    }
