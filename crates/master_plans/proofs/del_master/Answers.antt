use borrow.Author.Rules.{rules}
use Rattle.std.proofs.Common.{◌∙◌}
use Rattle.master_plans.specs.DelLaws.{del_points, del_no_points}
use Rattle.master_plans.proofs.del_master.Goals as goal

pub returns-then-has_points-clause-status_value : goal.returns-then-has_points-clause-status_value
returns-then-has_points-clause-status_value c =
    let a = c.args in
    del_points a.masters.now.base.now a.masters.now.entry.now a.h.0 a.r.0 a.t a.n.0 (search rules)

pub returns-clause-status_value : goal.returns-clause-status_value
returns-clause-status_value c =
    let a = c.args in
    c.del_unpointed.ensures.status_value ∙ del_no_points a.masters.now.base.now a.masters.now.entry.now a.h.0 a.r.0 a.t a.n.0 (search rules)
