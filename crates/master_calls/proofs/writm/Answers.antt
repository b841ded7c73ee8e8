use borrow.Author.Rules.{rules}
use Rattle.std.proofs.lemmas.Result.{err_from_is_err_and}
use Rattle.plans.proofs.BodyLaws.{body_ok}
use Rattle.masters.proofs.FindLaws.{find_at}
use Rattle.master_calls.specs.MasterLaws.{writm-call}
use Rattle.master_calls.specs.CallLaws.{told-refused, told-at, by_search, writm-ends}
use Rattle.master_calls.proofs.writm.Goals as goal

pub returns-in_err-m : goal.returns-in_err-m
returns-in_err-m c =
    let a = c.args in
    let p = err_from_is_err_and c.from_residual.result c.from_residual.ensures.1 in
    rw (p.1, p.2) (by_search _ writm-call _ _ _ _ _ (told-refused a.base.now a.e a.key.now _ (search rules) c.of.ensures.0 c.in_err-m.was))

pub settle-requires-clause-plan_ok : goal.settle-requires-clause-plan_ok
settle-requires-clause-plan_ok c =
    let a = c.args in
    let h = (find_at _ _ _ _ (told-at a.base.now a.e a.key.now _ (search rules) c.of.ensures.0 c.in_ok-m.was)).in_set in
    rw c.body_plan.ensures (body_ok _ c.args.area.now _ _ h c.requires.area_len).0

pub returns : goal.returns
returns c =
    let a = c.args in
    writm-ends _ _ _ _ _ _ (told-at a.base.now a.e a.key.now _ (search rules) c.of.ensures.0 c.in_ok-m.was) c.body_plan.ensures (c.settle.ensures c.args.reference.0)
