use borrow.Author.Rules.{rules}
use Rattle.std.proofs.Common.{refl}
use Rattle.std.proofs.lemmas.Result.{err_from_is_err_and}
use Rattle.masters.proofs.FindLaws.{find_at}
use Rattle.master_calls.specs.CallLaws.{told-refused, told-at, told-home, del_by_search, delm-refused, delm-ends}
use Rattle.master_calls.proofs.delm.Goals as goal

pub returns-in_err-m : goal.returns-in_err-m
returns-in_err-m c =
    let a = c.args in
    let p = err_from_is_err_and c.from_residual.result c.from_residual.ensures.1 in
    rw (p.1, p.2) (del_by_search _ _ _ _ _ _ _ (told-refused a.base.now a.e a.key.now _ (search rules) c.of-k.ensures.0 c.in_err-m.was))

pub del_master-requires-clause-in_set_2 : goal.del_master-requires-clause-in_set_2
del_master-requires-clause-in_set_2 c =
    let s = c.of-masters.result in
    (find_at _ _ _ _ (told-at s.base.now s.entry.now _ _ c.named.ensures refl c.in_ok-m.was)).in_set

pub returns-in_err-plan : goal.returns-in_err-plan
returns-in_err-plan c =
    let a = c.args in
    let k = c.of-k.ensures.0 in
    let p = err_from_is_err_and c.from_residual-in_err-plan.result c.from_residual-in_err-plan.ensures.1 in
    rw (p.1, p.2)
    (delm-refused _ _ _ _ _ _ _ _ _ (told-at a.base.now a.e a.key.now _ (search rules) k c.in_ok-m.was) (told-home _ _ _ c.home.ensures k) (search rules))

pub returns : goal.returns
returns c =
    let a = c.args in
    let k = c.of-k.ensures.0 in
    let s = c.of-masters.ensures in
    delm-ends _ _ _ _ _ _ _ _ _ (told-at a.base.now a.e a.key.now _ (search rules) k c.in_ok-m.was) (told-home _ _ _ c.home.ensures k) (search rules)
    ((rw (s.0, s.1, c.in_ok-plan.was) at c.del_master.ensures.stands_for).stores a.area.now) (c.settle.ensures a.reference.0)
