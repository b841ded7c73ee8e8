use borrow.Author.Rules.{rules}
use Rattle.std.proofs.lemmas.Result.{err_from_is_err_and}
use Rattle.masters.proofs.FindLaws.{find_at}
use Rattle.master_calls.specs.MasterLaws.{readm-call}
use Rattle.master_calls.specs.CallLaws.{told-refused, told-at, by_search, readm-ends}
use Rattle.master_calls.proofs.readm.Goals as goal

pub returns-in_err-m : goal.returns-in_err-m
returns-in_err-m c =
    let a = c.args in
    let p = err_from_is_err_and c.from_residual.result c.from_residual.ensures.1 in
    rw (p.1, p.2) (by_search _ readm-call _ _ _ _ _ (told-refused a.base.now a.e a.key.now _ (search rules) c.of.ensures.0 c.in_err-m.was))

pub give-requires-clause-in_set : goal.give-requires-clause-in_set
give-requires-clause-in_set c =
    let a = c.args in
    (find_at _ _ _ _ (told-at a.base.now a.e a.key.now _ (search rules) c.of.ensures.0 c.in_ok-m.was)).in_set

pub returns : goal.returns
returns c =
    let a = c.args in
    readm-ends _ _ _ _ _ _ (told-at a.base.now a.e a.key.now _ (search rules) c.of.ensures.0 c.in_ok-m.was) c.give.ensures
