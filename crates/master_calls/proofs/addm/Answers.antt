use borrow.Author.Rules.{rules}
use mathlib.Core.Path.{sym, ◌∙◌}
use Rattle.std.proofs.lemmas.Result.{err_from_is_err_and}
use Rattle.masters.proofs.WalkLaws.{synonym_last}
use Rattle.masters.specs.declared.Found.TheVariants.{At, Missing, Damaged}
use Rattle.master_calls.specs.CallLaws.{told-found, told-home, add-by_damage, by_presence, addm-refused, addm-ends}
use Rattle.master_calls.proofs.addm.Goals as goal

pub add_master-requires-clause-last_value : goal.add_master-requires-clause-last_value
add_master-requires-clause-last_value c =
    let m = c.of-masters.result in
    let w = rw (← c.of-masters.ensures.1) at c.home.ensures in
    λ o. rw (w, c.find-s.ensures.last_value) (synonym_last m.base.now m.entry.now _ (sym c.find-s.ensures.found_value ∙ c.in-Missing.is) (rw w at o))

pub returns-in_err-plan-in-Missing : goal.returns-in_err-plan-in-Missing
returns-in_err-plan-in-Missing c =
    let a = c.args in
    let k = c.of-k.ensures.0 in
    let p = err_from_is_err_and c.from_residual.result c.from_residual.ensures.1 in
    rw (p.1, p.2)
    (addm-refused _ _ _ _ _ _ (told-found a.base.now a.e a.key.now _ Missing (search rules) k c.in-Missing.is) (told-home _ _ _ c.home.ensures k) (search rules))

pub returns-in-Damaged : goal.returns-in-Damaged
returns-in-Damaged c =
    let a = c.args in
    add-by_damage _ _ _ _ _ (told-found a.base.now a.e a.key.now _ Damaged (search rules) c.of-k.ensures.0 c.in-Damaged.is)

pub returns-in-At : goal.returns-in-At
returns-in-At c =
    let a = c.args in
    by_presence _ _ _ _ _ _ (told-found a.base.now a.e a.key.now _ (At _) (search rules) c.of-k.ensures.0 c.in-At.is)

pub returns-in_ok-plan-in-Missing : goal.returns-in_ok-plan-in-Missing
returns-in_ok-plan-in-Missing c =
    let a = c.args in
    let k = c.of-k.ensures.0 in
    let s = c.of-masters.ensures in
    addm-ends _ _ _ _ _ _ (told-found a.base.now a.e a.key.now _ Missing (search rules) k c.in-Missing.is) (told-home _ _ _ c.home.ensures k)
    (search rules) ((rw (s.0, s.1, c.in_ok-plan-in-Missing.was) at c.add_master.ensures.stands_for).stores a.area.now) (c.settle.ensures a.reference.0)
