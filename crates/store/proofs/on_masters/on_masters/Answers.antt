use mathlib.Core.Path.{refl, sym, ◌∙◌}
use Rattle.std.proofs.lemmas.Result.{err_from_is_err_and}
use Rattle.terms.specs.Laws.{refusal-counts}
use Rattle.terms.specs.declared.Status.TheVariants.{Done}
use Rattle.master_calls.specs.Masters.{Places}
use Rattle.master_calls.specs.MasterLaws.{unplaced, places-set}
use Rattle.store.specs.Kinds.{master_operation}
use Rattle.store.specs.KindsLaws.{master-call}
use Rattle.store.specs.BehindLaws.{refused_behind, set_carried}
use Rattle.store.proofs.on_masters.on_masters.Goals as goal
use Rattle.store.proofs.on_masters.on_masters.Goals.{In_ok-with_forms}

pub returns-in_err-p : goal.returns-in_err-p
returns-in_err-p c =
    let p = err_from_is_err_and c.from_residual.result c.from_residual.ensures.1 in
    rw (p.1, p.2) (refused_behind _ _ _ _ _ _ _ (refusal-counts _) (unplaced _ _ _ _ _ _ (master-call c.args.m) (sym c.find_set.ensures ∙ c.in_err-p.was)))

pub returns-in_err-with_forms : goal.returns-in_err-with_forms
returns-in_err-with_forms c =
    let p = err_from_is_err_and c.from_residual-in_err-with_forms.result c.from_residual-in_err-with_forms.ensures.1 in
    rw (p.1, p.2)
    (refused_behind _ _ _ _ _ _ _ (refusal-counts _)
    (places-set _ _ _ _ _ _ (master-call c.args.m) c.requires.laid.ok (sym c.find_set.ensures ∙ c.in_ok-p.was) (rw (c.in_err-with_forms.was, c.from.ensures) at c.with_forms.ensures)).status)

placed : (c : In_ok-with_forms) → Places c.args.t (master_operation c.args.m) c.args.set.now c.args.reference.0 c.args.key.now c.args.area.now c.in_ok-p.p Done
placed c =
    places-set _ _ _ _ _ _ (master-call c.args.m) c.requires.laid.ok (sym c.find_set.ensures ∙ c.in_ok-p.was) (rw (c.in_ok-with_forms.was, c.from.ensures) at c.with_forms.ensures)

pub carry_out-requires-clause-set_known : goal.carry_out-requires-clause-set_known
carry_out-requires-clause-set_known c = (placed (goal.at.carry_out-requires-clause-set_known c).In_ok-with_forms).known refl

pub returns : goal.returns
returns c = set_carried _ _ _ _ _ _ _ _ (placed (goal.at.returns c).In_ok-with_forms) refl c.carry_out.ensures
