use mathlib.Core.Path.{refl, sym, ◌∙◌}
use Rattle.std.proofs.lemmas.Result.{err_from_is_err_and}
use Rattle.terms.specs.Laws.{refusal-counts}
use Rattle.sweep.specs.Swept.{Sweeps}
use Rattle.sweep.specs.SweptLaws.{sweep_unplaced, sweeps-set}
use Rattle.terms.specs.declared.Status.TheVariants.{Done}
use Rattle.store.specs.BehindLaws.{refused_behind, sweep_carried}
use Rattle.store.proofs.on_any.on_any.Goals as goal
use Rattle.store.proofs.on_any.on_any.Goals.{In_ok-with_forms}

pub returns-in_err-e : goal.returns-in_err-e
returns-in_err-e c =
    let p = err_from_is_err_and c.from_residual.result c.from_residual.ensures.1 in
    rw (p.1, p.2) (refused_behind _ _ _ _ _ _ _ (refusal-counts _) (sweep_unplaced _ _ _ _ _ (sym c.find_any.ensures ∙ c.in_err-e.was)))

pub returns-in_err-with_forms : goal.returns-in_err-with_forms
returns-in_err-with_forms c =
    let p = err_from_is_err_and c.from_residual-in_err-with_forms.result c.from_residual-in_err-with_forms.ensures.1 in
    let laid = c.requires.laid in
    rw (p.1, p.2)
    (refused_behind _ _ _ _ _ _ _ (refusal-counts _)
    (sweeps-set _ _ _ _ _ (record { ok = laid.ok; fields = laid.fields; size = refl }) (sym c.find_any.ensures ∙ c.in_ok-e.was) (rw c.in_err-with_forms.was at c.with_forms.ensures)).status)

swept : (c : In_ok-with_forms) → Sweeps c.args.t c.args.set.now c.args.reference.0 c.args.key.now c.args.area.now c.in_ok-e.e Done
swept c =
    let laid = c.requires.laid in
    sweeps-set _ _ _ _ _ (record { ok = laid.ok; fields = laid.fields; size = refl }) (sym c.find_any.ensures ∙ c.in_ok-e.was) (rw c.in_ok-with_forms.was at c.with_forms.ensures)

pub rdnxt-requires-clause-reference_le_records : goal.rdnxt-requires-clause-reference_le_records
rdnxt-requires-clause-reference_le_records c = ((swept (goal.at.rdnxt-requires-clause-reference_le_records c).In_ok-with_forms).known refl).reference

pub rdnxt-requires-clause-area_len : goal.rdnxt-requires-clause-area_len
rdnxt-requires-clause-area_len c = ((swept (goal.at.rdnxt-requires-clause-area_len c).In_ok-with_forms).known refl).area

pub returns : goal.returns
returns c = sweep_carried _ _ _ _ _ _ _ (swept (goal.at.returns c).In_ok-with_forms) refl c.rdnxt.ensures
