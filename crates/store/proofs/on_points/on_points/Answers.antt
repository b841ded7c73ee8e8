use mathlib.Core.Path.{refl, sym, ◌∙◌}
use Rattle.std.proofs.lemmas.Result.{err_from_is_err_and}
use Rattle.terms.specs.Laws.{refusal-counts}
use Rattle.terms.specs.declared.Status.TheVariants.{Done}
use Rattle.point_calls.specs.OnPath.{Locates}
use Rattle.point_calls.specs.PathLaws.{unlocated, locates_path}
use Rattle.store.specs.Kinds.{point_operation}
use Rattle.store.specs.KindsLaws.{point-call}
use Rattle.store.specs.BehindLaws.{path_refused, path_carried}
use Rattle.store.proofs.on_points.on_points.Goals as goal
use Rattle.store.proofs.on_points.on_points.Goals.{In_ok-with_forms}

pub returns-in_err-l : goal.returns-in_err-l
returns-in_err-l c =
    let p = err_from_is_err_and c.from_residual.result c.from_residual.ensures.1 in
    rw (p.1, p.2) (path_refused _ _ _ _ _ _ _ _ (refusal-counts _) (unlocated _ _ _ _ _ _ _ (point-call c.args.m) (sym c.find_path.ensures ∙ c.in_err-l.was)))

pub returns-in_err-with_forms : goal.returns-in_err-with_forms
returns-in_err-with_forms c =
    let p = err_from_is_err_and c.from_residual-in_err-with_forms.result c.from_residual-in_err-with_forms.ensures.1 in
    rw (p.1, p.2)
    (path_refused _ _ _ _ _ _ _ _ (refusal-counts _)
    (locates_path _ _ _ _ _ _ _ (point-call c.args.m) c.requires.laid.ok (sym c.find_path.ensures ∙ c.in_ok-l.was) (rw (c.in_err-with_forms.was, c.from.ensures) at c.with_forms.ensures)).status)

located : (c : In_ok-with_forms) → Locates c.args.t (point_operation c.args.m) c.args.set.now c.args.path.now c.args.reference.0 c.args.key.now c.args.area.now c.in_ok-l.l Done
located c =
    locates_path _ _ _ _ _ _ _ (point-call c.args.m) c.requires.laid.ok (sym c.find_path.ensures ∙ c.in_ok-l.was) (rw (c.in_ok-with_forms.was, c.from.ensures) at c.with_forms.ensures)

pub carry_out-requires-clause-path_known : goal.carry_out-requires-clause-path_known
carry_out-requires-clause-path_known c = (located (goal.at.carry_out-requires-clause-path_known c).In_ok-with_forms).known refl

pub returns : goal.returns
returns c = path_carried _ _ _ _ _ _ _ _ _ (located (goal.at.returns c).In_ok-with_forms) refl c.carry_out.ensures
