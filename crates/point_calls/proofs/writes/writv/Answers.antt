use mathlib.Core.Path.{refl}
use borrow.Author.Rules.{rules}
use Rattle.std.proofs.lemmas.Result.{err_from_is_err_and}
use Rattle.plans.proofs.BodyLaws.{body_ok}
use Rattle.point_calls.specs.PathLaws.{writv-call}
use Rattle.point_calls.specs.SeekLaws.{seen, by-seek}
use Rattle.point_calls.specs.StoreLaws.{writv-refused, writv-ends}
use Rattle.point_calls.proofs.writes.writv.Goals as goal

pub returns-in_err-seek : goal.returns-in_err-seek
returns-in_err-seek c =
    let p = err_from_is_err_and c.from_residual.result c.from_residual.ensures.1 in
    rw (p.1, p.2) (by-seek _ writv-call _ _ _ _ _ _ _ _ (rw (c.of-path.ensures.0, c.of-path.ensures.1, c.of-path.ensures.2, c.of-path.ensures.3) at c.seek.ensures) c.of.ensures.0 refl c.in_err-seek.was)

pub returns-then-other_stored_key : goal.returns-then-other_stored_key
returns-then-other_stored_key c =
    writv-refused _ _ _ _ _ _ _ _ (seen _ _ _ _ _ _ _ (rw (c.of-path.ensures.0, c.of-path.ensures.1, c.of-path.ensures.2, c.of-path.ensures.3) at c.seek.ensures) c.of.ensures.0 c.in_ok-seek.was) (search rules)

pub settle-requires-clause-plan_ok : goal.settle-requires-clause-plan_ok
settle-requires-clause-plan_ok c = rw c.body_plan.ensures (body_ok _ c.args.area.now _ _ c.requires.in_set c.requires.area_len).0

pub returns : goal.returns
returns c =
    writv-ends _ _ _ _ _ _ _ _ (seen _ _ _ _ _ _ _ (rw (c.of-path.ensures.0, c.of-path.ensures.1, c.of-path.ensures.2, c.of-path.ensures.3) at c.seek.ensures) c.of.ensures.0 c.in_ok-seek.was) _ (search rules)
    c.body_plan.ensures (c.settle.ensures c.args.reference.0)
