use mathlib.Core.Path.{◌≡◌, refl, ap, ◌∙◌}
use Rattle.std.proofs.lemmas.Result.{err_from_is_err_and}
use borrow.Author.Rules.{rules}
use Rattle.records.specs.Records.{prior_on}
use Rattle.calls.specs.Reply.{or_link}
use Rattle.records.proofs.InBaseLaws.{reached-under, paths_in}
use Rattle.point_calls.specs.PathLaws.{delvd-call}
use Rattle.point_calls.specs.SeekLaws.{seen, by-seek-among}
use Rattle.point_calls.specs.StoreLaws.{delvd-finds, delvd-refused, delvd-ends}
use Rattle.point_calls.proofs.writes.delvd.Goals as goal

pub returns-in_err-master : goal.returns-in_err-master
returns-in_err-master c =
    let p = err_from_is_err_and c.from_residual.result c.from_residual.ensures.1 in
    rw (p.1, p.2) (by-seek-among _ delvd-call _ _ _ _ _ _ _ _ (rw (c.of-path.ensures.0, c.of-path.ensures.1, c.of-path.ensures.2, c.of-path.ensures.3) at c.seek.ensures) c.of.ensures.0 refl c.in_err-master.was _ _)

pub of-paths-requires : goal.of-paths-requires
of-paths-requires c = let h = paths_in c.requires.path_among in record { points_in = h.points; masters_in = h.masters }

pub delete-requires-clause-on_value : goal.delete-requires-clause-on_value
delete-requires-clause-on_value c =
    rw (c.of-paths.ensures.0, c.of-paths.ensures.1, c.of-paths.ensures.2)
    (delvd-finds _ _ _ _ _ _ _ _ _ c.requires.path_among (seen _ _ _ _ _ _ _ (rw (c.of-path.ensures.0, c.of-path.ensures.1, c.of-path.ensures.2, c.of-path.ensures.3) at c.seek.ensures) c.of.ensures.0 c.in_ok-master.was))

pub returns-in_err-plan : goal.returns-in_err-plan
returns-in_err-plan c =
    let status = rw (c.of-paths.ensures.0, c.of-paths.ensures.1, c.of-paths.ensures.2) at c.delete.ensures.status in
    let p = err_from_is_err_and c.from_residual-in_err-plan.result c.from_residual-in_err-plan.ensures.1 in
    rw (p.1, p.2)
    (delvd-refused _ _ _ _ _ _ _ _ _ _ _ (seen _ _ _ _ _ _ _ (rw (c.of-path.ensures.0, c.of-path.ensures.1, c.of-path.ensures.2, c.of-path.ensures.3) at c.seek.ensures) c.of.ensures.0 c.in_ok-master.was)
    (λ t of. rw c.in_err-plan.was at (status t of)))

pub settle-requires : goal.settle-requires
settle-requires c =
    let plan = rw (c.of-paths.ensures.0, c.of-paths.ensures.1, c.of-paths.ensures.2) at c.delete.ensures.plan in
    let points = (reached-under c.requires.path_among.under).points in
    let w = rw c.in_ok-plan.was at (plan c.requires.path_among.schema c.requires.path_among.kept) in
    record { lies_in = points.lies; fields = points.fields; plan_ok = w.1; area_ok = rw w.2 tt }

pub returns : goal.returns
returns c =
    let status = rw (c.of-paths.ensures.0, c.of-paths.ensures.1, c.of-paths.ensures.2) at c.delete.ensures.status in
    let plan = rw (c.of-paths.ensures.0, c.of-paths.ensures.1, c.of-paths.ensures.2) at c.delete.ensures.plan in
    let prior : c.prior_on.result ≡ prior_on c.args.base.now c.args.l.entry c.args.reference.0 c.args.l.path = search rules in
    delvd-ends _ _ _ _ _ _ _ _ _ _
    (seen _ _ _ _ _ _ _ (rw (c.of-path.ensures.0, c.of-path.ensures.1, c.of-path.ensures.2, c.of-path.ensures.3) at c.seek.ensures) c.of.ensures.0 c.in_ok-master.was) _ _ _
    (λ t of. let w = rw c.in_ok-plan.was at (plan t of) in (rw c.in_ok-plan.was at (status t of), λ d. w.0 _))
    (c.or_link-after.ensures ∙ ap (or_link c.args.l.path) prior) (c.settle.ensures c.args.reference.0)
