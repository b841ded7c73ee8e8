use mathlib.Core.Path.{sym, ◌∙◌}
use Rattle.std.proofs.lemmas.Result.{err_from_is_err_and}
use Rattle.records.proofs.InBaseLaws.{reached-under, on-among, paths_in}
use Rattle.point_calls.specs.SeekLaws.{seen, seen_as, by-seek-among}
use Rattle.point_calls.specs.StoreLaws.{add-call, add-finds, add-refused-ends, add-ends}
use Rattle.point_calls.proofs.writes.add_at.Goals as goal

pub of-path-requires : goal.of-path-requires
of-path-requires c = reached-under c.requires.path_among.under

pub seek-requires-clause-in_set : goal.seek-requires-clause-in_set
seek-requires-clause-in_set c = λ h. rw c.of-path.ensures.1 (c.requires.spotted.looked (sym c.is_beside.ensures ∙ h))

pub returns-in_err-master : goal.returns-in_err-master
returns-in_err-master c =
    let p = err_from_is_err_and c.from_residual.result c.from_residual.ensures.1 in
    rw (p.1, p.2)
    (by-seek-among _ (add-call c.args.spot) _ _ _ _ _ _ _ _ (rw (c.of-path.ensures.0, c.of-path.ensures.1, c.of-path.ensures.2, c.of-path.ensures.3) at c.seek.ensures) c.of.ensures.0 (c.is_beside.ensures ∙ c.requires.spotted.look) c.in_err-master.was _ _)

pub of-paths-requires : goal.of-paths-requires
of-paths-requires c = let h = paths_in c.requires.path_among in record { points_in = h.points; masters_in = h.masters }

pub add-requires-clause-on_lt_count : goal.add-requires-clause-on_lt_count
add-requires-clause-on_lt_count c = rw c.of-paths.ensures.1 (on-among c.requires.path_among.under)

pub add-requires-clause-on_value : goal.add-requires-clause-on_value
add-requires-clause-on_value c =
    rw (c.of-paths.ensures.0, c.of-paths.ensures.1, c.of-paths.ensures.2)
    (add-finds _ _ _ _ _ _ _ _ _ _ _ c.requires.path_among (seen _ _ _ _ _ _ _ (rw (c.of-path.ensures.0, c.of-path.ensures.1, c.of-path.ensures.2, c.of-path.ensures.3) at c.seek.ensures) c.of.ensures.0 c.in_ok-master.was) c.requires.on_value)

pub returns-in_err-plan : goal.returns-in_err-plan
returns-in_err-plan c =
    let status = rw (c.of-paths.ensures.0, c.of-paths.ensures.1, c.of-paths.ensures.2) at c.add.ensures.status in
    let p = err_from_is_err_and c.from_residual-in_err-plan.result c.from_residual-in_err-plan.ensures.1 in
    rw (p.1, p.2)
    (add-refused-ends _ _ _ _ _ _ _ _ _ _ _ _
    (seen_as c.is_beside.ensures (seen _ _ _ _ _ _ _ (rw (c.of-path.ensures.0, c.of-path.ensures.1, c.of-path.ensures.2, c.of-path.ensures.3) at c.seek.ensures) c.of.ensures.0 c.in_ok-master.was))
    c.requires.spotted (λ t of. rw c.in_err-plan.was at (status t of)))

pub settle-requires : goal.settle-requires
settle-requires c =
    let plan = rw (c.of-paths.ensures.0, c.of-paths.ensures.1, c.of-paths.ensures.2) at c.add.ensures.plan in
    let points = (reached-under c.requires.path_among.under).points in
    let w = rw c.in_ok-plan.was at (plan c.requires.path_among.schema c.requires.path_among.kept) in
    record { lies_in = points.lies; fields = points.fields; plan_ok = w.1; area_ok = rw w.3 c.requires.area_len }

pub returns : goal.returns
returns c =
    let status = rw (c.of-paths.ensures.0, c.of-paths.ensures.1, c.of-paths.ensures.2) at c.add.ensures.status in
    let plan = rw (c.of-paths.ensures.0, c.of-paths.ensures.1, c.of-paths.ensures.2) at c.add.ensures.plan in
    add-ends _ _ _ _ _ _ _ _ _ _ _
    (seen_as c.is_beside.ensures (seen _ _ _ _ _ _ _ (rw (c.of-path.ensures.0, c.of-path.ensures.1, c.of-path.ensures.2, c.of-path.ensures.3) at c.seek.ensures) c.of.ensures.0 c.in_ok-master.was))
    c.requires.spotted _ _ _
    (λ t of. let w = rw c.in_ok-plan.was at (plan t of) in (rw c.in_ok-plan.was at (status t of), λ d. (w.0, c.into.ensures ∙ w.2)))
    (c.settle.ensures c.args.reference.0)
