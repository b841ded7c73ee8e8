use mathlib.Core.Path.{refl, ap, ◌∙◌}
use mathlib.Core.Bool.{not}
use borrow.Author.Tests.{not-true}
use Rattle.std.proofs.lemmas.Result.{err_from_is_err_and}
use Rattle.records.proofs.InBaseLaws.{reached}
use Rattle.point_calls.specs.SeekLaws.{seen, seen_as, by-seek}
use Rattle.point_calls.specs.CallLaws.{read-call, read_looks, not-linked}
use Rattle.point_calls.proofs.reads.read_along.Goals as goal

pub of-path-requires : goal.of-path-requires
of-path-requires c = reached c.requires.path

pub seek-requires-clause-in_set : goal.seek-requires-clause-in_set
seek-requires-clause-in_set c = λ h. rw c.of-path.ensures.1 (not-linked c.args.l.entry _ _ c.is_link-linked.ensures c.requires.fact (not-true _ h))

pub returns-in_err-m : goal.returns-in_err-m
returns-in_err-m c =
    let a = c.args in
    let p = err_from_is_err_and c.from_residual.result c.from_residual.ensures.1 in
    rw (p.1, p.2)
    (by-seek _ (read-call a.back) _ _ _ _ _ _ _ _ (rw (c.of-path.ensures.0, c.of-path.ensures.1, c.of-path.ensures.2, c.of-path.ensures.3) at c.seek.ensures) c.of-k.ensures.0 (ap not c.is_link-linked.ensures ∙ read_looks a.back a.l.path _) c.in_err-m.was)

pub read_from-requires-clause-seen : goal.read_from-requires-clause-seen
read_from-requires-clause-seen c = rw (c.of-path.ensures.0, c.of-path.ensures.1, c.of-path.ensures.2, c.of-path.ensures.3) (seen_as (ap not c.is_link-linked.ensures) (seen _ _ _ _ _ _ _ (rw (c.of-path.ensures.0, c.of-path.ensures.1, c.of-path.ensures.2, c.of-path.ensures.3) at c.seek.ensures) refl c.in_ok-m.was))

pub returns : goal.returns
returns c = rw (c.of-path.ensures.0, c.of-path.ensures.1, c.of-path.ensures.2, c.of-path.ensures.3, c.of-k.ensures.0) at c.read_from.ensures
