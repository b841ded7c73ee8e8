use mathlib.Core.Path.{refl}
use Rattle.std.proofs.lemmas.Result.{err_from_is_err_and}
use Rattle.point_calls.specs.PathLaws.{readd_call}
use Rattle.point_calls.specs.SeekLaws.{seen, by-seek}
use Rattle.point_calls.specs.CallLaws.{readd_ends}
use Rattle.point_calls.proofs.reads.readd.Goals as goal

pub returns-in_err-seek : goal.returns-in_err-seek
returns-in_err-seek c =
    let p = err_from_is_err_and c.from_residual.result c.from_residual.ensures.1 in
    rw (p.1, p.2) (by-seek _ readd_call _ _ _ _ _ _ _ _ (rw (c.of-path.ensures.0, c.of-path.ensures.1, c.of-path.ensures.2, c.of-path.ensures.3) at c.seek.ensures) c.of.ensures.0 refl c.in_err-seek.was)

pub returns : goal.returns
returns c = readd_ends _ _ _ _ _ _ _ _ (seen _ _ _ _ _ _ _ (rw (c.of-path.ensures.0, c.of-path.ensures.1, c.of-path.ensures.2, c.of-path.ensures.3) at c.seek.ensures) c.of.ensures.0 c.in_ok-seek.was) c.give.ensures
