use Rattle.std.proofs.Common.{refl, sym, arith}
use Rattle.octets.specs.Below.{all_below}
use Rattle.octets.specs.BelowLaws.{all_below-turn, all_below-fails}
use Rattle.schema.specs.Decode.{path_of}
use Rattle.master_plans.specs.Shape.{empty_on}
use Rattle.master_plans.proofs.empty_in.Goals as goal

pub loop-j-init : goal.loop-j-init
unfolding all_below
loop-j-init c = refl

pub returns-then-not-empty_on : goal.returns-then-not-empty_on
returns-then-not-empty_on c =
    let a = c.args in
    sym
    (all_below-fails (λ k. empty_on a.master.now.base.now a.master.now.entry.now a.n.0 a.master.now.number.0 (path_of a.x k)) a.x.count c.loop-j.j (omega (arith, c.loop-j-test.true, c.from-j-end.ensures))
    (rw c.path_of.ensures at (sym c.if-not-empty_on.ensures)))

pub loop-j-preserved : goal.loop-j-preserved
loop-j-preserved c =
    let a = c.args in
    all_below-turn (λ k. empty_on a.master.now.base.now a.master.now.entry.now a.n.0 a.master.now.number.0 (path_of a.x k)) c.loop-j.j c.loop-j.invariant (rw c.path_of.ensures at (sym c.if-not-empty_on.ensures))
