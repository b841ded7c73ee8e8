use Rattle.std.proofs.Common.{refl, ap, sym, ◌∙◌, arith}
use Rattle.std.specs.Prelude.{not}
use Rattle.octets.specs.Below.{all_below}
use Rattle.octets.specs.BelowLaws.{joined-all, all_below-turn, all_below-fails}
use Rattle.schema.specs.Decode.{entry_of, set_count}
use Rattle.master_plans.specs.Shape.{empty_in}
use Rattle.master_plans.specs.PointLaws.{points-are}
use Rattle.master_plans.proofs.has_points.Goals as goal

pub loop-i-init : goal.loop-i-init
unfolding all_below
loop-i-init c = refl

pub returns-then-not-empty_in : goal.returns-then-not-empty_in
returns-then-not-empty_in c =
    let a = c.args in
    let e =
    all_below-fails (λ k. empty_in a.master.now.base.now a.master.now.entry.now a.n.0 a.master.now.number.0 (entry_of a.t k)) (set_count a.t) c.loop-i.i (omega (arith, c.loop-i-test.true, c.sets-i-end.ensures))
    (rw c.entry_of.ensures at (sym c.if-not-empty_in.ensures)) in
    ap not (sym e) ∙ points-are a.t a.master.now.base.now a.n.0 a.master.now.number.0 a.master.now.entry.now c.requires.entry_value

pub loop-i-preserved : goal.loop-i-preserved
loop-i-preserved c =
    let a = c.args in
    all_below-turn (λ k. empty_in a.master.now.base.now a.master.now.entry.now a.n.0 a.master.now.number.0 (entry_of a.t k)) c.loop-i.i c.loop-i.invariant (rw c.entry_of.ensures at (sym c.if-not-empty_in.ensures))

pub returns : goal.returns
returns c =
    let a = c.args in
    let all =
    joined-all (λ k. empty_in a.master.now.base.now a.master.now.entry.now a.n.0 a.master.now.number.0 (entry_of a.t k)) (set_count a.t) c.loop-i.i (omega (arith, c.loop-i.auto.i-end, c.sets-i-end.ensures))
    (omega (arith, c.loop-i-test.false, c.sets-i-end.ensures)) (sym c.loop-i.invariant) in
    ap not all ∙ points-are a.t a.master.now.base.now a.n.0 a.master.now.number.0 a.master.now.entry.now c.requires.entry_value
