use Rattle.std.proofs.Common.{◌+◌, refl, sym, ◌∙◌, arith}
use Rattle.octets.specs.Below.{all_below}
use Rattle.octets.specs.BelowLaws.{all_below-turn}
use Rattle.signon.specs.PointLaws.{ends_at, chain-count, some_if, points_none, points-turn, path_breaks, path_ends}
use Rattle.signon.proofs.on_points.Chains.points_met.Goals as goal

pub loop-k-init : goal.loop-k-init
unfolding all_below
loop-k-init c =
    let a = c.args in
    (refl, sym (points_none a.self.now.base.now a.self.now.entry.now a.self.now.path a.self.now.masters.now), omega arith)

pub overflow_add-met : goal.overflow_add-met
overflow_add-met c =
    let a = c.args in
    let t = some_if (ends_at a.self.now.base.now a.self.now.entry.now a.self.now.path a.self.now.masters.now c.loop-k.k) (sym c.chain_of.ensures ∙ c.in_ok-met.was) in
    omega (arith, t.1, chain-count a.self.now.base.now a.self.now.entry.now a.self.now.path a.self.now.masters.now (c.loop-k.k + 1), a.self.now.reached.points.lies.many, a.self.now.reached.masters.lies.many)

pub loop-k-preserved : goal.loop-k-preserved
loop-k-preserved c =
    let a = c.args in
    let t = some_if (ends_at a.self.now.base.now a.self.now.entry.now a.self.now.path a.self.now.masters.now c.loop-k.k) (sym c.chain_of.ensures ∙ c.in_ok-met.was) in (
      all_below-turn (ends_at a.self.now.base.now a.self.now.entry.now a.self.now.path a.self.now.masters.now) c.loop-k.k c.loop-k.invariant.0 t.0,
      points-turn a.self.now.base.now a.self.now.entry.now a.self.now.path a.self.now.masters.now c.loop-k.k c.loop-k.invariant.1 (sym t.1),
      omega (arith, t.1, chain-count a.self.now.base.now a.self.now.entry.now a.self.now.path a.self.now.masters.now (c.loop-k.k + 1), a.self.now.reached.points.lies.many),
    )

pub returns-in_err-met : goal.returns-in_err-met
returns-in_err-met c =
    let a = c.args in
    c.from_residual.ensures ∙ path_breaks a.self.now.base.now a.self.now.entry.now a.self.now.path a.self.now.masters.now c.loop-k.k c.loop-k-test.true (sym c.chain_of.ensures ∙ c.in_err-met.was)

pub returns : goal.returns
returns c =
    let a = c.args in
    path_ends a.self.now.base.now a.self.now.entry.now a.self.now.path a.self.now.masters.now c.loop-k.k (omega arith) (omega arith) c.loop-k.invariant.0 c.loop-k.invariant.1
