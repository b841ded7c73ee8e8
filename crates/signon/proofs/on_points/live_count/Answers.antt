use Rattle.std.proofs.Common.{rules, refl, arith}
use Rattle.octets.specs.Below.{count_below}
use Rattle.signon.specs.PointLaws.{live_hit, live_miss, live_end}
use Rattle.signon.proofs.on_points.live_count.Goals as goal
use Rattle.signon.proofs.on_points.live_count.Goals.{then-is_live, else-is_live}

pub loop-k-init : goal.loop-k-init
unfolding count_below
loop-k-init c = (refl, omega arith)

pub loop-k-preserved : goal.loop-k-preserved
loop-k-preserved c =
    let a = c.args in
    elim c.if-is_live.branch [
      | then-is_live w ↦ (live_hit a.set.now.base.now a.set.now.entry.now c.loop-k.k (search rules) c.loop-k.invariant.0 w.if-is_live.true w.count-is, omega arith)
      | else-is_live w ↦ (live_miss a.set.now.base.now a.set.now.entry.now c.loop-k.k (search rules) c.loop-k.invariant.0 w.if-is_live.false w.count-is, omega arith)
    ]

pub returns : goal.returns
returns c =
    let a = c.args in
    live_end a.set.now.base.now a.set.now.entry.now c.loop-k.k (omega arith) (omega arith) c.loop-k.invariant.0
