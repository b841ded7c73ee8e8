use Rattle.std.proofs.Common.{rules, refl, sym, ap, ◌∙◌, ◌+◌, ◌-◌, arith}
use native.Mathlib.Nat.{sub-zero}
use Rattle.terms.specs.Terms.{key_of}
use Rattle.signon.specs.Judged.{ridden_of}
use Rattle.signon.specs.PointLaws.{ride-done, ride-breaks, ride-turn, ride-circle}
use Rattle.signon.proofs.on_points.ride.Goals as goal

pub loop-at-init : goal.loop-at-init
loop-at-init c = (omega arith, rw sub-zero refl)

pub returns-then-count-set : goal.returns-then-count-set
returns-then-count-set c =
    let a = c.args in
    rw (← c.loop-at.invariant.1) (ap ridden_of (sym (ride-circle a.set.now.base.now a.set.now.entry.now a.p (key_of a.k) (a.set.now.entry.now.records - c.loop-at.count)
    c.loop-at.count c.loop-at.last c.loop-at.at (omega (arith, c.if-count-set.true)) c.loop-at-test.true)))

pub returns-then-not-in_order : goal.returns-then-not-in_order
returns-then-not-in_order c =
    let a = c.args in
    rw (← c.loop-at.invariant.1) (ap ridden_of (sym (ride-breaks a.set.now.base.now a.set.now.entry.now a.p (key_of a.k) (a.set.now.entry.now.records - c.loop-at.count)
    (a.set.now.entry.now.records - (c.loop-at.count + 1))
    c.loop-at.count c.loop-at.last c.loop-at.at (omega (arith, c.if-count-set.false)) c.loop-at-test.true c.in_order.ensures c.if-not-in_order.true)))

pub loop-at-preserved : goal.loop-at-preserved
loop-at-preserved c =
    let a = c.args in (
      omega arith,
      sym (ride-turn a.set.now.base.now a.set.now.entry.now a.p (key_of a.k) (a.set.now.entry.now.records - c.loop-at.count)
          (a.set.now.entry.now.records - (c.loop-at.count + 1))
          c.loop-at.count c.loop-at.last c.loop-at.at (omega (arith, c.if-count-set.false)) c.loop-at-test.true c.in_order.ensures
          c.if-not-in_order.false (search rules))
          ∙ c.loop-at.invariant.1,
    )

pub returns : goal.returns
returns c =
    let a = c.args in
    rw (← c.loop-at.invariant.1) (ap ridden_of (sym (ride-done a.set.now.base.now a.set.now.entry.now a.p (key_of a.k) (a.set.now.entry.now.records - c.loop-at.count)
    c.loop-at.count c.loop-at.last c.loop-at.at c.loop-at-test.false)))
