use Rattle.std.proofs.Common.{sym, ◌∙◌, eq-eqb, ne_eqb}
use Rattle.octets.specs.Octets.{is}
use Rattle.octets.specs.RunLaws.{every_turn, every_fails, every_end}
use Rattle.octets.proofs.all.Goals as goal

pub returns-then-b-v : goal.returns-then-b-v
returns-then-b-v c =
    let a = c.args in
    sym (every_fails (is a.v) a.s.now c.loop-b.b-index c.loop-b-test.true (ne_eqb _ _ c.if-b-v.true)) ∙ c.loop-b.invariant

pub loop-b-preserved : goal.loop-b-preserved
loop-b-preserved c =
    let a = c.args in
    sym (every_turn (is a.v) a.s.now c.loop-b.b-index c.loop-b-test.true (eq-eqb _ _ c.if-b-v.false)) ∙ c.loop-b.invariant

pub returns : goal.returns
returns c =
    let a = c.args in
    sym (every_end (is a.v) a.s.now c.loop-b.b-index c.loop-b-test.false) ∙ c.loop-b.invariant
