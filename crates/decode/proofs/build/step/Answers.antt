-- `decode::build::step` meets its contract: a path adds one to its master's count and is numbered by the count before.
use mathlib.Core.Bool.{not}
use mathlib.Core.Path.{refl, ap}
use native.Mathlib.Omega.{arith}
use Rattle.decode.specs.DecodeLaws.{slot_low, links_le, counted_unused, counted-used}
use Rattle.decode.proofs.build.step.Goals as goal

pub returns-then-not-used : goal.returns-then-not-used
returns-then-not-used c =
    counted_unused c.args.s.now c.args.q c.args.l c.requires.counted c.used.ensures (ap not c.if-not-used.true)

pub overflow_add-total : goal.overflow_add-total
overflow_add-total c =
    let m = c.master_of-m.result in
    let low = slot_low c.args.s.now c.args.q c.requires.formed c.requires.q_bound c.used.ensures c.if-not-used.false c.master_of-m.ensures in
    omega (arith, c.requires.counted.total m low, links_le c.args.s.now m c.args.q, c.requires.formed.head)

pub returns : goal.returns
returns c =
    let low = slot_low c.args.s.now c.args.q c.requires.formed c.requires.q_bound c.used.ensures c.if-not-used.false c.master_of-m.ensures in
    counted-used c.args.s.now c.args.q c.args.l c.requires.counted c.used.ensures (ap not c.if-not-used.false) c.master_of-m.ensures refl (omega (arith, c.requires.formed.head, c.requires.q_bound)) low
