use Rattle.std.proofs.Common.{◌+◌, ◌-◌, ◌≡◌, length, refl, sym, ◌∙◌, arith, rules, drop_of_length-le}
use Rattle.console.specs.References.{digits_onto}
use Rattle.console.specs.PrinterLaws.{digits_turn, digits_last}
use Rattle.console.proofs.printer.spell.Goals as goal

pub loop-i-init : goal.loop-i-init
loop-i-init c = rw (drop_of_length-le c.args.digits.now {i = 20} (omega arith)) refl

pub returns-then-rest-lt10 : goal.returns-then-rest-lt10
returns-then-rest-lt10 c =
    let e : c.loop-i.i - 1 + 1 ≡ c.loop-i.i = omega arith in
    let l : length c.loop-i.digits ≡ 20 = search rules in
    (sym (rw e at (digits_last c.loop-i.digits (c.loop-i.i - 1) c.loop-i.rest (omega arith) c.if-rest-lt10.true)) ∙ c.loop-i.invariant, omega arith)

pub loop-i-preserved : goal.loop-i-preserved
loop-i-preserved c =
    let e : c.loop-i.i - 1 + 1 ≡ c.loop-i.i = omega arith in
    let l : length c.loop-i.digits ≡ 20 = search rules in
    sym (rw e at (digits_turn c.loop-i.digits (c.loop-i.i - 1) c.loop-i.rest (omega arith) c.if-rest-lt10.false)) ∙ c.loop-i.invariant

pub returns : goal.returns
unfolding digits_onto
returns c =
    let e : c.loop-i.i ≡ 0 = omega arith in
    (rw e at c.loop-i.invariant, omega arith)
