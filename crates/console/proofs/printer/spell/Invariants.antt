-- `console::printer::spell` meets its contract. The invariant: the digits of what is left, before those that stand there, are n's.
use mathlib.Core.Path.{◌≡◌}
use Rattle.console.specs.References.{decimal, digits_onto}
use lib.ListN.{drop}
use Rattle.console.proofs.printer.spell.Given as goal

abbrev pub invariant-loop-i : goal.invariant-loop-i
invariant-loop-i l = digits_onto l.i l.rest (drop l.i l.digits) ≡ decimal l.n
