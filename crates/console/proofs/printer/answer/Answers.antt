-- `console::printer::answer` meets its contract: each text stands behind the one before.
use mathlib.Core.Path.{refl}
use native.Mathlib.Omega.{arith}
use Rattle.console.specs.PrinterLaws.{stays-behind}
use Rattle.console.proofs.printer.answer.Goals as goal

pub returns : goal.returns
returns c =
    (omega (arith, c.put_reference.ensures.0, c.start-at.ensures.0), rw (c.put_reference.ensures.1, c.start-at.ensures.1, c.code-code.ensures) refl, stays-behind c.start-at.ensures.2 c.put_reference.ensures.3 c.put_reference.ensures.2)
