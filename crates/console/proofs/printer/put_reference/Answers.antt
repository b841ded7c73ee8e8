-- `console::printer::put_reference` meets its contract: the test decides.
use mathlib.Core.Path.{sym, ◌∙◌}
use native.Mathlib.Omega.{arith}
use Rattle.console.proofs.printer.put_reference.Goals as goal

pub returns-then-is_spelt : goal.returns-then-is_spelt
returns-then-is_spelt c =
    let p = rw c.to_be_bytes.ensures at c.put.ensures in
    (omega (arith, p.0), rw (sym c.is_spelt.ensures ∙ c.if-is_spelt.true) p.1, p.2, omega (arith, p.0))

pub returns : goal.returns
returns c =
    rw (sym c.is_spelt.ensures ∙ c.if-is_spelt.false) (rw c.from.ensures at c.put_decimal.ensures)
