-- `console::printer::finish` meets its contract: each text stands behind the one before.
use Rattle.std.proofs.Common.{arith}
use Rattle.console.specs.PrinterLaws.{stays-behind}
use Rattle.console.proofs.printer.finish.Goals as goal

pub returns : goal.returns
returns c = (
  omega (arith, c.put.ensures.0, c.put-b.ensures.0, c.put-a.ensures.0),
  rw (c.put.ensures.1, c.put-b.ensures.1, c.put-a.ensures.1),
  stays-behind (stays-behind c.put-a.ensures.2 (omega (arith, c.put-b.ensures.0)) c.put-b.ensures.2) (omega (arith, c.put.ensures.0)) c.put.ensures.2,
  omega (arith, c.put.ensures.0, c.put-b.ensures.0, c.put-a.ensures.0),
)
