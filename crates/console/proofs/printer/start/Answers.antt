-- `console::printer::start` meets its contract: each text stands behind the one before.
use Rattle.std.proofs.Common.{◌≡◌, length, arith, rules}
use Rattle.console.specs.PrinterLaws.{stays-behind}
use Rattle.console.proofs.printer.start.Goals as goal

pub returns : goal.returns
returns c =
    let four : length c.args.code.now ≡ 4 = search rules in (
      omega (arith, c.put.ensures.0, c.put-c.ensures.0, c.put-b.ensures.0, c.put_decimal-a.ensures.0),
      rw (c.put.ensures.1, c.put-c.ensures.1, c.put-b.ensures.1, c.put_decimal-a.ensures.1),
      stays-behind (stays-behind (stays-behind c.put_decimal-a.ensures.2 (omega (arith, c.put-b.ensures.0)) c.put-b.ensures.2) (omega (arith, c.put-c.ensures.0)) c.put-c.ensures.2)
          (omega (arith, c.put.ensures.0)) c.put.ensures.2,
    )
