-- `console::printer::put` meets its contract: what is stored stands behind what stood there.
use mathlib.Core.Path.{◌≡◌, refl}
use native.Mathlib.Omega.{arith}
use lib.ListN.{length}
use Rattle.console.specs.PrinterLaws.{take_splice, rest-splice}
use borrow.Author.Rules.{rules}
use Rattle.console.proofs.printer.put.Goals as goal

pub returns : goal.returns
returns c =
    let a = c.args in
    let f : length a.out.now ≡ 64 = search rules in (
      refl,
      rw c.copy_in.ensures (take_splice a.out.now a.at a.src.now (omega arith)),
      rw c.copy_in.ensures (rest-splice a.out.now a.at a.src.now (omega arith)),
    )
