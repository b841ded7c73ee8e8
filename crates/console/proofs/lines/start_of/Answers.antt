-- `console::lines::start_of` meets its contract: behind the end of the field before.
use Prim.Native.Nat.{◌-◌}
use native.Mathlib.Omega.{arith}
use Rattle.console.specs.LineLaws.{end_of_le}
use Rattle.console.proofs.lines.start_of.Goals as goal

pub overflow_add-result : goal.overflow_add-result
overflow_add-result c =
    let a = c.args in
    omega (arith, c.end_of.ensures, end_of_le a.line.now (a.k - 1))
