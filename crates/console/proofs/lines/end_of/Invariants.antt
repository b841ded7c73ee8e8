-- `console::lines::end_of` meets its contract. The invariant: `at` is the end of field i.
use Prim.Native.Nat.{◌+◌, ◌≤◌}
use mathlib.Core.Path.{◌≡◌}
use lib.ListN.{length}
use Rattle.console.specs.Lines.{end_of}
use Rattle.console.proofs.lines.end_of.Given as goal

abbrev pub invariant-loop-i : goal.invariant-loop-i
invariant-loop-i l = (l.at ≡ end_of l.line l._i) × (l.at ≤ length l.line + l._i)
