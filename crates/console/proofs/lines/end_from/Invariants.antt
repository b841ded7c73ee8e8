-- `console::lines::end_from` meets its contract. The invariant: the search from i on gives the answer.
use mathlib.Core.Path.{◌≡◌}
use Rattle.console.specs.Lines.{end_from}
use Rattle.console.proofs.lines.end_from.Given as goal

abbrev pub invariant-loop-i : goal.invariant-loop-i
invariant-loop-i l = end_from l.line l.i ≡ end_from l.line l.at
