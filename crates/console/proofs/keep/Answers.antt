-- `console::keep` meets its contract: a line that is full already stays as it is.
use Rattle.std.proofs.Common.{arith}
use Rattle.console.specs.SmallLaws.{kept_more, kept_full}
use Rattle.console.proofs.keep.Goals as goal

pub returns-then-n-eq129-clause-kept_line : goal.returns-then-n-eq129-clause-kept_line
returns-then-n-eq129-clause-kept_line c =
    record { fits = omega arith; bytes = kept_full c.args.line.now c.args.n c.args.byte c.requires.0 c.if-n-eq129.true }

pub returns-clause-kept_line : goal.returns-clause-kept_line
returns-clause-kept_line c =
    record { fits = omega arith; bytes = kept_more c.args.line.now c.args.n c.args.byte c.requires.0 (omega arith) }
