-- `decode::build::laid_out` meets its contract. The invariant: the sets passed are laid out, and none has too long a record.
use Rattle.decode.specs.DecodeLaws.{LaidOut}
use Rattle.decode.proofs.build.laid_out.Given as goal

abbrev pub invariant-loop-i : goal.invariant-loop-i
invariant-loop-i l = LaidOut l.s l.i l.first l.entries
