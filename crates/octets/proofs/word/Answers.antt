-- `octets::word` meets its contract: the bytes are read where the definition reads them.
use Rattle.std.proofs.Common.{arith}
use Rattle.octets.specs.Octets.{word_at}
use Rattle.octets.proofs.word.Goals as goal

pub returns : goal.returns
unfolding word_at
returns c = omega (arith, c.from_be_bytes.ensures)
