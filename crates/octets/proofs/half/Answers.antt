-- `octets::half` meets its contract: the bytes are read where the definition reads them.
use Rattle.std.proofs.Common.{arith}
use Rattle.octets.specs.Octets.{half_at}
use Rattle.octets.proofs.half.Goals as goal

pub returns : goal.returns
unfolding half_at
returns c = omega (arith, c.from_be_bytes.ensures)
