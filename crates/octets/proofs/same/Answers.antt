-- `octets::same` meets its contract: `==` of slices goes byte by byte.
use Rattle.std.proofs.Common.{◌∙◌}
use Rattle.octets.specs.RunLaws.{pointwise-same}
use Rattle.octets.proofs.same.Goals as goal

pub returns : goal.returns
returns c = c.eq.ensures ∙ pointwise-same _ _
