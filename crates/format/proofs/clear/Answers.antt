-- `format::clear` meets its contract: zeros over the whole buffer are all that it then holds.
use Rattle.std.proofs.Common.{◌∙◌, ap}
use Rattle.octets.specs.Octets.{zeros}
use Rattle.format.proofs.clear.Goals as goal

pub returns : goal.returns
returns c = c.fill.ensures.after (λ y e. e) ∙ ap zeros c.requires
