-- `octets::move_within` meets its contract: the copy is the splice of the run.
use Rattle.std.proofs.Common.{◌∙◌}
use Rattle.octets.specs.SpliceLaws.{splice-copy}
use Rattle.octets.proofs.move_within.Goals as goal

pub returns : goal.returns
returns c = c.copy_within.ensures.after ∙ splice-copy _ _ _ _ c.requires.n_in_bounds c.requires.n_in_bounds_2
