-- `blocks::seal` meets its contract: the check of the block alone is the one that is set.
use mathlib.Core.Path.{refl, ap, ◌∙◌}
use lib.ListN.{length}
use Rattle.octets.specs.SpliceLaws.{length_run}
use Rattle.blocks.specs.Blocks.{seal}
use Rattle.blocks.proofs.seal.Goals as goal

pub check_of-v-requires : goal.check_of-v-requires
check_of-v-requires c = ap length c.block.ensures ∙ length_run _ _ 512 c.requires

pub returns : goal.returns
unfolding seal
returns c =
    rw (c.put_check.ensures, c.check_of-v.ensures, c.block.ensures) refl
