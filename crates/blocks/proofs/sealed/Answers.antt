-- `blocks::sealed` meets its contract: what is asked of the block alone is asked of it where it stands.
use mathlib.Core.Path.{ap, ◌∙◌}
use native.Mathlib.Omega.{arith}
use lib.ListN.{length}
use Rattle.octets.specs.SpliceLaws.{length_run}
use Rattle.blocks.specs.Laws.{is_sealed-run}
use Rattle.blocks.proofs.sealed.Goals as goal

pub word-requires : goal.word-requires
word-requires c = omega (arith, ap length c.block-part.ensures ∙ length_run _ _ 512 c.requires)

pub check_of-requires : goal.check_of-requires
check_of-requires c = ap length c.block-part.ensures ∙ length_run _ _ 512 c.requires

pub returns : goal.returns
returns c = rw (c.word.ensures, c.check_of.ensures, c.block-part.ensures) (is_sealed-run _ _ _)
