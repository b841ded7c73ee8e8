-- `clean::checks_true` meets its contract: the blocks are those of the schema.
use Rattle.sound.specs.Sound.{checks_true}
use Rattle.clean.proofs.checks_true.Goals as goal

pub returns : goal.returns
unfolding checks_true
returns c = rw c.into.ensures at c.sealed_below.ensures
