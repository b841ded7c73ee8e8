-- `clean::leftover_clean` meets its contract: the part that is asked is the room behind the records.
use Rattle.sound.specs.Sound.{leftover_clean}
use Rattle.clean.proofs.leftover_clean.Goals as goal

pub returns : goal.returns
unfolding leftover_clean
returns c = rw c.leftover_of.ensures at c.all.ensures
