-- `point_plans::damage::uneven_ends` meets its contract: the two words are first and last.
use mathlib.Core.Bool.{xor}
use Rattle.point_plans.proofs.damage.uneven_ends.Goals as goal

pub returns : goal.returns
unfolding xor
returns c = rw (c.word-none_last.ensures, c.word-none_first.ensures)
