-- `blocks::block` meets its contract: the part lent is the block.
use mathlib.Core.Path.{refl}
use native.Mathlib.Nat.{add-sub_cancel_left}
use Rattle.blocks.proofs.block.Goals as goal

pub returns : goal.returns
returns c = rw (c.place_of-at.ensures, add-sub_cancel_left) refl
