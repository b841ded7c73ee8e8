-- `blocks::put_check` meets its contract: a word stored into the block is stored into the data base.
use native.Mathlib.Nat.{add-sub_cancel_left}
use native.Mathlib.Omega.{arith}
use Rattle.octets.specs.WordLaws.{set_word-part}
use Rattle.blocks.proofs.put_check.Goals as goal

pub returns : goal.returns
returns c =
    rw (c.put_word.ensures, c.place_of-at.ensures, add-sub_cancel_left) (set_word-part _ 512 _ 508 _ (omega arith))
