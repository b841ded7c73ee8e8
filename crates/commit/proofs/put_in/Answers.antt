-- `commit::put_in` meets its contract: a word stored into its record is stored into the data base. Assumes nothing.
use native.Mathlib.Nat.{add-sub_cancel_left}
use Rattle.octets.specs.WordLaws.{set_word-part}
use Rattle.commit.proofs.put_in.Goals as goal

pub returns : goal.returns
returns c =
    let w = c.args.w in
    rw (add-sub_cancel_left w.at w.size, c.put_word.ensures, add-sub_cancel_left w.at w.size) (set_word-part w.at w.size c.args.base.now w.offset w.value c.requires.0)
