-- `blocks::sum` meets its contract: the part lent is the first 127 words.
use mathlib.Core.Path.{sym}
use native.Mathlib.Omega.{arith}
use lib.Seq.{length-take-le}
use Rattle.blocks.specs.Blocks.{check_of}
use Rattle.blocks.proofs.sum.Goals as goal

pub slice_bounds-word_sum-end : goal.slice_bounds-word_sum-end
slice_bounds-word_sum-end c =
    let s = c.before.before in
    sym (length-take-le _ s.args.block.now (omega arith))

pub returns : goal.returns
unfolding check_of
returns c = c.word_sum.ensures
