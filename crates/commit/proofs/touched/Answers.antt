-- `commit::touched` meets its contract: the head's blocks, then the words', then the wiped record's. Assumes nothing.
use Rattle.commit.specs.Touched.{plan_blocks}
use Rattle.commit.specs.DistinctLaws.{three-parts}
use Rattle.commit.proofs.touched.Goals as goal

pub returns : goal.returns
unfolding plan_blocks
returns c =
    (three-parts _ _ _ c.head_blocks-heads.ensures.0 c.word_blocks-words.ensures.0 c.wiped_block.ensures.0, c.wiped_block.ensures.1)
