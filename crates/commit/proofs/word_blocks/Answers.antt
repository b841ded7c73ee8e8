use Rattle.std.proofs.Common.{sym, ◌∙◌, arith}
use Rattle.commit.specs.Touched.{numbers_of}
use Rattle.commit.specs.TouchedLaws.{word_block_turn, word_blocks_end}
use Rattle.commit.proofs.word_blocks.Goals as goal

pub loop-w-preserved : goal.loop-w-preserved
loop-w-preserved c = record {
  few = omega (arith, c.with-s.ensures.1, c.loop-w.invariant.few);
  left = rw (c.with-s.ensures.0, c.block_with.ensures) (sym (word_block_turn c.args.words.now (numbers_of c.loop-w.s) c.loop-w.w-index c.loop-w-test.true) ∙ c.loop-w.invariant.left);
}

pub returns : goal.returns
returns c = (
  sym (word_blocks_end c.args.words.now (numbers_of c.loop-w.s) c.loop-w.w-index c.loop-w-test.false) ∙ c.loop-w.invariant.left,
  omega (arith, c.loop-w.invariant.few, c.loop-w.auto.w-index-end, c.requires),
)
