use Rattle.std.proofs.Common.{sym, ◌∙◌}
use Rattle.commit.specs.StoreLaws.{word_in_base, store-word_turn, store-words_end}
use Rattle.commit.proofs.store_words.Goals as goal

pub put_in-requires : goal.put_in-requires
put_in-requires c =
    rw c.loop-w.invariant.len (word_in_base _ c.args.words.now c.loop-w.w-index c.requires.all_fit c.requires.words_ok c.loop-w-test.true)

pub loop-w-preserved : goal.loop-w-preserved
loop-w-preserved c = record {
  len = c.put_in.auto.base ∙ c.loop-w.invariant.len;
  left = rw c.put_in.ensures (sym (store-word_turn c.args.words.now c.loop-w.base c.loop-w.w-index c.loop-w-test.true) ∙ c.loop-w.invariant.left);
}

pub returns : goal.returns
returns c = sym (store-words_end c.args.words.now c.loop-w.base c.loop-w.w-index c.loop-w-test.false) ∙ c.loop-w.invariant.left
