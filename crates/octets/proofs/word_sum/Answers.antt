use Rattle.std.proofs.Common.{sym, ◌∙◌}
use Rattle.octets.specs.RunLaws.{words_turn, words_end, sum_of_chunks}
use Rattle.octets.proofs.word_sum.Goals as goal

pub loop-w-preserved : goal.loop-w-preserved
loop-w-preserved c =
    rw c.join_four-sum.ensures (sym (words_turn c.loop-w.sum c.as_chunks.result.0.now c.loop-w.w-index _ c.loop-w-test.true) ∙ c.loop-w.invariant)

pub returns : goal.returns
returns c =
    sym (words_end c.loop-w.sum c.as_chunks.result.0.now c.loop-w.w-index c.loop-w-test.false)
    ∙ c.loop-w.invariant
    ∙ rw c.as_chunks.ensures.front (sum_of_chunks c.args.from c.args.s.now)
