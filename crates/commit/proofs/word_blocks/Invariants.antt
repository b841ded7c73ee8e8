-- `commit::word_blocks` meets its contract. The loop's invariant: what is left of the words adds to the blocks what all of them add to
-- those at entry.
use Rattle.std.proofs.Common.{◌≡◌, ◌+◌, ◌≤◌, drop}
use Rattle.commit.specs.Touched.{numbers_of, add_all, word_blocks}
use Rattle.commit.proofs.word_blocks.Given as goal

abbrev pub invariant-loop-w : goal.invariant-loop-w
invariant-loop-w l = record {
  few : l.s.count ≤ l.initial.s.count + l.w-index;
  left : add_all (numbers_of l.s) (word_blocks (drop l.w-index l.words)) ≡ add_all (numbers_of l.initial.s) (word_blocks l.words);
}
