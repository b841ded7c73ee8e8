-- `commit::store_words` meets its contract. The loop's invariant: what is left of the words, stored, makes of the data base what all of
-- them make of it at entry.
use Rattle.std.proofs.Common.{◌≡◌, length, drop}
use Rattle.plans.specs.Plan.{store_all}
use Rattle.plans.specs.Stores.{word_stores}
use Rattle.commit.proofs.store_words.Given as goal

abbrev pub invariant-loop-w : goal.invariant-loop-w
invariant-loop-w l = record {
  len : length l.base ≡ length l.initial.base;
  left : store_all l.base (word_stores (drop l.w-index l.words)) ≡ store_all l.initial.base (word_stores l.words);
}
