-- `octets::word_sum` meets its contract. The invariant: what is left, summed onto the sum so far, is the whole sum.
use Rattle.std.proofs.Common.{◌≡◌, drop}
use Rattle.std.specs.List.{fold}
use Rattle.octets.specs.RunLaws.{word_added}
use Rattle.octets.proofs.word_sum.Given as goal

abbrev pub invariant-loop-w : goal.invariant-loop-w
invariant-loop-w l = fold word_added l.sum (drop l.w-index l.words) ≡ fold word_added l.initial.sum l.words
