-- `clean::records_clean` meets its contract: the records are the numbers below their count, one higher.
use Rattle.std.proofs.Common.{ℕ, ◌+◌, rules, tests, refl, ◌∙◌, arith}
use Rattle.std.specs.Prelude.{Bool}
use Rattle.std.proofs.lemmas.Iterator.{YieldsList-from_range}
use Rattle.std.proofs.lemmas.Iterator.Search.{all_from_yields_List}
use Rattle.sound.specs.Sound.{record_clean}
use Rattle.octets.specs.BelowLaws.{list_all-below}
use Rattle.clean.proofs.records_clean.Goals as goal

pub returns : goal.returns
returns c =
    let f : ℕ → Bool = λ k. record_clean c.args.set.now.base.now c.args.set.now.entry.now (k + 1) in
    let n = c.args.set.now.entry.now.records in
    all_from_yields_List f _ _ _ c.all.ensures.ran (YieldsList-from_range 0 n n refl (omega arith)) (λ x b q k. search (rules, tests)) ∙ list_all-below f n
