-- `clean::leftovers_clean` meets its contract: the set's blocks are the numbers below their count.
use Rattle.std.proofs.Common.{rules, tests, refl, ◌∙◌, arith}
use Rattle.std.proofs.lemmas.Iterator.{YieldsList-from_range}
use Rattle.std.proofs.lemmas.Iterator.Search.{all_from_yields_List}
use Rattle.sound.specs.Sound.{leftover_clean}
use Rattle.octets.specs.BelowLaws.{list_all-below}
use Rattle.clean.proofs.leftovers_clean.Goals as goal

pub returns : goal.returns
returns c =
    let f = leftover_clean c.args.set.now.base.now c.args.set.now.entry.now in
    let n = c.blocks_held.result in
    all_from_yields_List f _ _ _ c.all.ensures.ran (YieldsList-from_range 0 n n refl (omega arith)) (λ x b q k. search (rules, tests)) ∙ list_all-below f n ∙ (rw c.blocks_held.ensures.0 refl)
