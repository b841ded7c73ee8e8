-- `signon::on_masters::masters_in_place` meets its contract: the records are the numbers below their count, one higher.
use Rattle.std.specs.Prelude.{Bool}
use Rattle.std.proofs.Common.{ℕ, ◌+◌, rules, tests, refl, ◌∙◌, arith}
use Rattle.std.proofs.lemmas.Iterator.{YieldsList-from_range}
use Rattle.std.proofs.lemmas.Iterator.Search.{all_from_yields_List}
use Rattle.sound.specs.Linear.{masters_in_place}
use Rattle.octets.specs.BelowLaws.{list_all-below}
use Rattle.signon.specs.Judged.{in_place_at}
use Rattle.signon.proofs.on_masters.masters_in_place.Goals as goal

pub returns : goal.returns
unfolding masters_in_place
returns c =
    let f : ℕ → Bool = λ k. in_place_at c.args.masters.now.base.now c.args.masters.now.entry.now (k + 1) in
    let n = c.args.masters.now.entry.now.records in
    all_from_yields_List f _ _ _ c.all.ensures.ran (YieldsList-from_range 0 n n refl (omega arith)) (λ x b q k. search (rules, tests)) ∙ list_all-below f n
