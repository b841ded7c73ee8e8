-- `signon::sets_in_place` meets its contract: the sets are the numbers below their count.
use Rattle.std.specs.Prelude.{Bool}
use Rattle.std.proofs.Common.{ℕ, rules, tests, refl, ap, ◌∙◌, arith}
use Rattle.std.proofs.lemmas.Iterator.{YieldsList-from_range}
use Rattle.std.proofs.lemmas.Iterator.Search.{all_from_yields_List}
use Rattle.octets.specs.Below.{all_below}
use Rattle.octets.specs.BelowLaws.{list_all-below}
use Rattle.signon.specs.Judged.{set_placed}
use Rattle.signon.proofs.sets_in_place.Goals as goal

pub returns : goal.returns
returns c =
    let f : ℕ → Bool = set_placed c.args.t c.args.base.now in
    let n = c.sets.result in
    all_from_yields_List f _ _ _ c.all.ensures.ran (YieldsList-from_range 0 n n refl (omega arith)) (λ x b q k. search (rules, tests))
    ∙ list_all-below f n
    ∙ ap (all_below f) c.sets.ensures
