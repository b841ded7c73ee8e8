-- `signon::paths_in_place` meets its contract: the paths are the numbers below their count.
use Rattle.std.specs.Prelude.{Bool}
use Rattle.std.proofs.Common.{ℕ, rules, tests, refl, ap, ◌∙◌, arith}
use Rattle.std.proofs.lemmas.Iterator.{YieldsList-from_range}
use Rattle.std.proofs.lemmas.Iterator.Search.{all_from_yields_List}
use Rattle.sound.specs.Linear.{paths_in_place}
use Rattle.octets.specs.Below.{all_below}
use Rattle.octets.specs.BelowLaws.{list_all-below}
use Rattle.signon.specs.Judged.{path_placed}
use Rattle.signon.proofs.paths_in_place.Goals as goal

pub returns : goal.returns
unfolding paths_in_place
returns c =
    let f : ℕ → Bool = path_placed c.args.t c.args.base.now c.args.e in
    let n = c.from.result in
    all_from_yields_List f _ _ _ c.all.ensures.ran (YieldsList-from_range 0 n n refl (omega arith)) (λ x b q k. search (rules, tests))
    ∙ list_all-below f n
    ∙ ap (all_below f) c.from.ensures
