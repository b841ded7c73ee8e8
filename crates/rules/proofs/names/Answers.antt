-- `rules::names` meets its contract: each entry in use has a new name.
use mathlib.Core.Path.{◌∙◌, refl}
use Rattle.std.proofs.Common.{tests, rules, ℕ}
use Rattle.std.proofs.Math.Nat.{sub-zero}
use Rattle.std.proofs.lemmas.Iterator.{YieldsList-from_range}
use Rattle.std.proofs.lemmas.Iterator.Search.{all_from_yields_List}
use Rattle.octets.specs.Below.{all_below}
use Rattle.schema.specs.Rules.{names_rule}
use Rattle.rules.specs.Parts.{older}
use Rattle.octets.specs.BelowLaws.{list_all-below}
use Rattle.rules.proofs.names.Goals as goal

pub returns : goal.returns
unfolding names_rule
returns c =
    let s = c.args.s.now in
    let f = λ (n : ℕ). all_below (older s n) n in
    all_from_yields_List f _ _ _ c.all.ensures.ran (YieldsList-from_range 0 c.sets.result c.sets.result refl (sub-zero _)) (λ x b q k. search (rules, tests)) ∙ rw (← c.sets.ensures) (list_all-below f c.sets.result)
