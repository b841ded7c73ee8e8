-- `rules::letters` meets its contract: each slot in use has new letters.
use mathlib.Core.Path.{◌∙◌, refl}
use Rattle.std.proofs.Common.{tests, rules, ℕ}
use Prim.Native.Nat.{◌*◌}
use Rattle.std.proofs.Math.Nat.{sub-zero}
use Rattle.std.proofs.lemmas.Iterator.{YieldsList-from_range}
use Rattle.std.proofs.lemmas.Iterator.Search.{all_from_yields_List}
use Rattle.octets.specs.Below.{all_below}
use Rattle.schema.specs.Rules.{letters_rule}
use Rattle.rules.specs.Parts.{apart}
use Rattle.octets.specs.BelowLaws.{list_all-below}
use Rattle.rules.proofs.letters.Goals as goal

pub returns : goal.returns
unfolding letters_rule
returns c =
    let s = c.args.s.now in
    let f = λ (n : ℕ). all_below (apart s n) n in
    let n = 4 * c.sets.result in
    all_from_yields_List f _ _ _ c.all.ensures.ran (YieldsList-from_range 0 n n refl (sub-zero _)) (λ x b q k. search (rules, tests)) ∙ rw (← c.sets.ensures) (list_all-below f n)
