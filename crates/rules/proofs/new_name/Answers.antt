-- `rules::new_name` meets its contract: no entry below k has entry k's name.
use mathlib.Core.Path.{◌∙◌, refl}
use Rattle.std.proofs.Common.{tests, rules}
use Rattle.std.proofs.Math.Nat.{sub-zero}
use Rattle.std.proofs.lemmas.Iterator.{YieldsList-from_range}
use Rattle.std.proofs.lemmas.Iterator.Search.{all_from_yields_List}
use Rattle.rules.specs.Parts.{older}
use Rattle.octets.specs.BelowLaws.{list_all-below}
use Rattle.rules.proofs.new_name.Goals as goal

pub returns : goal.returns
returns c =
    let f = older c.args.s.now c.args.k in
    all_from_yields_List f _ _ _ c.all.ensures.ran (YieldsList-from_range 0 c.args.k c.args.k refl (sub-zero _)) (λ x b q k. search (rules, tests)) ∙ list_all-below f c.args.k
