-- `rules::slots` meets its contract: the rule of each slot below 4.
use mathlib.Core.Path.{◌∙◌, refl}
use Rattle.std.proofs.Common.{tests, rules}
use Rattle.std.proofs.lemmas.Iterator.{YieldsList-from_range}
use Rattle.std.proofs.lemmas.Iterator.Search.{all_from_yields_List}
use Rattle.schema.specs.Rules.{slot_rule}
use Rattle.octets.specs.BelowLaws.{list_all-below}
use Rattle.rules.proofs.slots.Goals as goal

pub returns : goal.returns
returns c =
    let f = slot_rule c.args.s.now c.args.i in
    all_from_yields_List f _ _ _ c.all.ensures.ran (YieldsList-from_range 0 4 4 refl refl) (λ x b q k. search (rules, tests)) ∙ list_all-below f 4
