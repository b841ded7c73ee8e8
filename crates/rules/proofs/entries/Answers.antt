-- `rules::entries` meets its contract: the rule of each entry below 8.
use mathlib.Core.Path.{◌∙◌, refl}
use Rattle.std.proofs.Common.{tests, rules}
use Rattle.std.proofs.lemmas.Iterator.{YieldsList-from_range}
use Rattle.std.proofs.lemmas.Iterator.Search.{all_from_yields_List}
use Rattle.schema.specs.Rules.{entry_rule}
use Rattle.octets.specs.BelowLaws.{list_all-below}
use Rattle.rules.proofs.entries.Goals as goal

pub returns : goal.returns
returns c =
    let f = entry_rule c.args.s.now in
    all_from_yields_List f _ _ _ c.all.ensures.ran (YieldsList-from_range 0 8 8 refl refl) (λ x b q k. search (rules, tests)) ∙ list_all-below f 8
