-- `rules::new_letters` meets its contract: a slot without a path is apart from all; no path below q clashes with that of slot q.
use mathlib.Core.Path.{◌∙◌, refl}
use Rattle.std.proofs.Common.{tests, rules}
use Rattle.std.proofs.Math.Nat.{sub-zero}
use Rattle.std.proofs.lemmas.Iterator.{YieldsList-from_range}
use Rattle.std.proofs.lemmas.Iterator.Search.{all_from_yields_List}
use mathlib.Core.Path.{ap}
use mathlib.Core.Bool.{not}
use Rattle.rules.specs.Parts.{apart}
use Rattle.octets.specs.BelowLaws.{list_all-below}
use Rattle.rules.specs.RulesLaws.{unused_apart}
use Rattle.rules.proofs.new_letters.Goals as goal

pub returns-then-not-used : goal.returns-then-not-used
returns-then-not-used c = ap not c.if-not-used.true ∙ unused_apart c.args.s.now c.args.q c.used.ensures (ap not c.if-not-used.true)

pub returns-else-not-used : goal.returns-else-not-used
returns-else-not-used c =
    let f = apart c.args.s.now c.args.q in
    all_from_yields_List f _ _ _ c.all.ensures.ran (YieldsList-from_range 0 c.args.q c.args.q refl (sub-zero _)) (λ x b q k. search (rules, tests)) ∙ list_all-below f c.args.q
