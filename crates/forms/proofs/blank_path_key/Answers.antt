-- `forms::blank_path_key` meets its contract: the paths are the numbers below their count.
use Rattle.std.proofs.Common.{rules, tests, refl, ◌∙◌, arith}
use Rattle.std.proofs.lemmas.Iterator.{YieldsList-from_range}
use Rattle.std.proofs.lemmas.Iterator.Search.{any_from_yields_List}
use Rattle.forms.specs.FormLaws.{blank_on, some_blank}
use Rattle.forms.proofs.blank_path_key.Goals as goal

pub returns : goal.returns
returns c =
    let s = c.args.area.now in
    let n = c.from.result in
    any_from_yields_List (blank_on s.entry.now s.bytes.now) _ _ _ c.any.ensures.ran (YieldsList-from_range 0 n n refl (omega arith)) (λ x b q k. search (rules, tests))
    ∙ rw c.from.ensures (some_blank s.entry.now s.bytes.now c.requires)
