-- `forms::other_stored_key` meets its contract: the paths are the numbers below their count.
use Rattle.std.proofs.Common.{rules, tests, refl, ◌∙◌, arith, not}
use Rattle.std.proofs.lemmas.Iterator.{YieldsList-from_range}
use Rattle.std.proofs.lemmas.Iterator.Search.{any_from_yields_List}
use Rattle.forms.specs.FormLaws.{some_other}
use Rattle.forms.specs.Form.{same_stored}
use Rattle.forms.proofs.other_stored_key.Goals as goal

pub returns : goal.returns
returns c =
    let r = c.args.record.now in
    let s = c.of-given.result in
    let n = c.from.result in
    any_from_yields_List (λ k. not (same_stored r.base.now s.entry.now r.number.0 s.bytes.now k)) _ _ _ c.any.ensures.ran (YieldsList-from_range 0 n n refl (omega arith)) (λ x b q k. search (rules, tests))
    ∙ rw (c.from.ensures, c.of-given.ensures.0, c.of-given.ensures.1) (some_other r.base.now r.entry.now r.number.0 c.args.area.now)
