-- `forms::blank_area_key` meets its contract, by the kind of the set.
use Rattle.std.proofs.Common.{sym, ap, ◌∙◌, eq-eqb}
use Rattle.octets.specs.Octets.{all_blank}
use Rattle.forms.specs.FormLaws.{blank_master}
use Rattle.forms.proofs.blank_area_key.Goals as goal

pub returns-then-area-eq1 : goal.returns-then-area-eq1
returns-then-area-eq1 c =
    let s = c.args.area.now in
    c.is_blank.ensures ∙ ap all_blank (c.of.ensures.0 ∙ c.master_key.ensures.value) ∙ sym (blank_master s.entry.now s.bytes.now (eq-eqb _ _ c.if-area-eq1.true))
