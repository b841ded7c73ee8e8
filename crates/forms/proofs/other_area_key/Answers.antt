-- `forms::other_area_key` meets its contract, by the kind of the set.
use Rattle.std.proofs.Common.{ℕ, List, Bor, sym, ap, ◌∙◌, ◌≡◌, not, eq-eqb, ne_eqb}
use Rattle.octets.specs.Octets.{same_bytes}
use Rattle.terms.specs.Terms.{key_of}
use Rattle.calls.specs.Ladder.{other_area_key}
use Rattle.forms.specs.FormLaws.{other_master-key, other_path}
use Rattle.forms.proofs.other_area_key.Goals as goal
use Rattle.forms.proofs.other_area_key.Goals.{then-area-eq1, else-area-eq1}

pub returns : goal.returns
returns c =
    let s = c.args.area.now in
    let control = key_of c.args.control in
    let own : not (same_bytes c.if-area-eq1.key.now control) ≡ other_area_key s.entry.now c.args.on control s.bytes.now =
    elim c.if-area-eq1.branch [
      | then-area-eq1 w ↦ ap (λ k. not (same_bytes k control)) (ap (λ (k : Bor (List ℕ)). k.now) w.key-is ∙ w.master_key-key.ensures.value) ∙ sym (other_master-key s.entry.now s.bytes.now c.args.on control (eq-eqb _ _ w.if-area-eq1.true))
      | else-area-eq1 w ↦ ap (λ k. not (same_bytes k control)) (ap (λ (k : Bor (List ℕ)). k.now) w.key-is ∙ w.key_on-key.ensures.value) ∙ sym (other_path s.entry.now s.bytes.now c.args.on control (ne_eqb _ _ w.if-area-eq1.false))
    ] in
    ap not (c.same.ensures ∙ ap (λ k. same_bytes k control) c.of.ensures.0) ∙ own
