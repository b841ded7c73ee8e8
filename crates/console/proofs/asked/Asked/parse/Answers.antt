use Rattle.std.proofs.Common.{sym, ◌∙◌}
use Rattle.std.proofs.lemmas.Bool.{false≢true}
use Rattle.console.specs.ConsoleLaws.{made-operation, made-set, made-reference, made-path, made-key, made-area}
use Rattle.console.specs.AskedLaws.{all_made, made_well, unmade_field}
use Rattle.console.proofs.asked.Asked.parse.Goals as goal

pub returns-in_err-operation : goal.returns-in_err-operation
returns-in_err-operation c = rw c.from_residual.ensures (unmade_field _ (λ h. (rw c.field.ensures at c.in_err-operation.ensures) (made-operation _ h)))

pub returns-in_err-set : goal.returns-in_err-set
returns-in_err-set c = rw c.from_residual-in_err-set.ensures (unmade_field _ (λ h. false≢true (sym (rw c.field-2.ensures at c.in_err-set.ensures) ∙ made-set _ h)))

pub returns-in_err-reference : goal.returns-in_err-reference
returns-in_err-reference c = rw c.from_residual-in_err-reference.ensures (unmade_field _ (λ h. false≢true (sym (rw c.field-3.ensures at c.in_err-reference.ensures) ∙ made-reference _ h)))

pub returns-in_err-path : goal.returns-in_err-path
returns-in_err-path c = rw c.from_residual-in_err-path.ensures (unmade_field _ (λ h. false≢true (sym (rw c.field-4.ensures at c.in_err-path.ensures) ∙ made-path _ h)))

pub returns-in_err-key : goal.returns-in_err-key
returns-in_err-key c = rw c.from_residual-in_err-key.ensures (unmade_field _ (λ h. false≢true (sym (rw c.field-5.ensures at c.in_err-key.ensures) ∙ made-key _ h)))

pub returns-in_err-area : goal.returns-in_err-area
returns-in_err-area c = rw c.from_residual-in_err-area.ensures (unmade_field _ (λ h. false≢true (sym (rw c.field-6.ensures at c.in_err-area.ensures) ∙ made-area _ h)))

pub returns : goal.returns
returns c =
    let o = rw c.field.ensures at c.in_ok-operation.ensures in
    let s = rw c.field-2.ensures at c.in_ok-set.ensures in
    let r = rw c.field-3.ensures at c.in_ok-reference.ensures in
    let p = rw c.field-4.ensures at c.in_ok-path.ensures in
    let k = rw c.field-5.ensures at c.in_ok-key.ensures in
    let a = rw c.field-6.ensures at c.in_ok-area.ensures in
    record {
      made = made_well _ c.if-line-gt128.false (sym c.six_fields.ensures ∙ c.if-not-six_fields.false) (all_made _ o.0 s.0 r.0 p.0 k.0 a.0);
      operation = o.1;
      set = s.1;
      reference = r.1;
      path = p.1;
      key = k.1;
      area = a.1;
    }
