-- `forms::form_status` meets its contract: the two lengths, and then the answers in their order.
use Rattle.std.proofs.Common.{Bool, ◌≡◌, not, sym, ap, ◌∙◌}
use Rattle.std.specs.Prelude.{is_some}
use Rattle.std.proofs.Math.Bool.{not-not}
use borrow.Author.Tests.{not-true, not-false}
use Rattle.forms.specs.FormLaws.{form-area, form-keyless, form_klen, form_keys, form_unsized}
use Rattle.forms.proofs.form_status.Goals as goal

told : {s r f : Bool} → s ≡ not r → s ≡ f → r ≡ not f
told {r = r} p q = sym (not-not r) ∙ ap not (sym p ∙ q)

pub returns-then-q-is_none : goal.returns-then-q-is_none
returns-then-q-is_none c =
    let a = c.args in
    form-area a.o a.e a.on a.link a.k a.reference a.key.now a.area.now (rw (told c.is_none.ensures c.fitting-fitting.ensures.fits, c.from-q.ensures) at c.if-q-is_none.true)

pub returns-then-not-q : goal.returns-then-not-q
returns-then-not-q c =
    let a = c.args in
    c.decide.ensures
    ∙ (rw (c.wrong_reference-wrong.ensures, c.from-q.ensures)
    (form-keyless a.o a.e a.on a.link a.k a.reference a.key.now a.area.now (rw (told c.is_none.ensures c.fitting-fitting.ensures.fits, c.from-q.ensures) at c.if-q-is_none.false)
    (rw c.from-q.ensures at (not-true c.from-q.result.key c.if-not-q.true))))

pub returns-then-key-from : goal.returns-then-key-from
returns-then-key-from c =
    let a = c.args in
    form_klen a.o a.e a.on a.link a.k a.reference a.key.now a.area.now (rw (told c.is_none.ensures c.fitting-fitting.ensures.fits, c.from-q.ensures) at c.if-q-is_none.false)
    (rw c.from-q.ensures at (not-false c.from-q.result.key c.if-not-q.false)) (rw c.from.ensures at c.if-key-from.true)

pub returns-in_default : goal.returns-in_default
returns-in_default c =
    let a = c.args in
    c.decide-in_default.ensures
    ∙ (rw (c.wrong_reference-wrong.ensures, c.is_blank.ensures, c.of-control.ensures.0, c.from-q.ensures)
    (form_unsized a.o a.e a.on a.link a.k a.reference a.key.now a.area.now (rw (told c.is_none.ensures c.fitting-fitting.ensures.fits, c.from-q.ensures) at c.if-q-is_none.false)
    (rw c.from-q.ensures at (not-false c.from-q.result.key c.if-not-q.false)) (sym c.fitting-fitting.ensures.fits ∙ ap is_some c.in_default.is) (c.if-key-from.false ∙ c.from.ensures)))

pub returns : goal.returns
returns c =
    let a = c.args in
    let same = rw c.in-Some.is at c.fitting-fitting.ensures.value in
    c.key_status.ensures
    ∙ (rw (c.wrong_reference-wrong.ensures, c.of-control.ensures.0, c.from-q.ensures, same.0, same.1)
    (form_keys a.o a.e a.on a.link a.k a.reference a.key.now a.area.now (rw (told c.is_none.ensures c.fitting-fitting.ensures.fits, c.from-q.ensures) at c.if-q-is_none.false)
    (rw c.from-q.ensures at (not-false c.from-q.result.key c.if-not-q.false)) (c.if-key-from.false ∙ c.from.ensures)))
