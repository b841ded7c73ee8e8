-- The statement from C admits one word, one area and one data base only; and an outcome whose status and reference are the halves of a word.
use Rattle.std.specs.Prelude.{ℕ, ◌≡◌, List}
use Rattle.std.proofs.Common.{sym, ap, ◌∙◌, arith}
use Rattle.terms.specs.declared.Status.{Status}
use Rattle.terms.specs.Status.{status_number}
use Rattle.calls.specs.Call.{Call}
use Rattle.calls.specs.Outcome.{IsOutcome}
use Rattle.calls.specs.Word.{upper_half, lower_half, IsWord}

pub one_word : (c : Call) {v w : ℕ} {a d b e : List ℕ} → IsWord c v a b → IsWord c w d e → (v ≡ w) × (a ≡ d) × (b ≡ e)
one_word c {v} {w} h k =
    let s : upper_half v ≡ upper_half w = h.status ∙ sym k.status in
    let r : lower_half v ≡ lower_half w = h.reference ∙ sym k.reference in
    (omega arith, h.area-after ∙ sym k.area-after, h.base_after_lem ∙ sym k.base_after_lem)

pub as_word : (c : Call) {s : Status} {q m w : ℕ} {area base : List ℕ} → IsOutcome c (record { status = s; reference = q; area = area; base = base })
    → m ≡ status_number s → upper_half w ≡ m → lower_half w ≡ q → IsWord c w area base
as_word c h n u l = record { status = u ∙ n ∙ ap status_number h.status; reference = l ∙ h.reference; area-after = h.area; base_after_lem = h.base }
