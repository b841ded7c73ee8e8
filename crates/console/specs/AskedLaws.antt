-- The laws of what a line asks for: its area fits, and a reply to its call is the reply to the line.
use Rattle.std.specs.Prelude.{ℕ, ◌≤◌, ◌≡◌, Bool, true, false, cond, ◌&&◌, List, leb, length}
use Rattle.std.proofs.Common.{refl, arith, leb-true, le-leb, eq-eqb}
use Rattle.std.proofs.Math.Bool.{and-eq-true_iff}
use Rattle.console.specs.declared.asked.Asked.{Asked}
use Rattle.console.specs.Lines.{field_of, is_name, is_part}
use Rattle.console.specs.References.{is_reference}
use Rattle.console.specs.Console.{six_fields, fields_made, well_made, is_read, own_area, Replied, reply_to, responded}
use Rattle.console.specs.ConsoleLaws.{part-short}
use Rattle.console.specs.Asked.{WellMade, call_asked}

both : (line : List ℕ) → well_made line ≡ true → (leb (length line) 128 ≡ true) × ((six_fields line && fields_made line) ≡ true)
both line h = (and-eq-true_iff (leb (length line) 128) (six_fields line && fields_made line)).0 h

pub asked_short : {line : List ℕ} {a : Asked} → WellMade line a → length a.area.now ≤ 128
asked_short {line} h = rw h.area (omega (arith, part-short line 5, leb-true (length line) 128 (both line h.made).0))

-- a line whose fields are made
pub all_made : (line : List ℕ) → length (field_of line 0) ≡ 5 → is_name 4 (field_of line 1) ≡ true → is_reference (field_of line 2) ≡ true → is_name 8 (field_of line 3) ≡ true
    → is_part (field_of line 4) ≡ true → is_part (field_of line 5) ≡ true → fields_made line ≡ true
unfolding fields_made
all_made line o s r p k a = rw (eq-eqb _ 5 o, s, r, p, k, a) refl

pub made_well : (line : List ℕ) → length line ≤ 128 → six_fields line ≡ true → fields_made line ≡ true → well_made line ≡ true
made_well line h s m = rw (le-leb (length line) 128 h, s, m) refl

-- a line of which a field is not made
not_true : (t : Bool) → (t ≡ true → ⊥) → t ≡ false
not_true true h = absurd (h refl)
not_true false h = refl

pub unmade_field : (line : List ℕ) → (fields_made line ≡ true → ⊥) → well_made line ≡ false
unmade_field line h = not_true (well_made line) (λ m. h ((and-eq-true_iff (six_fields line) (fields_made line)).0 (both line m).1).1)

pub asked_replied : (number : ℕ) (schema base : List ℕ) {n : ℕ} {line was out kept : List ℕ} {a : Asked} → WellMade line a
    → Replied n was out kept (reply_to number a.operation (call_asked a (cond (is_read a.operation) own_area a.area.now) schema base))
    → Replied n was out kept (responded number line schema base)
unfolding responded
asked_replied number schema base h r = rw (h.made, ← h.operation, ← h.set, ← h.reference, ← h.path, ← h.key, ← h.area) r
