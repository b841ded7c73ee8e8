-- The laws of a line that is well made: what its fields are then.
use Rattle.std.specs.Prelude.{ℕ, ◌≤◌, ◌<◌, ◌≡◌, Bool, true, false, cond, not, ◌&&◌, ◌||◌, List, [], ◌∷◌, ◌++◌, eqb, leb, length, take, ltb}
use Rattle.std.proofs.Math.Path.{refl}
use Rattle.std.proofs.Common.{◌∙◌, arith, length-take, length-drop, eqb-true, leb-true, sym, ap, lt-ltb}
use Rattle.std.proofs.Math.Bool.{and-eq-true_iff}
use Rattle.octets.specs.Octets.{Bytes, word_at, every}
use Rattle.octets.specs.WordLaws.{word_at_lt}
use Rattle.octets.specs.Text.{text}
use Rattle.terms.specs.declared.Status.{Status}
use Rattle.terms.specs.Status.{status_code}
use Rattle.calls.specs.Call.{Call, call_of}
use Rattle.calls.specs.Outcome.{IsOutcome}
use Rattle.console.specs.Lines.{field_of, is_dash, is_name, is_part, given_part, name_in}
use Rattle.console.specs.References.{is_digit, decimal_of, spells_four, is_decimal, is_reference, reference_of, decimal, written}
use Rattle.console.specs.PrinterLaws.{stays-behind}
use Rattle.console.specs.Console.{fields_made, well_made, is_read, record_given, unmade, RestStays, Replied, reply_to, responded, own_area, area_for, call_in}

-- ---- a reference is a word

decimal_lt : (f : List ℕ) → is_decimal f ≡ true → decimal_of f < 4294967296
decimal_lt f h =
    let t = ((and-eq-true_iff (not (eqb (length f) 0)) (every is_digit f && leb (decimal_of f) 4294967295)).0 h).1 in
    omega (arith, leb-true (decimal_of f) 4294967295 ((and-eq-true_iff (every is_digit f) (leb (decimal_of f) 4294967295)).0 t).1)

pub reference_lt : (f : List ℕ) → Bytes f → is_reference f ≡ true → reference_of f < 4294967296
reference_lt f b h = go (spells_four f) h
  where
    go : (t : Bool) → (t || is_decimal f) ≡ true → cond t (word_at f 0) (decimal_of f) < 4294967296
    go true k = word_at_lt f 0 b
    go false k = decimal_lt f k

-- the number that stands for none tells
pub reference-told : (f : List ℕ) → Bytes f → ltb (cond (is_reference f) (reference_of f) 4294967296) 4294967296 ≡ is_reference f
reference-told f b = go (is_reference f) (reference_lt f b)
  where
    go : (t : Bool) → (t ≡ true → reference_of f < 4294967296) → ltb (cond t (reference_of f) 4294967296) 4294967296 ≡ t
    go true k = lt-ltb (reference_of f) 4294967296 (k refl)
    go false k = refl

-- ---- the fields, one by one

module _ (line : List ℕ) (h : fields_made line ≡ true) where
  abbrev o : Bool
  o = eqb (length (field_of line 0)) 5

  abbrev s : Bool
  s = is_name 4 (field_of line 1)

  abbrev r : Bool
  r = is_reference (field_of line 2)

  abbrev p : Bool
  p = is_name 8 (field_of line 3)

  abbrev k : Bool
  k = is_part (field_of line 4)

  first_five : (o && s && r && p && k) ≡ true
  unfolding fields_made
  first_five = ((and-eq-true_iff (o && s && r && p && k) (is_part (field_of line 5))).0 h).0

  first_four : (o && s && r && p) ≡ true
  first_four = ((and-eq-true_iff (o && s && r && p) k).0 first_five).0

  pub made-area : is_part (field_of line 5) ≡ true
  unfolding fields_made
  made-area = ((and-eq-true_iff (o && s && r && p && k) (is_part (field_of line 5))).0 h).1

  pub made-key : is_part (field_of line 4) ≡ true
  made-key = ((and-eq-true_iff (o && s && r && p) k).0 first_five).1

  pub made-path : is_name 8 (field_of line 3) ≡ true
  made-path = ((and-eq-true_iff (o && s && r) p).0 first_four).1

  first_three : (o && s && r) ≡ true
  first_three = ((and-eq-true_iff (o && s && r) p).0 first_four).0

  pub made-reference : is_reference (field_of line 2) ≡ true
  made-reference = ((and-eq-true_iff (o && s) r).0 first_three).1

  pub made-set : is_name 4 (field_of line 1) ≡ true
  made-set = ((and-eq-true_iff o s).0 ((and-eq-true_iff (o && s) r).0 first_three).0).1

  pub made-operation : length (field_of line 0) ≡ 5
  made-operation = eqb-true _ _ ((and-eq-true_iff o s).0 ((and-eq-true_iff (o && s) r).0 first_three).0).0

-- ---- the reply to a call

-- a call's outcome, printed in two steps: all but the area, then what is shown of the area
pub replied : (number n at : ℕ) (op was out more shown : List ℕ) {c : Call} {status : Status} {reference : ℕ} {area base : List ℕ}
    → IsOutcome c (record { status = status; reference = reference; area = area; base = base })
    → cond (is_read op && record_given status reference) area (text "-") ≡ shown
    → take at out ≡ decimal number ++ text " " ++ status_code status ++ text " " ++ written reference
    → RestStays at was out
    → n ≤ 64
    → take n more ≡ take at out ++ text " " ++ shown ++ (10 ∷ [])
    → RestStays n out more
    → at ≤ n
    → Replied n was more base (reply_to number op c)
replied number n at op was out more shown h e k rest fits m stays later =
    record {
      fits = fits;
      text = m ∙ rw (k, ← h.status, ← h.reference, ← h.area, e) refl;
      rest = stays-behind rest later stays;
      kept = h.base;
    }

-- an area of a line is no longer than the line
pub part-short : (line : List ℕ) (k : ℕ) → length (given_part (field_of line k)) ≤ length line
part-short line k = go (is_dash (field_of line k))
  where
    go : (t : Bool) → length (cond t [] (field_of line k)) ≤ length line
    go true = omega arith
    go false = simp (length-take, length-drop) (omega arith)

-- the parameters, read one by one, are those of the line's call
module _ (number : ℕ) (line schema base op set path key : List ℕ) (reference : ℕ)
    (eo : op ≡ field_of line 0)
    (es : set ≡ name_in 4 (field_of line 1))
    (er : reference ≡ reference_of (field_of line 2))
    (ep : path ≡ name_in 8 (field_of line 3))
    (ek : key ≡ given_part (field_of line 4)) where
  asked_as : (area : List ℕ) → area ≡ area_for (field_of line 0) (field_of line 5) → {n : ℕ} {was out kept : List ℕ}
      → Replied n was out kept (reply_to number op (call_of op set reference path key area schema base))
      → Replied n was out kept (reply_to number (field_of line 0) (call_in line schema base))
  asked_as area ea h = rw (← eo, ← es, ← er, ← ep, ← ek, ← (ea ∙ ap (λ (o : List ℕ). area_for o (field_of line 5)) (sym eo))) h

  pub asked-read : is_read op ≡ true → {n : ℕ} {was out kept : List ℕ}
      → Replied n was out kept (reply_to number op (call_of op set reference path key own_area schema base))
      → Replied n was out kept (reply_to number (field_of line 0) (call_in line schema base))
  asked-read i h = asked_as own_area (rw (← eo, i) refl) h

  pub asked_act : is_read op ≡ false → (area : List ℕ) → area ≡ given_part (field_of line 5) → {n : ℕ} {was out kept : List ℕ}
      → Replied n was out kept (reply_to number op (call_of op set reference path key area schema base))
      → Replied n was out kept (reply_to number (field_of line 0) (call_in line schema base))
  asked_act i area ea h = asked_as area (rw (← eo, i) ea) h

-- ---- the reply to a line

module _ (number n : ℕ) (line schema base was out : List ℕ) where
  pub unmade-line : well_made line ≡ false → n ≤ 64 → take n out ≡ unmade number → RestStays n was out → Replied n was out base (responded number line schema base)
  unfolding responded
  unmade-line h fits e d = rw h (record { fits = fits; text = e; rest = d; kept = refl })

  pub made-line : well_made line ≡ true → {kept : List ℕ} → Replied n was out kept (reply_to number (field_of line 0) (call_in line schema base))
      → Replied n was out kept (responded number line schema base)
  unfolding responded
  made-line h r = rw h r
