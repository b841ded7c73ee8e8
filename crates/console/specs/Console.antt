-- Document 01, "Small store, worked": the call that a line makes, and what is printed for it.
use Rattle.std.specs.Prelude.{ℕ, ◌≤◌, ◌≡◌, Bool, cond, not, ◌&&◌, List, [], ◌∷◌, ◌++◌, eqb, leb, length, take, drop}
use Rattle.octets.specs.Octets.{zeros}
use Rattle.octets.specs.Text.{text}
use Rattle.terms.specs.Terms.{end_ref}
use Rattle.terms.specs.declared.Status.{Status}
use Rattle.terms.specs.Status.{status_number, status_code}
use Rattle.terms.specs.Operation.{operation_of}
use Rattle.calls.specs.Call.{Call, Outcome, call_of, one_of, reads}
use Rattle.calls.specs.Outcome.{outcome}
use Rattle.console.specs.Lines.{end_of, field_of, is_name, name_in, is_part, given_part}
use Rattle.console.specs.References.{decimal, is_reference, reference_of, written}

-- ---- a line that is a call

-- six fields: the sixth ends where the line does. A line of fewer has an empty sixth
abbrev pub six_fields : List ℕ → Bool
six_fields line = eqb (end_of line 5) (length line)

-- each field is made as document 01 says: "An operation has 5 bytes, a set 4, a path 8"
unfoldable pub fields_made : List ℕ → Bool
fields_made line =
    eqb (length (field_of line 0)) 5
    && is_name 4 (field_of line 1)
    && is_reference (field_of line 2)
    && is_name 8 (field_of line 3)
    && is_part (field_of line 4)
    && is_part (field_of line 5)

-- not "A line over 128 bytes or not so made"
abbrev pub well_made : List ℕ → Bool
well_made line = leb (length line) 128 && (six_fields line && fields_made line)

-- "for reads it lends its own area of the right length": the areas of both sets of the small store have 8 bytes
unfoldable pub is_read : List ℕ → Bool
is_read operation = one_of (operation_of operation) reads

abbrev pub own_area : List ℕ
own_area = zeros 8

abbrev pub area_for : List ℕ → List ℕ → List ℕ
area_for operation f = cond (is_read operation) own_area (given_part f)

-- the call that a line makes
abbrev pub call_in : List ℕ → List ℕ → List ℕ → Call
call_in line schema base =
    call_of (field_of line 0) (name_in 4 (field_of line 1)) (reference_of (field_of line 2)) (name_in 8 (field_of line 3)) (given_part (field_of line 4))
    (area_for (field_of line 0) (field_of line 5)) schema base

-- "A program formats this store": the call that it makes before line 1, which looks at schema and data base alone
abbrev pub format_call : List ℕ → List ℕ → Call
format_call schema base = call_of (text "FORMT") (text "    ") 0 (text "        ") [] own_area schema base

-- ---- what is printed

-- "prints line number, code, reference, and the area": one line
abbrev pub printed : ℕ → List ℕ → List ℕ → List ℕ → List ℕ
printed number code reference area = decimal number ++ text " " ++ code ++ text " " ++ reference ++ text " " ++ area ++ (10 ∷ [])

-- a read that gave a record: done, and the reference is not END.
abbrev pub record_given : Status → ℕ → Bool
record_given status reference = eqb (status_number status) 0 && not (eqb reference end_ref)

-- "the area of a read that gave a record, else "-""
abbrev pub area_shown : List ℕ → Outcome → List ℕ
area_shown operation o = cond (is_read operation && record_given o.status o.reference) o.area (text "-")

abbrev pub line_for : ℕ → List ℕ → Outcome → List ℕ
line_for number operation o = printed number (status_code o.status) (written o.reference) (area_shown operation o)

-- "prints its number, FORM, -, -, and makes no call"
abbrev pub unmade : ℕ → List ℕ
unmade number = printed number (text "FORM") (text "-") (text "-")

-- ---- a line's outcome

-- what is printed, and the data base as the line leaves it
pub record Reply : Type 0 where
  pub printed : List ℕ
  pub base : List ℕ

abbrev pub reply_to : ℕ → List ℕ → Call → Reply
reply_to number operation c = record { printed = line_for number operation (outcome c); base = (outcome c).base }

unfoldable pub responded : ℕ → List ℕ → List ℕ → List ℕ → Reply
responded number line schema base =
    cond (well_made line) (reply_to number (field_of line 0) (call_in line schema base)) (record { printed = unmade number; base = base })

-- behind its first n bytes a buffer stays as it was
pub record RestStays (n : ℕ) (was out : List ℕ) : Type 0 where
  pub rest : drop n out ≡ drop n was

-- "this is the reply": the first n bytes of a buffer of 64, which stays as it was behind them, and the data base
pub record Replied (n : ℕ) (was out base : List ℕ) (reply : Reply) : Type 0 where
  pub fits : n ≤ 64
  pub text : take n out ≡ reply.printed
  pub rest : RestStays n was out
  pub kept : base ≡ reply.base

-- the first n bytes of a buffer of 129 are what is kept of a line: all of it, or its first 129 bytes
pub record KeptLine (n : ℕ) (buffer line : List ℕ) : Type 0 where
  pub fits : n ≤ 129
  pub bytes : take n buffer ≡ take 129 line
