-- Condition 3, first page: plain lists. For each variable set, path and key a list of points, each with its record number and its area.
-- A step of them looks only at the call, its status and the reference that it returned, and of the call not at the data base. How a store keeps
-- its records does not come in.
use Rattle.std.specs.Prelude.{ℕ, cond, ◌&&◌, List, [], ◌∷◌, ◌++◌, eqb}
use Rattle.octets.specs.Octets.{same_bytes}
use Rattle.terms.specs.declared.Status.{Status}
use Rattle.terms.specs.Status.{status_number}
use Rattle.terms.specs.declared.Operation.{Operation}
use Rattle.terms.specs.declared.Operation.TheVariants.{Formt, Writv, Addvc, Addvb, Addva, Delvd}
use Rattle.terms.specs.Operation.{operation_of}
use Rattle.schema.specs.declared.Entry.{Entry}
use Rattle.schema.specs.Decode.{entry_of, schema_of}
use Rattle.records.specs.Areas.{area_key_on}
use Rattle.calls.specs.Call.{Call, chosen}
use Rattle.schema.specs.Naming.{set_named, path_named}

-- a point of a chain: the number of its record, and its area
pub record Point : Type 0 where
  pub number : ℕ
  pub area : List ℕ

-- for each set, path and key a list: the set by its entry number, the path by its number in the set
abbrev pub Lists : Type 0
Lists = ℕ → ℕ → List ℕ → List Point

-- ---- changes of one list

-- x before, or behind, the record n; at the end where n is not in the list
unfoldable pub before : ℕ → Point → List Point → List Point
before n x [] = x ∷ []
before n x (y ∷ ys) = cond (eqb y.number n) (x ∷ y ∷ ys) (y ∷ before n x ys)

unfoldable pub behind : ℕ → Point → List Point → List Point
behind n x [] = x ∷ []
behind n x (y ∷ ys) = cond (eqb y.number n) (y ∷ x ∷ ys) (y ∷ behind n x ys)

unfoldable pub taken_out : ℕ → List Point → List Point
taken_out n [] = []
taken_out n (y ∷ ys) = cond (eqb y.number n) (taken_out n ys) (y ∷ taken_out n ys)

-- of the area of the record n is made what f says
unfoldable pub rewritten : ℕ → (List ℕ → List ℕ) → List Point → List Point
rewritten n f [] = []
rewritten n f (y ∷ ys) = cond (eqb y.number n) (record { number = n; area = f y.area }) y ∷ rewritten n f ys

-- ---- what the call names

abbrev pub set_in : Call → ℕ
set_in c = set_named (schema_of c.schema) c.name

abbrev pub entry_in : Call → Entry
entry_in c = entry_of (schema_of c.schema) (set_in c)

abbrev pub path_in : Call → ℕ
path_in c = path_named (schema_of c.schema) (entry_in c) c.path

-- ---- areas

-- the whole area that an add brings
abbrev pub brought_by : Call → List ℕ
brought_by c = c.area

-- what WRITV makes of a point's area: the call's (it is refused where a key differs, so only the D bytes are new)
abbrev pub overwritten_by : Call → List ℕ → List ℕ
overwritten_by c old = c.area

-- ---- the step of each call that is done; r is the reference that it returned

-- a new point on every path of its set, in the list of its key there: `place` puts it into the named path's list, at the end of the others
abbrev pub added : Call → ℕ → (Point → List Point → List Point) → Lists → Lists
added c r place l i j key =
    cond (eqb i (set_in c) && same_bytes key (area_key_on (entry_in c) (brought_by c) j))
    (cond (eqb j (path_in c)) (place (record { number = r; area = brought_by c }) (l i j key)) (l i j key ++ (record { number = r; area = brought_by c } ∷ [])))
    (l i j key)

abbrev pub at_end : Point → List Point → List Point
at_end x xs = xs ++ (x ∷ [])

-- the lists of the call's set, each changed by f
abbrev pub in_set_of : Call → (List Point → List Point) → Lists → Lists
in_set_of c f l i j key = cond (eqb i (set_in c)) (f (l i j key)) (l i j key)

abbrev pub step_by : Operation → Call → ℕ → Lists → Lists
step_by o c r l =
    chosen o
    ((Formt ∷ [], λ i j key. [])
    ∷ (Addvc ∷ [], added c r at_end l)
    ∷ (Addvb ∷ [], added c r (before c.reference) l)
    ∷ (Addva ∷ [], added c r (behind c.reference) l)
    ∷ (Delvd ∷ [], in_set_of c (taken_out c.reference) l)
    ∷ (Writv ∷ [], in_set_of c (rewritten c.reference (overwritten_by c)) l)
    ∷ [])
    l

-- the step of a call: a refused one changes nothing
unfoldable pub step : Call → Status → ℕ → Lists → Lists
step c s r l = cond (eqb (status_number s) 0) (step_by (operation_of c.operation) c r l) l
