-- Document 01, "Small store, worked": "reads six blank-separated fields a line (operation, set, reference, path, key, area ..)". A line is
-- the list of its bytes, without its newline.
use Rattle.std.specs.Prelude.{ℕ, zero, suc, ◌+◌, ◌-◌, Bool, cond, not, ◌||◌, List, [], eqb, length, replicate}
use Rattle.octets.specs.Octets.{byte_at, run, same_bytes}
use Rattle.octets.specs.Below.{lowest_from}
use Rattle.octets.specs.Text.{text}

-- ---- the fields of a line

-- where the field that begins at a place ends: at the next blank, 0x20, or at the line's end
abbrev pub end_from : List ℕ → ℕ → ℕ
end_from line at = lowest_from (λ i. eqb (byte_at line i) 32) (length line - at) at

-- the end of field k, counted from 0; a field begins behind the blank that ends the one before it
unfoldable pub end_of : List ℕ → ℕ → ℕ
end_of line zero = end_from line 0
end_of line (suc k) = end_from line (end_of line k + 1)

abbrev pub start_of : List ℕ → ℕ → ℕ
start_of line zero = 0
start_of line (suc k) = end_of line k + 1

-- its bytes; a field that is not there, and one between two blanks, has none
abbrev pub field_of : List ℕ → ℕ → List ℕ
field_of line k = run line (start_of line k) (end_of line k - start_of line k)

-- ---- what a field says

-- ""-" is empty"
abbrev pub is_dash : List ℕ → Bool
is_dash f = same_bytes f (text "-")

-- "a set 4, a path 8; a set or path of "-" is passed as blanks": a name of n bytes
abbrev pub is_name : ℕ → List ℕ → Bool
is_name n f = eqb (length f) n || is_dash f

abbrev pub name_in : ℕ → List ℕ → List ℕ
name_in n f = cond (is_dash f) (replicate n 32) f

-- a key or an area: any bytes
abbrev pub is_part : List ℕ → Bool
is_part f = not (eqb (length f) 0)

abbrev pub given_part : List ℕ → List ℕ
given_part f = cond (is_dash f) [] f
