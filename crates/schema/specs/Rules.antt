-- Document 01, "Blocks and the schema": every rule of the schema but the two on sizes, which need the layout (Layout).
-- A schema that breaks one is SCHM.
use Rattle.std.specs.Prelude.{ℕ, ◌+◌, ◌*◌, ◌/◌, ◌%◌, Bool, cond, not, ◌&&◌, ◌||◌, List, eqb, leb, ltb, length}
use Rattle.octets.specs.Octets.{byte_at, run, all_zero, same_bytes}
use Rattle.octets.specs.Below.{all_below}
use Rattle.blocks.specs.Blocks.{check_by, is_sealed}
use Rattle.schema.specs.Fields.{edition_of, masters_of, variables_of, sets_of, entry_at, name_of, kind_of, count_of, records_of, key_length_of, slot_at, letters_of, master_of, is_path}

-- A..Z, and A..Z or 0..9
abbrev pub is_capital : ℕ → Bool
is_capital x = leb 65 x && leb x 90

abbrev pub is_capital_or_digit : ℕ → Bool
is_capital_or_digit x = is_capital x || (leb 48 x && leb x 57)

-- "The schema is one block, number 0; a schema buffer not of 512 bytes, or with a false check, breaks a rule.": the check
-- that its own byte 0 asks for
unfoldable pub block_rule : List ℕ → Bool
block_rule s = eqb (length s) 512 && is_sealed (check_by (edition_of s)) s 0

-- "Byte 0 is 1; byte 1 is M, master sets, 1..4; byte 2 is V, variable sets, 0..4; bytes 3..15 zero."
unfoldable pub head_rule : List ℕ → Bool
head_rule s =
    eqb (edition_of s) 1
    && (leb 1 (masters_of s) && leb (masters_of s) 4)
    && leb (variables_of s) 4
    && all_zero (run s 3 13)

-- "name 0..3 (capital letter, then capitals or digits ..)"
unfoldable pub name_rule : List ℕ → ℕ → Bool
name_rule s i =
    is_capital (byte_at s (entry_at i))
    && is_capital_or_digit (byte_at s (entry_at i + 1))
    && is_capital_or_digit (byte_at s (entry_at i + 2))
    && is_capital_or_digit (byte_at s (entry_at i + 3))

-- "kind byte 4 (1 master ..)"; "path count byte 5 (0 for a master ..)"; "key length K byte 12 (4, 8, 12 or 16 ..)"
unfoldable pub master_rule : List ℕ → ℕ → Bool
master_rule s i =
    eqb (kind_of s i) 1
    && eqb (count_of s i) 0
    && (eqb (key_length_of s i) 4 || eqb (key_length_of s i) 8 || eqb (key_length_of s i) 12 || eqb (key_length_of s i) 16)

-- "kind .. (.. 2 variable)"; "path count .. (.. 1..4 for a variable)"; "key length .. (.. 0 for a variable)"
unfoldable pub variable_rule : List ℕ → ℕ → Bool
variable_rule s i =
    eqb (kind_of s i) 2
    && (leb 1 (count_of s i) && leb (count_of s i) 4)
    && eqb (key_length_of s i) 0

-- "record count R 8..11, 1..65,535"
unfoldable pub records_rule : List ℕ → ℕ → Bool
records_rule s i = leb 1 (records_of s i) && leb (records_of s i) 65535

-- "letters xx (capitals or digits), master entry number (one byte, 0..M-1), five zeros"
unfoldable pub path_rule : List ℕ → ℕ → ℕ → Bool
path_rule s i j =
    is_capital_or_digit (byte_at s (slot_at i j))
    && is_capital_or_digit (byte_at s (slot_at i j + 1))
    && ltb (master_of s i j) (masters_of s)
    && all_zero (run s (slot_at i j + 3) 5)

-- "unused slots zero"
unfoldable pub slot_rule : List ℕ → ℕ → ℕ → Bool
slot_rule s i j = cond (is_path s i j) (path_rule s i j) (all_zero (run s (slot_at i j) 8))

-- a used entry: its name, what its kind asks ("masters first"), R, "13..15 zero", and its four slots
unfoldable pub set_rule : List ℕ → ℕ → Bool
set_rule s i =
    name_rule s i
    && cond (ltb i (masters_of s)) (master_rule s i) (variable_rule s i)
    && records_rule s i
    && all_zero (run s (entry_at i + 13) 3)
    && all_below (slot_rule s i) 4

-- "unused entries .. are zero"
unfoldable pub entry_rule : List ℕ → ℕ → Bool
entry_rule s i = cond (ltb i (sets_of s)) (set_rule s i) (all_zero (run s (entry_at i) 48))

-- ".. and the rest up to 507": the eight entries end at 400
unfoldable pub rest_rule : List ℕ → Bool
rest_rule s = all_zero (run s 400 108)

-- "name .. (.. all distinct)"
unfoldable pub names_rule : List ℕ → Bool
names_rule s = all_below (λ k. all_below (λ i. not (same_bytes (name_of s i) (name_of s k))) k) (sets_of s)

-- Slots in schema order, entry by entry: slot q is slot q % 4 of entry q / 4.
abbrev pub is_path_slot : List ℕ → ℕ → Bool
is_path_slot s q = is_path s (q / 4) (q % 4)

abbrev pub master_of_slot : List ℕ → ℕ → ℕ
master_of_slot s q = master_of s (q / 4) (q % 4)

abbrev pub letters_of_slot : List ℕ → ℕ → List ℕ
letters_of_slot s q = letters_of s (q / 4) (q % 4)

-- two paths of one set, or to one master, that share xx
unfoldable pub clash : List ℕ → ℕ → ℕ → Bool
clash s p q =
    is_path_slot s p
    && is_path_slot s q
    && (eqb (p / 4) (q / 4) || eqb (master_of_slot s p) (master_of_slot s q))
    && same_bytes (letters_of_slot s p) (letters_of_slot s q)

-- "No two paths of one variable set share xx; no two paths to one master do."
unfoldable pub letters_rule : List ℕ → Bool
letters_rule s = all_below (λ q. all_below (λ p. not (clash s p q)) q) (4 * sets_of s)

-- all of them
unfoldable pub form_rule : List ℕ → Bool
form_rule s =
    block_rule s
    && head_rule s
    && all_below (entry_rule s) 8
    && rest_rule s
    && names_rule s
    && letters_rule s
