-- Document 01, "Blocks and the schema": how long records are, where their fields stand, where the sets lie, and T.
use Rattle.std.specs.Prelude.{ℕ, ◌+◌, ◌*◌, ◌-◌, ◌/◌, Bool, cond, ◌&&◌, List, eqb, leb, ltb}
use Rattle.octets.specs.Below.{all_below, sum_below, count_below}
use Rattle.schema.specs.Fields.{masters_of, sets_of, count_of, room_of, records_of, key_length_of, master_of}
use Rattle.schema.specs.Rules.{form_rule, is_path_slot, master_of_slot}

-- how many of the first q slots lead to master m: the number of a path among those to its master, "in schema order"
unfoldable pub links_before : List ℕ → ℕ → ℕ → ℕ
links_before s m q = count_below (λ p. is_path_slot s p && eqb (master_of_slot s p) m) q

-- how many paths lead to master m
abbrev pub links_to : List ℕ → ℕ → ℕ
links_to s m = links_before s m (4 * sets_of s)

-- the length of a key on path j of set i: its master's
abbrev pub path_key_length : List ℕ → ℕ → ℕ → ℕ
path_key_length s i j = key_length_of s (master_of s i j)

-- "Variable record: state, three zeros; per path key, prior, next; D bytes.": where path j's key stands
unfoldable pub key_place : List ℕ → ℕ → ℕ → ℕ
key_place s i j = 4 + sum_below (λ k. path_key_length s i k + 8) j

-- "Master record: state byte (1 live), three zeros; ROOT next, ROOT prior (4 each); key; per path to it, in schema order,
-- first and last (4 each); D bytes.": where first of the path in slot j of set i stands in its master's record
unfoldable pub link_place : List ℕ → ℕ → ℕ → ℕ
link_place s i j = 12 + path_key_length s i j + 8 * links_before s (master_of s i j) (4 * i + j)

-- where the D bytes stand in a record of set i
unfoldable pub body_place : List ℕ → ℕ → ℕ
body_place s i = cond (ltb i (masters_of s)) (12 + key_length_of s i + 8 * links_to s i) (key_place s i (count_of s i))

-- L, "the record length"
abbrev pub length_of : List ℕ → ℕ → ℕ
length_of s i = body_place s i + room_of s i

-- "floor(508/L) whole records to a block"
abbrev pub per_block : List ℕ → ℕ → ℕ
per_block s i = 508 / length_of s i

-- how many blocks R records take: R / per_block, rounded up
abbrev pub blocks_of : List ℕ → ℕ → ℕ
blocks_of s i = (records_of s i + (per_block s i - 1)) / per_block s i

-- "Sets lie in the data base in entry order, each from a fresh block"
unfoldable pub first_block : List ℕ → ℕ → ℕ
first_block s i = sum_below (blocks_of s) i

-- "All sets together take T blocks"
abbrev pub total_blocks : List ℕ → ℕ
total_blocks s = first_block s (sets_of s)

-- "L the record length, at most 508"; "T blocks, at most 4,096"
unfoldable pub size_rule : List ℕ → Bool
size_rule s = all_below (λ i. leb (length_of s i) 508) (sets_of s) && leb (total_blocks s) 4096

-- the schema breaks no rule
unfoldable pub keeps_rules : List ℕ → Bool
keeps_rules s = form_rule s && size_rule s
