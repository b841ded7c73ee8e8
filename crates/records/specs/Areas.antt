-- Document 01, "Area: for a master, key then D bytes; for a variable, its keys in path order, then D bytes.", and the bytes of a
-- new record made of an area.
use Rattle.std.specs.Prelude.{ℕ, zero, suc, ◌+◌, ◌-◌, Bool, cond, List, [], ◌∷◌, ◌++◌, eqb, get_or}
use Rattle.octets.specs.Octets.{run, word_bytes, zeros}
use Rattle.octets.specs.Below.{sum_below}
use Rattle.schema.specs.declared.Path.{Path}
use Rattle.schema.specs.declared.Entry.{Entry}
use Rattle.schema.specs.Decode.{path_of, paths_of}
use Rattle.records.specs.declared.Link.{Link}
use Rattle.records.specs.Records.{body_of, master_key, key_on}

-- "kind byte 4 (1 master, 2 variable)"
abbrev pub is_master : Entry → Bool
is_master e = eqb e.kind 1

-- ---- an area

-- where path j's key stands in a variable set's area: behind the keys of the paths before it
unfoldable pub area_key_place : Entry → ℕ → ℕ
area_key_place e j = sum_below (λ k. (path_of e k).len) j

-- how many bytes of an area are keys, and how long the area is
abbrev pub area_keys : Entry → ℕ
area_keys e = cond (is_master e) e.key (area_key_place e e.count)

abbrev pub area_length : Entry → ℕ
area_length e = area_keys e + e.room

-- the key of an area: a master's, and a variable's on path j
abbrev pub area_master_key : Entry → List ℕ → List ℕ
area_master_key e area = run area 0 e.key

abbrev pub area_key_on : Entry → List ℕ → ℕ → List ℕ
area_key_on e area j = run area (area_key_place e j) (path_of e j).len

-- the D bytes of an area
abbrev pub area_body : Entry → List ℕ → List ℕ
area_body e area = run area (area_keys e) e.room

-- ---- a record read into an area

-- the keys of a variable record, one behind the other
unfoldable pub keys_on : List ℕ → Entry → ℕ → List Path → List ℕ
keys_on b e r [] = []
keys_on b e r (p ∷ ps) = key_on b e r p ++ keys_on b e r ps

unfoldable pub area_of : List ℕ → Entry → ℕ → List ℕ
area_of b e r = cond (is_master e) (master_key b e r) (keys_on b e r (paths_of e)) ++ body_of b e r

-- ---- a new record made of an area

-- "state byte (1 live), three zeros"
abbrev pub live_head : List ℕ
live_head = 1 ∷ 0 ∷ 0 ∷ 0 ∷ []

-- a master with its two ROOT words; it has no points yet, so every first and last is 0
unfoldable pub new_master : Entry → Link → List ℕ → List ℕ
new_master e root area =
    live_head ++ (word_bytes root.next ++ (word_bytes root.prior ++ (area_master_key e area ++ (zeros (e.body - (12 + e.key)) ++ area_body e area))))

-- the neighbours past the last path
abbrev pub no_link : Link
no_link = record { prior = 0; next = 0 }

-- "per path key, prior, next": the n paths from path j on, with their links
unfoldable pub new_paths : Entry → List Link → List ℕ → ℕ → ℕ → List ℕ
new_paths e links area zero j = []
new_paths e links area (suc n) j =
    area_key_on e area j ++ (word_bytes (get_or links j no_link).prior ++ (word_bytes (get_or links j no_link).next ++ new_paths e links area n (j + 1)))

-- a variable record with its links on each path
unfoldable pub new_variable : Entry → List Link → List ℕ → List ℕ
new_variable e links area = live_head ++ (new_paths e links area e.count 0 ++ area_body e area)
