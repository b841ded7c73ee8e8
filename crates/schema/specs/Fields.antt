-- Document 01, "Blocks and the schema": where the schema's 512 bytes say what. `s` is the schema buffer, `i` an entry's number,
-- `j` a slot's number within its entry. Reading only: which values are allowed is in Rules.
use Rattle.std.specs.Prelude.{ℕ, ◌+◌, ◌*◌, List, Bool, ltb}
use Rattle.octets.specs.Octets.{byte_at, half_at, word_at, run}

-- "Byte 0": the schema's edition, which chooses the check of every block
abbrev pub edition_of : List ℕ → ℕ
edition_of s = byte_at s 0

-- "byte 1 is M, master sets"; "byte 2 is V, variable sets"; how many sets there are
abbrev pub masters_of : List ℕ → ℕ
masters_of s = byte_at s 1

abbrev pub variables_of : List ℕ → ℕ
variables_of s = byte_at s 2

abbrev pub sets_of : List ℕ → ℕ
sets_of s = masters_of s + variables_of s

-- "Entries of 48 bytes start at 16": where entry i begins
abbrev pub entry_at : ℕ → ℕ
entry_at i = 16 + i * 48

-- "name 0..3"
abbrev pub name_of : List ℕ → ℕ → List ℕ
name_of s i = run s (entry_at i) 4

-- "kind byte 4"
abbrev pub kind_of : List ℕ → ℕ → ℕ
kind_of s i = byte_at s (entry_at i + 4)

-- "path count byte 5"
abbrev pub count_of : List ℕ → ℕ → ℕ
count_of s i = byte_at s (entry_at i + 5)

-- "data length D 6..7"
abbrev pub room_of : List ℕ → ℕ → ℕ
room_of s i = half_at s (entry_at i + 6)

-- "record count R 8..11"
abbrev pub records_of : List ℕ → ℕ → ℕ
records_of s i = word_at s (entry_at i + 8)

-- "key length K byte 12"
abbrev pub key_length_of : List ℕ → ℕ → ℕ
key_length_of s i = byte_at s (entry_at i + 12)

-- "four path slots of 8 bytes": where slot j of entry i begins
abbrev pub slot_at : ℕ → ℕ → ℕ
slot_at i j = entry_at i + 16 + j * 8

-- "letters xx"
abbrev pub letters_of : List ℕ → ℕ → ℕ → List ℕ
letters_of s i j = run s (slot_at i j) 2

-- "master entry number (one byte ..)"
abbrev pub master_of : List ℕ → ℕ → ℕ → ℕ
master_of s i j = byte_at s (slot_at i j + 2)

-- slot j of entry i holds a path: the first `path count` slots do
abbrev pub is_path : List ℕ → ℕ → ℕ → Bool
is_path s i j = ltb j (count_of s i)
