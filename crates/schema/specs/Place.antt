-- Where the records of a set lie. These are the only definitions that turn a record number into a block number or a place.
use Rattle.std.specs.Prelude.{ℕ, ◌+◌, ◌*◌, ◌-◌, ◌/◌, ◌%◌, ◌≤◌, min, ◌≡◌, Bool, ◌&&◌, List, leb}
use Rattle.octets.specs.Octets.{run}
use Rattle.blocks.specs.Blocks.{block_at, block_with}
use Rattle.schema.specs.declared.Entry.{Entry}
use Rattle.schema.specs.declared.Part.{Part}
use Rattle.schema.specs.declared.Stretch.{Stretch}

-- "Records count from 1 in each set": r is the number of a record of set e
abbrev pub InSet : Entry → ℕ → Type 0
InSet e r = (1 ≤ r) × (r ≤ e.records)

abbrev pub in_set : Entry → ℕ → Bool
in_set e r = leb 1 r && leb r e.records

-- "Sets lie in the data base .. each from a fresh block, floor(508/L) whole records to a block": the block of record r
unfoldable pub block_of : Entry → ℕ → ℕ
block_of e r = e.first.0 + (r - 1) / e.per

-- where record r begins
unfoldable pub place_of : Entry → ℕ → ℕ
place_of e r = block_at (block_of e r) + (r - 1) % e.per * e.size

-- the bytes of record r: a part of the data base that starts in the middle of its block
abbrev pub record_of : List ℕ → Entry → ℕ → List ℕ
record_of b e r = run b (place_of e r) e.size

-- the same as a value: where the part begins and how long it is; and the bytes of a part
abbrev pub part_of : Entry → ℕ → Part
part_of e r = record { at = place_of e r; size = e.size }

abbrev pub bytes_of : List ℕ → Part → List ℕ
bytes_of b p = run b p.at p.size

-- the records from r on in r's block; those of the next block, where `passed` records are passed; and the bytes of such records
abbrev pub stretch_from : Entry → ℕ → Stretch
stretch_from e r = record { at = place_of e r; count = min (e.per - (r - 1) % e.per) (e.records - (r - 1)) }

abbrev pub next_stretch : Entry → Stretch → ℕ → Stretch
next_stretch e s passed = record { at = block_at (block_with s.at + 1); count = min e.per (e.records - passed) }

abbrev pub stretch_of : List ℕ → Entry → Stretch → List ℕ
stretch_of b e s = run b s.at (s.count * e.size)

-- how many blocks a set has, and how many records its k-th block holds
abbrev pub blocks_held : Entry → ℕ
blocks_held e = (e.records + (e.per - 1)) / e.per

abbrev pub records_held : Entry → ℕ → ℕ
records_held e k = min e.per (e.records - k * e.per)

-- the room of the set's k-th block behind its records and in front of its check
abbrev pub leftover_at : Entry → ℕ → ℕ
leftover_at e k = block_at (e.first.0 + k) + records_held e k * e.size

abbrev pub leftover_size : Entry → ℕ → ℕ
leftover_size e k = 508 - records_held e k * e.size

abbrev pub leftover_of : List ℕ → Entry → ℕ → List ℕ
leftover_of b e k = run b (leftover_at e k) (leftover_size e k)

-- What a function needs to know of a set to reach its records in a base of n bytes; Guarantee gives it for every set of a decoded schema
pub record LiesIn (e : Entry) (n : ℕ) : Type 0 where
  pub per : 1 ≤ e.per
  pub whole : e.per * e.size ≤ 508
  pub sized : e.size ≡ e.body + e.room
  pub many : e.records ≤ 65535
  pub inside : (e.first.0 + (e.records - 1) / e.per + 1) * 512 ≤ n
  pub small : n ≤ 2097152
