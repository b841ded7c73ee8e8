-- A whole record stored at once: a new one, one that moves, one that is wiped. WholeLaws has what stands in the data base afterwards.
use Rattle.std.specs.Prelude.{ℕ, ◌<◌, ◌≡◌, List, length}
use Rattle.octets.specs.Octets.{splice}
use Rattle.schema.specs.declared.Schema.{Schema}
use Rattle.schema.specs.Decode.{entry_of, set_count}
use Rattle.schema.specs.Place.{InSet, place_of}

-- the data base with the bytes ys in place of record r of set n
abbrev pub put_record : Schema → List ℕ → ℕ → ℕ → List ℕ → List ℕ
put_record t b n r ys = splice b (place_of (entry_of t n) r) ys

-- ys is as long as the record
abbrev pub IsWhole : Schema → ℕ → ℕ → List ℕ → Type 0
IsWhole t n r ys = (n < set_count t) × InSet (entry_of t n) r × (length ys ≡ (entry_of t n).size)

-- record q of set k is not record r of set n
abbrev pub Elsewhere : ℕ → ℕ → ℕ → ℕ → Type 0
Elsewhere k q n r = (k ≡ n) × (q ≡ r) → ⊥
