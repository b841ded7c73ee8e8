-- What a storing call does, told by address instead of by place: a pointer set, a whole record put, the D bytes of a record filled. DeedLaws
-- has what the commit of a list of deeds leaves at each address; above it nothing looks at places.
use Rattle.std.specs.Prelude.{ℕ, ◌<◌, ◌≡◌, ◌≢◌, List, [], ◌∷◌}
use Rattle.octets.specs.Octets.{word_bytes, run, zeros}
use Rattle.schema.specs.declared.Schema.{Schema}
use Rattle.schema.specs.Decode.{entry_of}
use Rattle.records.specs.Address.{Address, IsAddress, address_at, body, address, WordField, Fills}
use Rattle.records.specs.WholeRecords.{IsWhole, Elsewhere}
use Rattle.blocks.specs.Blocks.{check_by}
use Rattle.plans.specs.Plan.{Store, store_run, store_record, committed}

pub data Deed : Type 0 where
  -- the word at the address becomes v
  point : Address → ℕ → Deed
  -- record r of set n becomes these bytes; its D bytes become these
  whole fill : ℕ → ℕ → List ℕ → Deed

-- the store that a deed is
abbrev pub store_of : Schema → Deed → Store
store_of t (point a v) = record { at = address_at t a; bytes = word_bytes v }
store_of t (whole n r ys) = store_record (entry_of t n) r ys
store_of t (fill n r ys) = store_run (entry_of t n) r (entry_of t n).body ys

abbrev pub stores_for : Schema → List Deed → List Store
stores_for t [] = []
stores_for t (d ∷ ds) = store_of t d ∷ stores_for t ds

-- the data base after the deeds, checks set
abbrev pub after : Schema → List ℕ → List Deed → List ℕ
after t b ds = committed (check_by t.edition) b (stores_for t ds)

-- a deed at an address of the schema, of the address's length
abbrev pub Valid : Schema → Deed → Type 0
Valid t (point a v) = WordField t a × (v < 4294967296)
Valid t (whole n r ys) = IsWhole t n r ys
Valid t (fill n r ys) = IsAddress t (address n r body) × Fills t (address n r body) ys

abbrev pub AllValid : Schema → List Deed → Type 0
AllValid t [] = Unit {0}
AllValid t (d ∷ ds) = Valid t d × AllValid t ds

-- the deeds leave the address as it was
abbrev pub Miss : Address → Deed → Type 0
Miss a (point c v) = a ≢ c
Miss a (whole n r ys) = Elsewhere a.set a.at n r
Miss a (fill n r ys) = a ≢ address n r body

abbrev pub Misses : Address → List Deed → Type 0
Misses a [] = Unit {0}
Misses a (d ∷ ds) = Miss a d × Misses a ds

-- the deeds do not put record r of set n whole: they leave its state and its filler
abbrev pub Spared : ℕ → ℕ → Deed → Type 0
Spared n r (point a v) = Unit {0}
Spared n r (whole m q ys) = Elsewhere n r m q
Spared n r (fill m q ys) = Unit {0}

abbrev pub AllSpared : ℕ → ℕ → List Deed → Type 0
AllSpared n r [] = Unit {0}
AllSpared n r (d ∷ ds) = Spared n r d × AllSpared n r ds

-- the deeds do not go into record r of set n at all
abbrev pub Off : ℕ → ℕ → Deed → Type 0
Off n r (point a v) = Elsewhere n r a.set a.at
Off n r (whole m q ys) = Elsewhere n r m q
Off n r (fill m q ys) = Elsewhere n r m q

abbrev pub AllOff : ℕ → ℕ → List Deed → Type 0
AllOff n r [] = Unit {0}
AllOff n r (d ∷ ds) = Off n r d × AllOff n r ds

-- whole records that are put have the three zeros behind the state
abbrev pub Zeroed : Deed → Type 0
Zeroed (point a v) = Unit {0}
Zeroed (whole n r ys) = run ys 1 3 ≡ zeros 3
Zeroed (fill n r ys) = Unit {0}

abbrev pub AllZeroed : List Deed → Type 0
AllZeroed [] = Unit {0}
AllZeroed (d ∷ ds) = Zeroed d × AllZeroed ds
