-- An address is a set, a record and a field. Everything above this room reasons about addresses and forgets offsets: FieldLaws has the
-- laws of reading and storing by address.
use Rattle.std.specs.Prelude.{ℕ, ◌+◌, ◌<◌, ◌≡◌, List, length}
use Rattle.octets.specs.Octets.{run, word_at, set_word, splice}
use Rattle.schema.specs.declared.Entry.{Entry}
use Rattle.schema.specs.declared.Schema.{Schema}
use Rattle.schema.specs.Decode.{entry_of, path_of, set_count}
use Rattle.schema.specs.Place.{InSet, place_of}
use Rattle.schema.specs.Guarantee.{IsPathOf}

-- The fields of a record. Of a variable record, `key`, `prior` and `next` are on its path j; of a master, `first` and `last` are those of
-- path j of the variable set i.
pub data Field : Type 0 where
  state root-next root-prior own_key body : Field
  key prior next : ℕ → Field
  first last : ℕ → ℕ → Field

pub record Address : Type 0 where
  pub set : ℕ
  pub at : ℕ
  pub field : Field

-- by its three parts
abbrev pub address : ℕ → ℕ → Field → Address
address n r f = record { set = n; at = r; field = f }

-- where a field stands in a record of set e, and how long it is
abbrev pub offset_of : Schema → Entry → Field → ℕ
offset_of t e state = 0
offset_of t e root-next = 4
offset_of t e root-prior = 8
offset_of t e own_key = 12
offset_of t e body = e.body
offset_of t e (key j) = (path_of e j).at
offset_of t e (prior j) = (path_of e j).at + (path_of e j).len
offset_of t e (next j) = (path_of e j).at + (path_of e j).len + 4
offset_of t e (first i j) = (path_of (entry_of t i) j).link
offset_of t e (last i j) = (path_of (entry_of t i) j).link + 4

abbrev pub size_of : Schema → Entry → Field → ℕ
size_of t e state = 1
size_of t e root-next = 4
size_of t e root-prior = 4
size_of t e own_key = e.key
size_of t e body = e.room
size_of t e (key j) = (path_of e j).len
size_of t e (prior j) = 4
size_of t e (next j) = 4
size_of t e (first i j) = 4
size_of t e (last i j) = 4

-- a field that records of set n have
abbrev pub HasField : Schema → ℕ → Field → Type 0
HasField t n state = n < set_count t
HasField t n root-next = n < t.masters
HasField t n root-prior = n < t.masters
HasField t n own_key = n < t.masters
HasField t n body = n < set_count t
HasField t n (key j) = IsPathOf t n j
HasField t n (prior j) = IsPathOf t n j
HasField t n (next j) = IsPathOf t n j
HasField t n (first i j) = IsPathOf t i j × ((path_of (entry_of t i) j).master.0 ≡ n)
HasField t n (last i j) = IsPathOf t i j × ((path_of (entry_of t i) j).master.0 ≡ n)

-- an address of a schema: a record of a set, and a field that the set's records have
abbrev pub IsAddress : Schema → Address → Type 0
IsAddress t a = (a.set < set_count t) × InSet (entry_of t a.set) a.at × HasField t a.set a.field

-- where an address lies in the data base, and how many bytes it has
abbrev pub address_at : Schema → Address → ℕ
address_at t a = place_of (entry_of t a.set) a.at + offset_of t (entry_of t a.set) a.field

abbrev pub address_size : Schema → Address → ℕ
address_size t a = size_of t (entry_of t a.set) a.field

-- an address of a word: a pointer's
abbrev pub WordField : Schema → Address → Type 0
WordField t a = IsAddress t a × (address_size t a ≡ 4)

-- the run fills the address
abbrev pub Fills : Schema → Address → List ℕ → Type 0
Fills t a ys = length ys ≡ address_size t a

-- what stands at an address, as bytes and as a word, and the data base with other bytes or another word there
abbrev pub get_run : Schema → List ℕ → Address → List ℕ
get_run t b a = run b (address_at t a) (address_size t a)

abbrev pub get_word : Schema → List ℕ → Address → ℕ
get_word t b a = word_at b (address_at t a)

abbrev pub put_run : Schema → List ℕ → Address → List ℕ → List ℕ
put_run t b a ys = splice b (address_at t a) ys

abbrev pub put_word : Schema → List ℕ → Address → ℕ → List ℕ
put_word t b a v = set_word b (address_at t a) v
