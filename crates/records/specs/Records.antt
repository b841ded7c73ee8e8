-- Document 01, "Blocks and the schema": what a record's fields hold. `b` is the data base, `e` the record's set, `r` its number,
-- `p` a path. Pointers are plain numbers: "Pointer 0 is none."
use Rattle.std.specs.Prelude.{ℕ, ◌+◌, Bool, List, eqb}
use Rattle.octets.specs.Octets.{byte_at, word_at, run}
use Rattle.schema.specs.declared.Path.{Path}
use Rattle.schema.specs.declared.Entry.{Entry}
use Rattle.schema.specs.Place.{place_of}

-- ---- both kinds: state, three zeros, .., D bytes

abbrev pub state_of : List ℕ → Entry → ℕ → ℕ
state_of b e r = byte_at b (place_of e r)

-- "Only state 1 counts as live; anything else is free."
abbrev pub is_live : List ℕ → Entry → ℕ → Bool
is_live b e r = eqb (state_of b e r) 1

-- the D bytes
abbrev pub body_of : List ℕ → Entry → ℕ → List ℕ
body_of b e r = run b (place_of e r + e.body) e.room

-- ---- a master: "ROOT next, ROOT prior (4 each); key; per path to it, in schema order, first and last (4 each)"

abbrev pub root_next : List ℕ → Entry → ℕ → ℕ
root_next b e r = word_at b (place_of e r + 4)

abbrev pub root_prior : List ℕ → Entry → ℕ → ℕ
root_prior b e r = word_at b (place_of e r + 8)

abbrev pub master_key : List ℕ → Entry → ℕ → List ℕ
master_key b e r = run b (place_of e r + 12) e.key

-- first and last of the path p, in the record r of p's master e
abbrev pub first_on : List ℕ → Entry → ℕ → Path → ℕ
first_on b e r p = word_at b (place_of e r + p.link)

abbrev pub last_on : List ℕ → Entry → ℕ → Path → ℕ
last_on b e r p = word_at b (place_of e r + (p.link + 4))

-- ---- a variable record: "per path key, prior, next"

abbrev pub key_on : List ℕ → Entry → ℕ → Path → List ℕ
key_on b e r p = run b (place_of e r + p.at) p.len

abbrev pub prior_on : List ℕ → Entry → ℕ → Path → ℕ
prior_on b e r p = word_at b (place_of e r + (p.at + p.len))

abbrev pub next_on : List ℕ → Entry → ℕ → Path → ℕ
next_on b e r p = word_at b (place_of e r + (p.at + p.len + 4))
