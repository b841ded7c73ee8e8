-- Condition 3, second page: sequences of calls, and readings made by the calls. `answer` is a store: what it answers to a call. The theorem
-- is about `outcome`; wrong stores are tried in the same words.
use Rattle.std.specs.Prelude.{ℕ, ◌<◌, ◌≡◌, ◌≢◌, ◌⊎◌, cond, List, [], ◌∷◌, length}
use Rattle.octets.specs.Octets.{same_bytes}
use Rattle.octets.specs.Text.{text}
use Rattle.terms.specs.Terms.{end_ref}
use Rattle.terms.specs.declared.Status.TheVariants.{Done, Damg}
use Rattle.schema.specs.declared.Schema.{Schema}
use Rattle.schema.specs.declared.Entry.{Entry}
use Rattle.schema.specs.Decode.{entry_of, path_of, set_count, schema_of}
use Rattle.records.specs.Areas.{area_length, area_key_on}
use Rattle.calls.specs.Call.{Call, Outcome, call_of}
use Rattle.schema.specs.Naming.{set_named, path_named, link_of}
use Rattle.condition3.specs.Plain.{Point, Lists, step}

-- a call but for what is fixed and what is lent: the sequences of condition 3 are made of these
pub record Request : Type 0 where
  pub operation : List ℕ
  pub name : List ℕ
  pub reference : ℕ
  pub path : List ℕ
  pub key : List ℕ
  pub area : List ℕ

-- the one of these parts, in document 01's order
abbrev pub request_of : List ℕ → List ℕ → ℕ → List ℕ → List ℕ → List ℕ → Request
request_of operation name reference path key area =
    record { operation = operation; name = name; reference = reference; path = path; key = key; area = area }

-- what every call of a sequence has alike: the schema
pub record Fixed : Type 0 where
  pub schema : List ℕ

abbrev pub schema_in : Fixed → Schema
schema_in f = schema_of f.schema

-- what a call is lent and may change; what one leaves is lent to the next
pub record Lent : Type 0 where
  pub base : List ℕ

abbrev pub lent_after : Outcome → Lent
lent_after o = record { base = o.base }

abbrev pub none_lent : Lent
none_lent = record { base = [] }

abbrev pub under : Fixed → Lent → Request → Call
under f d q = call_of q.operation q.name q.reference q.path q.key q.area f.schema d.base

-- ---- a sequence of calls under f, of which the first is lent d

-- what is lent at the end
unfoldable pub after_calls : (Call → Outcome) → Fixed → Lent → List Request → Lent
after_calls answer f d [] = d
after_calls answer f d (q ∷ qs) = after_calls answer f (lent_after (answer (under f d q))) qs

-- the plain lists at the end; the step of a call is not shown what is lent
unfoldable pub plain : (Call → Outcome) → Fixed → Lent → List Request → Lists → Lists
plain answer f d [] l = l
plain answer f d (q ∷ qs) l =
    plain answer f (lent_after (answer (under f d q))) qs
    (step (under f none_lent q) (answer (under f d q)).status (answer (under f d q)).reference l)

-- no call of it says DAMG
abbrev pub NoDamage : (Call → Outcome) → Fixed → Lent → List Request → Type 0
NoDamage answer f d [] = Unit {0}
NoDamage answer f d (q ∷ qs) = ((answer (under f d q)).status ≢ Damg) × NoDamage answer f (lent_after (answer (under f d q))) qs

-- ---- readings

-- who reads: the answer to each request. What is lent is the same for all of them
abbrev pub Reader : Type 0
Reader = Request → Outcome

-- who reads by the calls of a store
abbrev pub reader_of : (Call → Outcome) → Fixed → Lent → Reader
reader_of answer f d q = answer (under f d q)

-- The calls that `ask` makes, the first with the reference r, each later one with the reference that the call before it returned, give these
-- points one after the other, and then END. All of them are lent the same: that reads leave it as it was is said by the sequences, in which
-- reads are calls like any other.
abbrev pub Reads : (ℕ → Outcome) → ℕ → List Point → Type 0
Reads ask r [] = ((ask r).status ≡ Done) × ((ask r).reference ≡ end_ref)
Reads ask r (x ∷ xs) =
    ((ask r).status ≡ Done) × ((ask r).reference ≡ x.number) × ((ask r).area ≡ x.area) × (x.number ≢ end_ref) × Reads ask x.number xs

-- Where a reading looks: a variable set and a path of it by their names, the set of the path's masters by its name, and the areas that are
-- lent to the reads.
pub record Place : Type 0 where
  pub set : List ℕ
  pub path : List ℕ
  pub masters : List ℕ
  pub point-area : List ℕ
  pub master-area : List ℕ

module _ (t : Schema) (w : Place) where
  abbrev pub set_no : ℕ
  set_no = set_named t w.set

  abbrev pub entry_named : Entry
  entry_named = entry_of t set_no

  abbrev pub path_no : ℕ
  path_no = path_named t entry_named w.path

  -- LKxx of the path
  abbrev pub link : ℕ
  link = link_of (path_of entry_named path_no)

-- the schema has the set and the path, `masters` names the path's masters, and the areas are of the right length
pub record IsPlace (t : Schema) (w : Place) : Type 0 where
  pub set : set_no t w < set_count t
  pub path : path_no t w < (entry_named t w).count
  pub masters : set_named t w.masters ≡ (path_of (entry_named t w) (path_no t w)).master.0
  pub point-area : length w.point-area ≡ area_length (entry_named t w)
  pub master-area : length w.master-area ≡ area_length (entry_of t (set_named t w.masters))

-- the names of a set and of a path that a call does not need: blanks
abbrev pub no_set_name : List ℕ
no_set_name = text "    "

abbrev pub no_path_name : List ℕ
no_path_name = text "        "

-- READM of a place's masters
abbrev pub readm : Place → List ℕ → Request
readm w key = request_of (text "READM") w.masters 0 no_path_name key w.master-area

module _ (ask : Reader) (w : Place) where
  abbrev pub rdnxt : ℕ → Outcome
  rdnxt r = ask (request_of (text "RDNXT") w.set r no_path_name [] w.point-area)

  module _ (key : List ℕ) where
    -- the master exists: READM answers ****
    abbrev pub Exists : Type 0
    Exists = (ask (readm w key)).status ≡ Done

    abbrev pub readv : ℕ → Outcome
    readv r = ask (request_of (text "READV") w.set r w.path key w.point-area)

    abbrev pub readr : ℕ → Outcome
    readr r = ask (request_of (text "READR") w.set r w.path key w.point-area)

-- the points with this key on path j
unfoldable pub of_key : Entry → ℕ → List ℕ → List Point → List Point
of_key e j key [] = []
of_key e j key (x ∷ xs) = cond (same_bytes (area_key_on e x.area j) key) (x ∷ of_key e j key xs) (of_key e j key xs)

-- ---- the same points, each once

abbrev pub Among : Point → List Point → Type 0
Among x [] = ⊥
Among x (y ∷ ys) = (x ≡ y) ⊎ Among x ys

abbrev pub NotNumbered : ℕ → List Point → Type 0
NotNumbered n [] = Unit {0}
NotNumbered n (y ∷ ys) = (n ≢ y.number) × NotNumbered n ys

abbrev pub Once : List Point → Type 0
Once [] = Unit {0}
Once (x ∷ xs) = NotNumbered x.number xs × Once xs

pub record SameOnce (xs ys : List Point) : Type 0 where
  pub there : (x : Point) → Among x xs → Among x ys
  pub back : (x : Point) → Among x ys → Among x xs
  pub once : Once xs × Once ys
