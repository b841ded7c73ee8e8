-- Condition 3, third page: the statement.
-- In words: from a base just formatted, or one that sign-on accepts, after every sequence of calls under one schema, each path of each master
-- reads forward as one finite list and backward as its reverse, a sweep finds the same records once each, the list is what a plain list per bottle
-- would hold, and no call says DAMG.
use Rattle.std.specs.Prelude.{ℕ, ◌*◌, ◌≡◌, ◌⊎◌, true, List, [], reverse, length}
use Rattle.octets.specs.Text.{text}
use Rattle.terms.specs.declared.Status.TheVariants.{Done}
use Rattle.schema.specs.declared.Schema.{Schema}
use Rattle.schema.specs.Layout.{keeps_rules}
use Rattle.calls.specs.Call.{Call, Outcome}
use Rattle.condition3.specs.Plain.{Point, Lists}
use Rattle.condition3.specs.Readings.{Request, request_of, Fixed, schema_in, Lent, lent_after, under, after_calls, plain, NoDamage, Reader, reader_of, Reads, Place, set_no, entry_named, path_no, link, IsPlace, no_set_name, no_path_name, rdnxt, Exists, readv, readr, of_key, SameOnce}

-- ---- where a sequence starts

abbrev pub sinon : Request
sinon = request_of (text "SINON") no_set_name 0 no_path_name [] []

abbrev pub formt : Request
formt = request_of (text "FORMT") no_set_name 0 no_path_name [] []

-- SINON answers ****
abbrev pub SignsOn : Reader → Type 0
SignsOn ask = (ask sinon).status ≡ Done

-- d is what a FORMT that answered **** left, whatever it was lent
abbrev pub Formatted : (Call → Outcome) → Fixed → Lent → Type 0
Formatted answer f d = (was : Lent) × ((answer (under f was formt)).status ≡ Done) × (d ≡ lent_after (answer (under f was formt)))

abbrev pub Start : (Call → Outcome) → Fixed → Lent → Type 0
Start answer f d = SignsOn (reader_of answer f d) ⊎ Formatted answer f d

-- the schema keeps the rules, and the data base is of the right length
pub record Formattable (f : Fixed) (d : Lent) : Type 0 where
  pub rules : keeps_rules f.schema ≡ true
  pub sized : length d.base ≡ 512 * (schema_in f).blocks

-- the plain lists that a sequence starts with: the forward readings, and nothing where there is no master
pub record StartLists (t : Schema) (ask : Reader) (l : Lists) : Type 0 where
  pub read : (w : Place) (key : List ℕ) → IsPlace t w → Exists ask w key → Reads (readv ask w key) (link t w) (l (set_no t w) (path_no t w) key)
  pub none : (w : Place) (key : List ℕ) → IsPlace t w → (Exists ask w key → ⊥) → l (set_no t w) (path_no t w) key ≡ []

-- ---- what holds at the end, of one path and one key: xs is the plain list

pub record Kept (t : Schema) (ask : Reader) (w : Place) (key : List ℕ) (xs : List Point) : Type 0 where
  -- where the master exists, the chain reads forward as the plain list and backward as its reverse
  pub forward : Exists ask w key → Reads (readv ask w key) (link t w) xs
  pub backward : Exists ask w key → Reads (readr ask w key) (link t w) (reverse xs)
  -- a sweep of the set comes to its end, and what it finds with that key are the points of the plain list, each once
  pub sweep : (zs : List Point) × Reads (rdnxt ask w) 0 zs × SameOnce (of_key (entry_named t w) (path_no t w) key zs) xs
  -- and, the plain list aside: where the chain reads forward as ys, the sweep's points of that key are ys, each once
  pub same : Exists ask w key → (ys zs : List Point) → Reads (readv ask w key) (link t w) ys → Reads (rdnxt ask w) 0 zs
      → SameOnce (of_key (entry_named t w) (path_no t w) key zs) ys
  -- where it does not exist there is nothing
  pub none : (Exists ask w key → ⊥) → xs ≡ []

-- ---- the condition

pub record Condition3 (answer : Call → Outcome) : Type 0 where
  -- there is a start: under every schema that keeps the rules, on every buffer of the right length, FORMT is done
  pub begins : (f : Fixed) (d : Lent) → Formattable f d → (answer (under f d formt)).status ≡ Done
  -- there are plain lists to start with; after FORMT they are empty
  pub starts : (f : Fixed) (d : Lent) → Start answer f d → (l : Lists) × StartLists (schema_in f) (reader_of answer f d) l
  pub empty : (f : Fixed) (d : Lent) → Formatted answer f d → StartLists (schema_in f) (reader_of answer f d) (λ i j key. [])
  -- after every sequence of calls
  pub quiet : (f : Fixed) (d : Lent) (qs : List Request) → Start answer f d → NoDamage answer f d qs
  pub accepted : (f : Fixed) (d : Lent) (qs : List Request) → Start answer f d → SignsOn (reader_of answer f (after_calls answer f d qs))
  pub kept : (f : Fixed) (d : Lent) (qs : List Request) (l : Lists) → Start answer f d → StartLists (schema_in f) (reader_of answer f d) l
      → (w : Place) (key : List ℕ) → IsPlace (schema_in f) w
      → Kept (schema_in f) (reader_of answer f (after_calls answer f d qs)) w key (plain answer f d qs l (set_no (schema_in f) w) (path_no (schema_in f) w) key)
