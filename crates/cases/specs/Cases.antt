-- Cases a to j as one table. Each row asks the definitions a question and holds document 01's answer, both as numbers; one computed test
-- goes over the whole table, and one law, `case`, turns it into the equation of any row.
use Rattle.std.specs.Prelude.{ℕ, Bool, true, ◌&&◌, List, [], ◌∷◌, ◌++◌}
use Rattle.octets.specs.Octets.{word_bytes, same_bytes}
use Rattle.octets.specs.Text.{text}
use Rattle.terms.specs.Terms.{home_of}
use Rattle.terms.specs.Status.{status_number}
use Rattle.schema.specs.Layout.{length_of, total_blocks}
use Rattle.schema.specs.Decode.{entry_of, schema_of}
use Rattle.blocks.specs.declared.Check.TheVariants.{Sum}
use Rattle.plans.specs.Plan.{formatted}
use Rattle.scan.specs.Scan.{lowest_free}
use Rattle.masters.specs.Find.{find, record_found}
use Rattle.calls.specs.Call.{Call, Outcome}
use Rattle.calls.specs.Outcome.{outcome}
use Rattle.cases.specs.Small.{small_schema, bottle_call}

-- one call on a bottle
pub data CaseStep : Type 0 where
  add remove : List ℕ → CaseStep

pub data Question : Type 0 where
  -- L of the small store's two sets, and T
  sizes : Question
  -- the home of a key among R records
  home : ℕ → List ℕ → Question
  -- the status that the small store's schema, with R records in PNTS, gives a FORMT of a base of no bytes: 1 breaks a rule, 2 passes
  points : ℕ → Question
  -- after these calls on the small store, just formatted: the status of each call; then the records of B001, B006 and B005 (0: there is
  -- none); then the lowest-numbered free record
  after : List CaseStep → Question

pub record Case : Type 0 where
  pub question : Question
  pub answer : List ℕ

-- ---- asking

abbrev pub call_for : CaseStep → List ℕ → Call
call_for (add key) base = bottle_call (text "ADD-M") key (key ++ text "NECK") base
call_for (remove key) base = bottle_call (text "DEL-M") key [] base

-- where the bottle of a key stands
abbrev pub record_of_key : List ℕ → List ℕ → ℕ
record_of_key base key = record_found (find base (entry_of (schema_of (small_schema 6)) 0) key)

unfoldable pub places : List ℕ → List ℕ
places base =
    record_of_key base (text "B001")
    ∷ record_of_key base (text "B006")
    ∷ record_of_key base (text "B005")
    ∷ lowest_free base (entry_of (schema_of (small_schema 6)) 0)
    ∷ []

abbrev pub answer_of : Outcome → (List ℕ → List ℕ) → List ℕ
answer_of o more = status_number o.status ∷ more o.base

unfoldable pub play : List CaseStep → List ℕ → List ℕ
play [] base = places base
play (s ∷ steps) base = answer_of (outcome (call_for s base)) (play steps)

unfoldable pub ask : Question → List ℕ
ask sizes = length_of (small_schema 6) 0 ∷ length_of (small_schema 6) 1 ∷ total_blocks (small_schema 6) ∷ []
ask (home r key) = home_of r key ∷ []
ask (points r) = status_number (outcome (record { operation = text "FORMT"; name = []; reference = 0; path = []; key = []; area = []; schema = small_schema r; base = [] })).status ∷ []
ask (after steps) = play steps (formatted Sum 2)

-- ---- the table

abbrev pub five : List CaseStep
five = add (text "B001") ∷ add (text "B006") ∷ add (text "B005") ∷ add (text "B002") ∷ add (text "B003") ∷ []

unfoldable pub table : List Case
table =
    -- "L is 28 and 20; T is 2."
    record { question = sizes; answer = 28 ∷ 20 ∷ 2 ∷ [] }
    -- a) B001 2; b) B006 2; c) B005 1
    ∷ record { question = home 5 (text "B001"); answer = 2 ∷ [] }
    ∷ record { question = home 5 (text "B006"); answer = 2 ∷ [] }
    ∷ record { question = home 5 (text "B005"); answer = 1 ∷ [] }
    -- d) ADD-M B001 goes to 2
    ∷ record { question = after (add (text "B001") ∷ []); answer = 0 ∷ 2 ∷ 0 ∷ 0 ∷ 1 ∷ [] }
    -- e) then B006 to 1
    ∷ record { question = after (add (text "B001") ∷ add (text "B006") ∷ []); answer = 0 ∷ 0 ∷ 2 ∷ 1 ∷ 0 ∷ 3 ∷ [] }
    -- f) then B005 takes 1 and B006 moves to 3
    ∷ record {
      question = after (add (text "B001") ∷ add (text "B006") ∷ add (text "B005") ∷ []);
      answer = 0 ∷ 0 ∷ 0 ∷ 2 ∷ 3 ∷ 1 ∷ 4 ∷ [];
    }
    -- g) DEL-M B001 brings B006 to 2, 3 is free
    ∷ record {
      question = after (add (text "B001") ∷ add (text "B006") ∷ add (text "B005") ∷ remove (text "B001") ∷ []);
      answer = 0 ∷ 0 ∷ 0 ∷ 0 ∷ 0 ∷ 2 ∷ 1 ∷ 3 ∷ [];
    }
    -- h) an 8-byte key FFFFFFFF 00000002 has home 2 if R is 5
    ∷ record { question = home 5 (word_bytes 0xFFFFFFFF ++ word_bytes 2); answer = 2 ∷ [] }
    -- i) R 65,535 for PNTS passes, 65,536 is SCHM
    ∷ record { question = points 65535; answer = 2 ∷ [] }
    ∷ record { question = points 65536; answer = 1 ∷ [] }
    -- j) a sixth BOTL is FULL; a repeated key there is DUPM
    ∷ record {
      question = after (five ++ (add (text "B004") ∷ add (text "B003") ∷ []));
      answer = 0 ∷ 0 ∷ 0 ∷ 0 ∷ 0 ∷ 15 ∷ 13 ∷ 2 ∷ 5 ∷ 1 ∷ 6 ∷ [];
    }
    ∷ []

-- ---- the test over the whole table

unfoldable pub right : Case → Bool
right c = same_bytes (ask c.question) c.answer

unfoldable pub every_right : List Case → Bool
every_right [] = true
every_right (c ∷ cs) = right c && every_right cs
