-- The stores that a plan stands for, in document 01's order: "moved record, then new record; then path by path (ROOT as one path) prior's
-- side, next's side; then wiping". `b` is the data base as it came, `e` the call's set, `area` its area.
use Rattle.std.specs.Prelude.{ℕ, ◌+◌, cond, List, [], ◌∷◌, ◌++◌, eqb, take, get_or}
use Rattle.octets.specs.Octets.{word_bytes, set_word}
use Rattle.schema.specs.declared.Entry.{Entry}
use Rattle.schema.specs.declared.Part.{Part}
use Rattle.schema.specs.Place.{record_of}
use Rattle.records.specs.declared.Link.{Link}
use Rattle.records.specs.Areas.{area_body, no_link, new_master, new_variable}
use Rattle.plans.specs.declared.Word.{Word}
use Rattle.plans.specs.declared.Head.{Head}
use Rattle.plans.specs.declared.Head.TheVariants.{Nothing, Body, Master, Variable, Stranger, Synonym}
use Rattle.plans.specs.declared.Plan.{Plan}
use Rattle.plans.specs.Plan.{Store, store_run, store_record, wipe_record}

-- the words of a plan
abbrev pub words_of : Plan → List Word
words_of p = take p.count p.words

-- the word at `o` of the record that is the part p becomes v
abbrev pub word_in : Part → ℕ → ℕ → Word
word_in p o v = record { at = p.at; size = p.size; offset = o; value = v }

abbrev pub word_store : Word → Store
word_store w = record { at = w.at + w.offset; bytes = word_bytes w.value }

unfoldable pub word_stores : List Word → List Store
word_stores [] = []
word_stores (w ∷ ws) = word_store w ∷ word_stores ws

-- what goes first: r and q are the plan's target and its other record
abbrev pub head_stores : Head → List ℕ → Entry → List ℕ → ℕ → ℕ → List Link → List Store
head_stores Nothing b e area r q links = []
head_stores Body b e area r q links = store_run e r e.body (area_body e area) ∷ []
head_stores Master b e area r q links = store_record e r (new_master e (get_or links 0 no_link) area) ∷ []
head_stores Variable b e area r q links = store_record e r (new_variable e links area) ∷ []
head_stores Stranger b e area r q links = store_record e q (record_of b e r) ∷ store_record e r (new_master e (get_or links 0 no_link) area) ∷ []
head_stores Synonym b e area r q links = store_record e r (set_word (record_of b e q) 8 0) ∷ []

abbrev pub wiped_stores : Entry → ℕ → List Store
wiped_stores e r = cond (eqb r 0) [] (wipe_record e r ∷ [])

unfoldable pub plan_stores : List ℕ → Entry → List ℕ → Plan → List Store
plan_stores b e area p =
    head_stores p.head b e area p.target.0 p.other.0 p.links ++ (word_stores (words_of p) ++ wiped_stores e p.wiped)
