-- What a plan must keep to for its stores to be made: its records are of the set, and its words lie in records that stand in front of the
-- checks of blocks that are there. The rooms that make plans prove it; `commit` asks for it.
use Rattle.std.specs.Prelude.{ℕ, ◌≤◌, ◌+◌, ◌≡◌, List, [], ◌∷◌, length}
use Rattle.schema.specs.declared.Entry.{Entry}
use Rattle.schema.specs.Place.{InSet}
use Rattle.records.specs.Areas.{area_length}
use Rattle.plans.specs.declared.Head.{Head}
use Rattle.plans.specs.declared.Head.TheVariants.{Nothing, Body, Master, Variable, Stranger, Synonym}
use Rattle.plans.specs.declared.Plan.{Plan}
use Rattle.plans.specs.declared.Word.{Word}
use Rattle.plans.specs.Stores.{words_of, word_stores}
use Rattle.blocks.specs.Blocks.{block_at, block_with, check_at}
use Rattle.plans.specs.Plan.{Store, store_block}

-- a store lies in front of the check of its block, and the block lies within n bytes
pub record Fits (n : ℕ) (x : Store) : Type 0 where
  pub inside : x.at + length x.bytes ≤ check_at (store_block x)
  pub whole : block_at (store_block x) + 512 ≤ n

abbrev pub AllFit : ℕ → List Store → Type 0
AllFit n [] = Unit {0}
AllFit n (x ∷ xs) = Fits n x × AllFit n xs

-- a word lies in its record, and the record in front of the check of its block
pub record WordOk (w : Word) : Type 0 where
  pub field : w.offset + 4 ≤ w.size
  pub inside : w.at + w.size ≤ check_at (block_with w.at)

abbrev pub WordsOk : List Word → Type 0
WordsOk [] = Unit {0}
WordsOk (w ∷ ws) = WordOk w × WordsOk ws

-- the records that the head speaks of: r and q are the plan's target and its other record
abbrev pub HeadOk : Head → Entry → ℕ → ℕ → Type 0
HeadOk Nothing e r q = Unit {0}
HeadOk Body e r q = InSet e r
HeadOk Master e r q = InSet e r × (e.kind ≡ 1)
HeadOk Variable e r q = InSet e r × (e.kind ≡ 2)
HeadOk Stranger e r q = InSet e r × InSet e q × (r ≡ q → ⊥) × (e.kind ≡ 1)
HeadOk Synonym e r q = InSet e r × InSet e q × (e.kind ≡ 1)

-- a head that takes bytes from the area takes them from one of the right length
abbrev pub AreaOk : Head → Entry → List ℕ → Type 0
AreaOk Nothing e area = Unit {0}
AreaOk Body e area = length area ≡ area_length e
AreaOk Master e area = length area ≡ area_length e
AreaOk Variable e area = length area ≡ area_length e
AreaOk Stranger e area = length area ≡ area_length e
AreaOk Synonym e area = Unit {0}

-- a plan for a base of n bytes
pub record PlanOk (n : ℕ) (e : Entry) (p : Plan) : Type 0 where
  pub few : p.count ≤ 8
  pub head : HeadOk p.head e p.target.0 p.other.0
  pub words : AllFit n (word_stores (words_of p))
  pub records : WordsOk (words_of p)
  pub wiped : p.wiped ≤ e.records
