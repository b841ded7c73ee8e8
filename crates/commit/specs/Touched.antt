-- The blocks that a plan's stores go into, each once: "a block to be stored into has a false check" is asked of a block once, and "the
-- checks of the blocks stored into" are set once, however many stores fall into one block.
use Rattle.std.specs.Prelude.{ℕ, ◌+◌, ◌≡◌, Bool, true, cond, not, ◌&&◌, List, [], ◌∷◌, ◌++◌, eqb, leb, take}
use Rattle.octets.specs.Octets.{every}
use Rattle.terms.specs.declared.BlockNo.{BlockNo}
use Rattle.blocks.specs.declared.Check.{Check}
use Rattle.blocks.specs.Blocks.{block_at, block_with, is_sealed, seal}
use Rattle.schema.specs.declared.Entry.{Entry}
use Rattle.schema.specs.Place.{block_of}
use Rattle.plans.specs.declared.Word.{Word}
use Rattle.plans.specs.declared.Head.{Head}
use Rattle.plans.specs.declared.Head.TheVariants.{Nothing, Body, Master, Variable, Stranger, Synonym}
use Rattle.plans.specs.declared.Plan.{Plan}
use Rattle.plans.specs.Plan.{Store, store_block}
use Rattle.plans.specs.Stores.{words_of}
use Rattle.commit.specs.declared.Blocks.{Blocks}

-- ---- numbers, each once

-- m is another number than n; all of them are, so that n is new to them
abbrev pub is_other : ℕ → ℕ → Bool
is_other n m = not (eqb m n)

abbrev pub is_new : ℕ → List ℕ → Bool
is_new n ns = every (is_other n) ns

-- n behind the others, unless it is one of them
abbrev pub add_new : List ℕ → ℕ → List ℕ
add_new ns n = cond (is_new n ns) (ns ++ (n ∷ [])) ns

unfoldable pub add_all : List ℕ → List ℕ → List ℕ
add_all ks [] = ks
add_all ks (n ∷ ns) = add_all (add_new ks n) ns

-- in the order of first occurrence
abbrev pub distinct : List ℕ → List ℕ
distinct ns = add_all [] ns

-- none stands there twice
unfoldable pub once : List ℕ → Bool
once [] = true
once (n ∷ ns) = is_new n ns && once ns

-- ---- blocks

-- block numbers as numbers, and those that a `Blocks` holds
unfoldable pub bare_numbers : List BlockNo → List ℕ
bare_numbers [] = []
bare_numbers (n ∷ ns) = n.0 ∷ bare_numbers ns

abbrev pub numbers_of : Blocks → List ℕ
numbers_of s = take s.count (bare_numbers s.numbers)

-- what is read past a `Blocks`' numbers
abbrev pub no_block : BlockNo
no_block = record { 0 = 0 }

-- the block lies within n bytes; every block does
abbrev pub block_within : ℕ → ℕ → Bool
block_within n k = leb (block_at k + 512) n

abbrev pub AllWithin : ℕ → List ℕ → Type 0
AllWithin n ks = every (block_within n) ks ≡ true

-- every check, of the kind k, is true
abbrev pub all_sealed : Check → List ℕ → List ℕ → Bool
all_sealed k b ns = every (is_sealed k b) ns

-- every check is set anew, one after the other
unfoldable pub seal_each : Check → List ℕ → List ℕ → List ℕ
seal_each k b [] = b
seal_each k b (n ∷ ns) = seal_each k (seal k b n) ns

-- ---- of stores, and of a plan

unfoldable pub store_blocks : List Store → List ℕ
store_blocks [] = []
store_blocks (x ∷ xs) = store_block x ∷ store_blocks xs

-- what is read past a plan's words
abbrev pub no_word : Word
no_word = record { at = 0; size = 0; offset = 0; value = 0 }

unfoldable pub word_blocks : List Word → List ℕ
word_blocks [] = []
word_blocks (w ∷ ws) = block_with w.at ∷ word_blocks ws

-- r and q are the plan's target and its other record
abbrev pub head_blocks : Head → Entry → ℕ → ℕ → List ℕ
head_blocks Nothing e r q = []
head_blocks Body e r q = block_of e r ∷ []
head_blocks Master e r q = block_of e r ∷ []
head_blocks Variable e r q = block_of e r ∷ []
head_blocks Stranger e r q = block_of e q ∷ block_of e r ∷ []
head_blocks Synonym e r q = block_of e r ∷ []

abbrev pub wiped_blocks : Entry → ℕ → List ℕ
wiped_blocks e r = cond (eqb r 0) [] (block_of e r ∷ [])

unfoldable pub plan_blocks : Entry → Plan → List ℕ
plan_blocks e p = head_blocks p.head e p.target.0 p.other.0 ++ (word_blocks (words_of p) ++ wiped_blocks e p.wiped)
