-- Document 01, "Chains": "All reading and testing precedes storing." What a call stores is a list of runs of bytes, computed from the
-- data base as it came; a store goes into one record, so into one block. `k` is the kind of check.
use Rattle.std.specs.Prelude.{ℕ, zero, suc, ◌+◌, ◌*◌, Bool, true, ◌&&◌, List, [], ◌∷◌}
use Rattle.octets.specs.Octets.{splice, word_bytes, zeros}
use Rattle.blocks.specs.declared.Check.{Check}
use Rattle.blocks.specs.Blocks.{block_with, is_sealed, seal}
use Rattle.schema.specs.declared.Entry.{Entry}
use Rattle.schema.specs.Place.{place_of}

-- bytes, and where they go
pub record Store : Type 0 where
  pub at : ℕ
  pub bytes : List ℕ

-- a run stored `o` bytes into record r of set e, a word stored there, a whole record, and a wiped one ("A wiped record is all zero.")
abbrev pub store_run : Entry → ℕ → ℕ → List ℕ → Store
store_run e r o ys = record { at = place_of e r + o; bytes = ys }

abbrev pub store_word : Entry → ℕ → ℕ → ℕ → Store
store_word e r o v = store_run e r o (word_bytes v)

abbrev pub store_record : Entry → ℕ → List ℕ → Store
store_record e r ys = record { at = place_of e r; bytes = ys }

abbrev pub wipe_record : Entry → ℕ → Store
wipe_record e r = store_record e r (zeros e.size)

-- the block that a store goes into
abbrev pub store_block : Store → ℕ
store_block x = block_with x.at

-- "a block to be stored into has a false check" is damage: this is the opposite
unfoldable pub blocks_sealed : Check → List ℕ → List Store → Bool
blocks_sealed k b [] = true
blocks_sealed k b (x ∷ xs) = is_sealed k b (store_block x) && blocks_sealed k b xs

-- the stores, one after the other
unfoldable pub store_all : List ℕ → List Store → List ℕ
store_all b [] = b
store_all b (x ∷ xs) = store_all (splice b x.at x.bytes) xs

-- "then the checks of the blocks stored into"
unfoldable pub seal_all : Check → List ℕ → List Store → List ℕ
seal_all k b [] = b
seal_all k b (x ∷ xs) = seal_all k (seal k b (store_block x)) xs

-- what the stores leave
unfoldable pub committed : Check → List ℕ → List Store → List ℕ
committed k b xs = seal_all k (store_all b xs) xs

-- "FORMT zeroes everything and sets the checks.": n blocks
unfoldable pub seal_below : Check → ℕ → List ℕ → List ℕ
seal_below k zero b = b
seal_below k (suc n) b = seal k (seal_below k n b) n

unfoldable pub formatted : Check → ℕ → List ℕ
formatted k n = seal_below k n (zeros (n * 512))
