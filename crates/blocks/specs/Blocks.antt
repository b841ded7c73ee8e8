-- Document 01, "Blocks and the schema": blocks of 512 bytes and their checks.
use Rattle.std.specs.Prelude.{ℕ, ◌+◌, ◌*◌, ◌/◌, ◌≤◌, Bool, List, eqb, length, take}
use Rattle.octets.specs.Octets.{run, sum_onto, word_at, set_word}
use Rattle.blocks.specs.declared.Check.{Check}
use Rattle.blocks.specs.declared.Check.TheVariants.{Sum}

-- "A block is 512 bytes"; "The data base's blocks are numbered from 0": where block n begins
abbrev pub block_at : ℕ → ℕ
block_at n = n * 512

-- the block that a place lies in
abbrev pub block_with : ℕ → ℕ
block_with at = at / 512

-- "bytes 508..511 are its check": where block n's check stands
abbrev pub check_at : ℕ → ℕ
check_at n = n * 512 + 508

-- the kind of check that a number asks for
unfoldable pub check_by : ℕ → Check
check_by n = Sum

-- the check of a block's bytes: "the 32-bit wrapping sum of the block's number and its first 127 words"
unfoldable pub check_of : Check → List ℕ → ℕ → ℕ
check_of Sum block n = sum_onto n (take 508 block)

-- xs has a whole block n
abbrev pub HasBlock : List ℕ → ℕ → Type 0
HasBlock xs n = block_at n + 512 ≤ length xs

-- block n's check is true
unfoldable pub is_sealed : Check → List ℕ → ℕ → Bool
is_sealed k xs n = eqb (word_at xs (check_at n)) (check_of k (run xs (block_at n) 512) n)

-- xs with block n's check set anew
unfoldable pub seal : Check → List ℕ → ℕ → List ℕ
seal k xs n = set_word xs (check_at n) (check_of k (run xs (block_at n) 512) n)
