-- Bytes, words and runs of bytes in a list. A buffer is the list of its bytes.
-- Document 01, "Blocks and the schema": "All numbers are big-endian."
use Rattle.std.specs.Prelude.{ℕ, ◌+◌, ◌*◌, ◌/◌, ◌%◌, ◌<◌, Bool, true, false, ◌&&◌, List, [], ◌∷◌, take, drop, replicate, ◌==◌, slice_index, slice_set}

-- every element is a byte
abbrev pub Bytes : List ℕ → Type 0
Bytes xs = (i : ℕ) → slice_index xs i < 256

-- the m places from a and the n places from b have none in common
abbrev pub Apart : ℕ → ℕ → ℕ → ℕ → Type 0
Apart a m b n = a < b + n → b < a + m → ⊥

-- ---- reading

-- the byte at a place; past the end, 0
abbrev pub byte_at : List ℕ → ℕ → ℕ
byte_at xs at = slice_index xs at

-- the n bytes from a place on
abbrev pub run : List ℕ → ℕ → ℕ → List ℕ
run xs at n = take n (drop at xs)

-- two bytes as a number, and four, the first the highest
abbrev pub half2 : ℕ → ℕ → ℕ
half2 a b = a * 256 + b

abbrev pub word4 : ℕ → ℕ → ℕ → ℕ → ℕ
word4 a b c d = a * 16777216 + b * 65536 + c * 256 + d

-- the number of two bytes, and the word of four, whose first byte is at a place
unfoldable pub half_at : List ℕ → ℕ → ℕ
half_at xs at = half2 (slice_index xs at) (slice_index xs (at + 1))

unfoldable pub word_at : List ℕ → ℕ → ℕ
word_at xs at = word4 (slice_index xs at) (slice_index xs (at + 1)) (slice_index xs (at + 2)) (slice_index xs (at + 3))

-- ---- storing: every store of this house is one splice

-- xs with the elements from place a on replaced by ys; what would stand past the end is left out
unfoldable pub splice : List ℕ → ℕ → List ℕ → List ℕ
splice xs a [] = xs
splice xs a (y ∷ ys) = splice (slice_set xs a y) (a + 1) ys

-- the four bytes of a word, the highest first
abbrev pub word_bytes : ℕ → List ℕ
word_bytes v = v / 16777216 % 256 ∷ v / 65536 % 256 ∷ v / 256 % 256 ∷ v % 256 ∷ []

-- xs with the word v at a place
unfoldable pub set_word : List ℕ → ℕ → ℕ → List ℕ
set_word xs at v = splice xs at (word_bytes v)

-- n zero bytes
abbrev pub zeros : ℕ → List ℕ
zeros n = replicate n 0

-- ---- tests and sums over a run

-- every element passes a test
unfoldable pub every : (ℕ → Bool) → List ℕ → Bool
every f [] = true
every f (x ∷ xs) = f x && every f xs

-- the byte is v
abbrev pub is : ℕ → ℕ → Bool
is v x = x == v

-- every byte is zero; every byte is a blank, 0x20
abbrev pub all_zero : List ℕ → Bool
all_zero xs = every (is 0) xs

abbrev pub all_blank : List ℕ → Bool
all_blank xs = every (is 32) xs

-- two runs are the same, byte by byte and in length
unfoldable pub same_bytes : List ℕ → List ℕ → Bool
same_bytes [] [] = true
same_bytes [] (y ∷ ys) = false
same_bytes (x ∷ xs) [] = false
same_bytes (x ∷ xs) (y ∷ ys) = x == y && same_bytes xs ys

-- the wrapping 32-bit sum of a run's words onto what is summed already; bytes after the last whole word count for nothing
unfoldable pub sum_onto : ℕ → List ℕ → ℕ
sum_onto acc [] = acc
sum_onto acc (a ∷ []) = acc
sum_onto acc (a ∷ b ∷ []) = acc
sum_onto acc (a ∷ b ∷ c ∷ []) = acc
sum_onto acc (a ∷ b ∷ c ∷ d ∷ xs) = sum_onto ((acc + word4 a b c d) % 4294967296) xs

-- "wrapping 32-bit sum of the key's words" (Where masters live)
abbrev pub word_sum : List ℕ → ℕ
word_sum xs = sum_onto 0 xs
