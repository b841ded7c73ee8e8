-- The laws of checks: what setting one does, and what a store leaves.
use Rattle.std.specs.Prelude.{◌≡◌, true, List, ℕ, ◌<◌, eqb, length, get_or, take, drop}
use Rattle.std.proofs.Math.Path.{refl, sym, ap}
use Rattle.std.proofs.Common.{◌∙◌, arith, take-take, length-take-le}
use borrow.Author.Tests.{eq-eqb, eqb-true}
use Rattle.octets.specs.Octets.{Bytes, Apart, run, splice, word_at, word_bytes, set_word, sum_onto, zeros}
use Rattle.octets.specs.SpliceLaws.{length_run, run_splice_out, run_zeros}
use Rattle.octets.specs.WordLaws.{word_at-part, word_at-set_word, word_at-set_word-other, length-set_word, bytes-set_word, get_d_set_word_out, set_word_id}
use Rattle.octets.specs.RunLaws.{sum_onto-word, sum_onto-zeros}
use Rattle.blocks.specs.declared.Check.{Check}
use Rattle.blocks.specs.declared.Check.TheVariants.{Sum}
use Rattle.blocks.specs.Blocks.{block_at, check_at, check_of, HasBlock, is_sealed, seal}

-- the check of the block n of xs
abbrev pub check_in : Check → List ℕ → ℕ → ℕ
check_in k xs n = check_of k (run xs (block_at n) 512) n

-- ---- of each kind: what is known of a check

-- it is a word
pub check_of_lt : (k : Check) (block : List ℕ) (n : ℕ) → length block ≡ 512 → check_of k block n < 4294967296
unfolding check_of
check_of_lt Sum block n h = sum_onto-word n (take 508 block) (omega (arith, length-take-le 508 block (omega arith)))

-- it is made of what stands in front of it
check_of-same : (k : Check) (xs ys : List ℕ) (n : ℕ) → take 508 xs ≡ take 508 ys → check_of k xs n ≡ check_of k ys n
unfolding check_of
check_of-same Sum xs ys n e = ap (sum_onto n) e

-- that of a block of zeros is the block's number
pub check_of-zeros : (k : Check) (n : ℕ) → n < 4294967296 → check_of k (zeros 512) n ≡ n
unfolding check_of
check_of-zeros Sum n h = ap (sum_onto n) (run_zeros 512 0 508 (omega arith)) ∙ sum_onto-zeros 127 508 n refl h

-- ---- a block of a data base

-- what is checked of a block of xs
checked_run : (xs : List ℕ) (n : ℕ) → take 508 (run xs (block_at n) 512) ≡ run xs (block_at n) 508
checked_run xs n = take-take 508 512 (drop (block_at n) xs) (omega arith)

-- its check is the word at 508
pub word_at_block : (xs : List ℕ) (n : ℕ) → word_at (run xs (block_at n) 512) 508 ≡ word_at xs (check_at n)
word_at_block xs n = word_at-part (block_at n) 512 xs 508 (omega arith)

module _ (k : Check) where
  -- it is sealed where it stands, if it is sealed alone
  pub is_sealed-run : (xs : List ℕ) (n : ℕ) → eqb (word_at (run xs (block_at n) 512) 508) (check_in k xs n) ≡ is_sealed k xs n
  unfolding is_sealed
  is_sealed-run xs n = rw (word_at_block xs n) refl

  -- lists that have the same block n agree on its being sealed
  pub is_sealed-same : (xs ys : List ℕ) (n : ℕ) → run xs (block_at n) 512 ≡ run ys (block_at n) 512 → is_sealed k xs n ≡ is_sealed k ys n
  is_sealed-same xs ys n e = sym (is_sealed-run xs n) ∙ rw e (is_sealed-run ys n)

  -- ---- stores and checks

  -- a store apart from what is checked leaves the check
  pub check_in-splice : (xs : List ℕ) (a : ℕ) (ys : List ℕ) (n : ℕ) → Apart a (length ys) (block_at n) 508 → check_in k (splice xs a ys) n ≡ check_in k xs n
  check_in-splice xs a ys n h =
      check_of-same k _ _ n (checked_run (splice xs a ys) n ∙ run_splice_out xs a ys (block_at n) 508 h ∙ sym (checked_run xs n))

  -- a store apart from a block leaves its being sealed
  pub is_sealed-splice : (xs : List ℕ) (a : ℕ) (ys : List ℕ) (n : ℕ) → Apart a (length ys) (block_at n) 512 → is_sealed k (splice xs a ys) n ≡ is_sealed k xs n
  is_sealed-splice xs a ys n h = is_sealed-same (splice xs a ys) xs n (run_splice_out xs a ys (block_at n) 512 h)

  -- ---- sealing

  pub length-seal : (xs : List ℕ) (n : ℕ) → length (seal k xs n) ≡ length xs
  unfolding seal
  length-seal xs n = length-set_word xs (check_at n) (check_in k xs n)

  pub bytes-seal : (xs : List ℕ) (n : ℕ) → Bytes xs → Bytes (seal k xs n)
  unfolding seal
  bytes-seal xs n h = bytes-set_word xs (check_at n) (check_in k xs n) h

  -- bytes, words and runs apart from the check are as they were
  pub get_d_seal : (xs : List ℕ) (n j : ℕ) → Apart (check_at n) 4 j 1 → get_or (seal k xs n) j 0 ≡ get_or xs j 0
  unfolding seal
  get_d_seal xs n j h = get_d_set_word_out xs (check_at n) (check_in k xs n) j h

  pub word_at-seal-other : (xs : List ℕ) (n p : ℕ) → Apart (check_at n) 4 p 4 → word_at (seal k xs n) p ≡ word_at xs p
  unfolding seal
  word_at-seal-other xs n p h = word_at-set_word-other xs (check_at n) (check_in k xs n) p h

  pub run_seal : (xs : List ℕ) (n b m : ℕ) → Apart (check_at n) 4 b m → run (seal k xs n) b m ≡ run xs b m
  unfolding seal set_word
  run_seal xs n b m h = run_splice_out xs (check_at n) (word_bytes (check_in k xs n)) b m h

  -- setting the check leaves what is checked
  pub check_in-seal : (xs : List ℕ) (n : ℕ) → check_in k (seal k xs n) n ≡ check_in k xs n
  unfolding seal set_word
  check_in-seal xs n = check_in-splice xs (check_at n) (word_bytes (check_in k xs n)) n (λ p q. omega arith)

  pub word_at-seal : (xs : List ℕ) (n : ℕ) → HasBlock xs n → word_at (seal k xs n) (check_at n) ≡ check_in k xs n
  unfolding seal
  word_at-seal xs n h =
      word_at-set_word xs (check_at n) (check_in k xs n) (check_of_lt k (run xs (block_at n) 512) n (length_run xs (block_at n) 512 h)) (omega arith)

  -- a block that was sealed is sealed
  pub is_sealed-seal : (xs : List ℕ) (n : ℕ) → HasBlock xs n → is_sealed k (seal k xs n) n ≡ true
  unfolding is_sealed
  is_sealed-seal xs n h = eq-eqb _ _ (word_at-seal xs n h ∙ sym (check_in-seal xs n))

  -- sealing one block leaves another
  pub is_sealed-seal-other : (xs : List ℕ) (n m : ℕ) → (m ≡ n → ⊥) → is_sealed k (seal k xs n) m ≡ is_sealed k xs m
  is_sealed-seal-other xs n m h = is_sealed-same (seal k xs n) xs m (run_seal xs n (block_at m) 512 (λ p q. h (omega arith)))

  -- sealing a sealed block changes nothing
  pub seal-sealed : (xs : List ℕ) (n : ℕ) → is_sealed k xs n ≡ true → HasBlock xs n → Bytes xs → seal k xs n ≡ xs
  unfolding is_sealed seal
  seal-sealed xs n s h b = ap (set_word xs (check_at n)) (sym (eqb-true _ _ s)) ∙ set_word_id xs (check_at n) b (omega arith)
