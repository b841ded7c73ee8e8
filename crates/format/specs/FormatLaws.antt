-- The turns of the loop that sets the checks, and the check of a block of zeros.
use Rattle.std.specs.Prelude.{ℕ, zero, suc, ◌+◌, ◌*◌, ◌≤◌, ◌<◌, ◌≡◌, refl, List, length}
use Rattle.std.proofs.Common.{ap, ◌∙◌, arith, add-one, append-nil}
use Rattle.std.proofs.lemmas.List.{length-replicate}
use Rattle.octets.specs.Octets.{run, set_word, zeros, splice}
use Rattle.octets.specs.SpliceLaws.{run_zeros, splice_eq}
use Rattle.blocks.specs.declared.Check.{Check}
use Rattle.blocks.specs.Blocks.{block_at, check_at, seal}
use Rattle.blocks.specs.Laws.{run_seal, check_of-zeros}
use Rattle.plans.specs.Plan.{seal_below, formatted}
use Rattle.std.proofs.Math.Seq.{drop-length}

pub length-zeros : (b : List ℕ) (n : ℕ) → b ≡ zeros n → length b ≡ n
length-zeros b n h = ap length h ∙ length-replicate n 0

-- zeros over the whole of a buffer of n bytes leave nothing of it
pub zeros-whole : (b : List ℕ) (n : ℕ) → length b ≡ n → splice b 0 (zeros (length b)) ≡ zeros n
zeros-whole b n h =
    let l : 0 + length (zeros (length b)) ≡ length b = omega (arith, length-replicate {A = ℕ} (length b) 0) in
    splice_eq b 0 (zeros (length b)) (omega arith) ∙ (rw (l, drop-length b) (append-nil (zeros (length b)))) ∙ ap zeros h

-- before the first turn no check is set
pub seals_begin : (k : Check) (b : List ℕ) → b ≡ seal_below k 0 b
unfolding seal_below
seals_begin k b = refl

-- a turn sets the next one
pub seals_turn : (k : Check) (b x y : List ℕ) (i : ℕ) → x ≡ seal_below k i b → y ≡ seal k x i → y ≡ seal_below k (i + 1) b
unfolding seal_below
seals_turn k b x y i h e = e ∙ rw (add-one, h) refl

-- behind the last turn all n are set
pub seals_end : (k : Check) (b x : List ℕ) (n i : ℕ) → b ≡ zeros (n * 512) → x ≡ seal_below k i b → i ≤ n → n ≤ i → x ≡ formatted k n
unfolding formatted
seals_end k b x n i e h p q = let j : i ≡ n = omega arith in h ∙ rw (j, e) refl

-- ---- the check of a block of zeros is the block's number

-- it is stored as it is
pub zero_seal : (k : Check) (b : List ℕ) (n : ℕ) → run b (block_at n) 512 ≡ zeros 512 → n < 4294967296 → set_word b (check_at n) n ≡ seal k b n
unfolding seal
zero_seal k b n z h = rw (z, check_of-zeros k n h) refl

-- a block whose check is not set yet is all zero
run_seal_below : (k : Check) (i : ℕ) (b : List ℕ) (a m : ℕ) → i * 512 ≤ a → run (seal_below k i b) a m ≡ run b a m
unfolding seal_below
run_seal_below k zero b a m h = refl
run_seal_below k (suc i) b a m h = run_seal k (seal_below k i b) i a m (λ p q. omega arith) ∙ run_seal_below k i b a m (omega arith)

pub still_zero : (k : Check) (b x : List ℕ) (n i : ℕ) → b ≡ zeros (n * 512) → x ≡ seal_below k i b → i < n → run x (block_at i) 512 ≡ zeros 512
still_zero k b x n i e h l = rw (h, e) (run_seal_below k i (zeros (n * 512)) (i * 512) 512 (omega arith) ∙ run_zeros (n * 512) (i * 512) 512 (omega arith))
