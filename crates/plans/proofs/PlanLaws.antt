-- The commit, once for all calls: it keeps the length and the bytes' being bytes, leaves what no store touches, and leaves every block
-- that was sealed sealed, touched or not. And what a format leaves: zeros, and true checks.
use Prim.Native.Nat.{ℕ, zero, suc, ◌+◌, ◌*◌, ◌≤◌, ◌<◌}
use Rattle.std.specs.Prelude.{◌≡◌, true, length, get_or}
use Rattle.std.proofs.Math.Path.{refl}
use Rattle.std.proofs.Common.{◌∙◌, arith}
use Rattle.std.proofs.Math.Logic.{⊎_elim}
use mathlib.Core.List.{List, [], ◌∷◌}
use Rattle.std.proofs.Math.ListN.{length-replicate}
use Rattle.octets.specs.Octets.{Bytes, Apart, splice, run, zeros}
use Rattle.octets.specs.BelowLaws.{same?}
use Rattle.octets.specs.SpliceLaws.{length-splice, bytes-splice, run_splice_out, get_d_zeros, bytes-zeros}
use Rattle.blocks.specs.declared.Check.{Check}
use Rattle.blocks.specs.Blocks.{block_at, check_at, is_sealed, seal}
use Rattle.blocks.specs.Laws.{length-seal, bytes-seal, run_seal, get_d_seal, is_sealed-splice, is_sealed-seal, is_sealed-seal-other}
use Rattle.plans.specs.Plan.{Store, store_block, store_all, seal_all, committed, seal_below, formatted}
use Rattle.plans.specs.PlanOk.{Fits, AllFit}

-- every store is of bytes
abbrev pub AllBytes : List Store → Type 0
AllBytes [] = Unit {0}
AllBytes (x ∷ xs) = Bytes x.bytes × AllBytes xs

-- the run of n bytes from a is apart from every store, and from every check that the stores have set anew
abbrev pub AllApart : ℕ → ℕ → List Store → Type 0
AllApart a n [] = Unit {0}
AllApart a n (x ∷ xs) = Apart x.at (length x.bytes) a n × Apart (check_at (store_block x)) 4 a n × AllApart a n xs

-- ---- the stores

pub length-store_all : (b : List ℕ) (xs : List Store) → length (store_all b xs) ≡ length b
unfolding store_all
length-store_all b [] = refl
length-store_all b (x ∷ xs) = length-store_all (splice b x.at x.bytes) xs ∙ length-splice b x.at x.bytes

bytes-store_all : (b : List ℕ) (xs : List Store) → AllBytes xs → Bytes b → Bytes (store_all b xs)
unfolding store_all
bytes-store_all b [] k h = h
bytes-store_all b (x ∷ xs) k h = bytes-store_all (splice b x.at x.bytes) xs k.1 (bytes-splice b x.at x.bytes k.0 h)

run_store_all : (b : List ℕ) (xs : List Store) (a n : ℕ) → AllApart a n xs → run (store_all b xs) a n ≡ run b a n
unfolding store_all
run_store_all b [] a n h = refl
run_store_all b (x ∷ xs) a n h =
    run_store_all (splice b x.at x.bytes) xs a n h.2 ∙ run_splice_out b x.at x.bytes a n h.0

-- no store goes into block n
abbrev Untouched : ℕ → List Store → Type 0
Untouched n [] = Unit {0}
Untouched n (x ∷ xs) = (n ≡ store_block x → ⊥) × Untouched n xs

-- a store into another block leaves a block as it was
other_block : (n : ℕ) (x : Store) (m : ℕ) → Fits n x → (m ≡ store_block x → ⊥) → Apart x.at (length x.bytes) (block_at m) 512
other_block n x m f ne p q = ne (omega (arith, f.inside))

-- ---- the checks, of the kind k

module _ (k : Check) where
  -- ---- lengths and bytes

  pub length-seal_all : (b : List ℕ) (xs : List Store) → length (seal_all k b xs) ≡ length b
  unfolding seal_all
  length-seal_all b [] = refl
  length-seal_all b (x ∷ xs) = length-seal_all (seal k b _) xs ∙ length-seal k b _

  pub length-committed : (b : List ℕ) (xs : List Store) → length (committed k b xs) ≡ length b
  unfolding committed
  length-committed b xs = length-seal_all (store_all b xs) xs ∙ length-store_all b xs

  bytes-seal_all : (b : List ℕ) (xs : List Store) → Bytes b → Bytes (seal_all k b xs)
  unfolding seal_all
  bytes-seal_all b [] h = h
  bytes-seal_all b (x ∷ xs) h = bytes-seal_all (seal k b _) xs (bytes-seal k b _ h)

  pub bytes-committed : (b : List ℕ) (xs : List Store) → AllBytes xs → Bytes b → Bytes (committed k b xs)
  unfolding committed
  bytes-committed b xs w h = bytes-seal_all (store_all b xs) xs (bytes-store_all b xs w h)

  -- ---- the frame

  run_seal_all : (b : List ℕ) (xs : List Store) (a n : ℕ) → AllApart a n xs → run (seal_all k b xs) a n ≡ run b a n
  unfolding seal_all
  run_seal_all b [] a n h = refl
  run_seal_all b (x ∷ xs) a n h = run_seal_all (seal k b (store_block x)) xs a n h.2 ∙ run_seal k b (store_block x) a n h.1

  pub run_committed : (b : List ℕ) (xs : List Store) (a n : ℕ) → AllApart a n xs → run (committed k b xs) a n ≡ run b a n
  unfolding committed
  run_committed b xs a n h = run_seal_all (store_all b xs) xs a n h ∙ run_store_all b xs a n h

  -- ---- a sealed block stays sealed

  -- sealing keeps a sealed block sealed, and seals every block that a store goes into
  seal_all-keeps : (b : List ℕ) (xs : List Store) (n : ℕ) → block_at n + 512 ≤ length b → is_sealed k b n ≡ true → is_sealed k (seal_all k b xs) n ≡ true
  unfolding seal_all
  seal_all-keeps b [] n w h = h
  seal_all-keeps b (x ∷ xs) n w h =
      seal_all-keeps (seal k b (store_block x)) xs n (rw (length-seal k b (store_block x)) w)
      (⊎_elim (λ e. rw e (is_sealed-seal k b (store_block x) (rw e at w))) (λ e. is_sealed-seal-other k b (store_block x) n e ∙ h) (same? n (store_block x)))

  seal_all_seals : (b : List ℕ) (xs : List Store) (n : ℕ) → block_at n + 512 ≤ length b → (Untouched n xs → is_sealed k b n ≡ true) → is_sealed k (seal_all k b xs) n ≡ true
  unfolding seal_all
  seal_all_seals b [] n w h = h tt
  seal_all_seals b (x ∷ xs) n w h =
      ⊎_elim
      (λ e. seal_all-keeps (seal k b (store_block x)) xs n (rw (length-seal k b (store_block x)) w) (rw e (is_sealed-seal k b (store_block x) (rw e at w))))
      (λ e. seal_all_seals (seal k b (store_block x)) xs n (rw (length-seal k b (store_block x)) w) (λ u. is_sealed-seal-other k b (store_block x) n e ∙ h (e, u)))
      (same? n (store_block x))

  store_all-leaves : (b : List ℕ) (xs : List Store) (n : ℕ) → AllFit (length b) xs → Untouched n xs → is_sealed k b n ≡ true → is_sealed k (store_all b xs) n ≡ true
  unfolding store_all
  store_all-leaves b [] n f u h = h
  store_all-leaves b (x ∷ xs) n f u h =
      store_all-leaves (splice b x.at x.bytes) xs n (rw (length-splice b x.at x.bytes) f.1) u.1
      (is_sealed-splice k b x.at x.bytes n (other_block (length b) x n f.0 u.0) ∙ h)

  pub committed-sealed : (b : List ℕ) (xs : List Store) (n : ℕ) → block_at n + 512 ≤ length b → AllFit (length b) xs → is_sealed k b n ≡ true → is_sealed k (committed k b xs) n ≡ true
  unfolding committed
  committed-sealed b xs n w f h =
      seal_all_seals (store_all b xs) xs n (rw (length-store_all b xs) w) (λ u. store_all-leaves b xs n f u h)

  -- ---- what a format leaves

  length-seal_below : (n : ℕ) (b : List ℕ) → length (seal_below k n b) ≡ length b
  unfolding seal_below
  length-seal_below zero b = refl
  length-seal_below (suc n) b = length-seal k (seal_below k n b) _ ∙ length-seal_below n b

  pub length-formatted : (n : ℕ) → length (formatted k n) ≡ n * 512
  unfolding formatted
  length-formatted n = length-seal_below n (zeros (n * 512)) ∙ length-replicate (n * 512) 0

  bytes-seal_below : (n : ℕ) (b : List ℕ) → Bytes b → Bytes (seal_below k n b)
  unfolding seal_below
  bytes-seal_below zero b h = h
  bytes-seal_below (suc n) b h = bytes-seal k (seal_below k n b) _ (bytes-seal_below n b h)

  pub bytes-formatted : (n : ℕ) → Bytes (formatted k n)
  unfolding formatted
  bytes-formatted n = bytes-seal_below n (zeros (n * 512)) (bytes-zeros (n * 512))

  seal_below-sealed : (n : ℕ) (b : List ℕ) (m : ℕ) → n * 512 ≤ length b → m < n → is_sealed k (seal_below k n b) m ≡ true
  unfolding seal_below
  seal_below-sealed zero b m w l = absurd (omega arith)
  seal_below-sealed (suc n) b m w l =
      ⊎_elim
      (λ e. rw e (is_sealed-seal k (seal_below k n b) n (rw (length-seal_below n b) (omega arith))))
      (λ e. is_sealed-seal-other k (seal_below k n b) n m e ∙ seal_below-sealed n b m (omega arith) (omega arith))
      (same? m n)

  -- every block's check is true
  pub formatted-sealed : (n m : ℕ) → m < n → is_sealed k (formatted k n) m ≡ true
  unfolding formatted
  formatted-sealed n m l = seal_below-sealed n (zeros (n * 512)) m (omega (arith, length-replicate {A = ℕ} (n * 512) 0)) l

  seal_below-leaves : (n : ℕ) (b : List ℕ) (j : ℕ) → ((m : ℕ) → m < n → Apart (check_at m) 4 j 1) → get_or (seal_below k n b) j 0 ≡ get_or b j 0
  unfolding seal_below
  seal_below-leaves zero b j h = refl
  seal_below-leaves (suc n) b j h =
      get_d_seal k (seal_below k n b) n j (h n (omega arith)) ∙ seal_below-leaves n b j (λ m l. h m (omega arith))

  -- and all that is no check is zero
  pub formatted_zero : (n j : ℕ) → ((m : ℕ) → m < n → Apart (check_at m) 4 j 1) → get_or (formatted k n) j 0 ≡ 0
  unfolding formatted
  formatted_zero n j h = seal_below-leaves n (zeros (n * 512)) j h ∙ get_d_zeros (n * 512) j
