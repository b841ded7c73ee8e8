-- The laws of words: what is stored is read again, and what a store leaves.
use Rattle.std.specs.Prelude.{◌≡◌, ℕ, zero, suc, ◌+◌, ◌*◌, ◌/◌, ◌%◌, ◌<◌, ◌≤◌, List, [], ◌∷◌, length, slice_index, refl, slice_set}
use Rattle.std.proofs.Common.{sym, ◌∙◌, arith, div-add-mod', mod-eq_of_lt}
use Rattle.std.proofs.Math.Nat.{div-div-eq-div-mul}
use borrow.Rule.Slice.PartMut.{put_mid}
use Rattle.octets.specs.Octets.{Bytes, Apart, run, word4, word_at, splice, word_bytes, set_word}
use Rattle.octets.specs.SpliceLaws.{drop-four, length-splice, get_d_splice_out, get_d_splice_in, get_d_run, splice-part, splice-run_id, bytes-splice}

-- ---- reading

pub word_at_lt : (xs : List ℕ) (at : ℕ) → Bytes xs → word_at xs at < 4294967296
unfolding word_at
word_at_lt xs at h = omega (arith, h at, h (at + 1), h (at + 2), h (at + 3))

-- words of lists that agree on the four bytes
pub word_at-same : (xs ys : List ℕ) (p q : ℕ) → ((k : ℕ) → k < 4 → slice_index xs (p + k) ≡ slice_index ys (q + k)) → word_at xs p ≡ word_at ys q
unfolding word_at
word_at-same xs ys p q h =
    let e : p + 0 ≡ p = omega arith in
    let f : q + 0 ≡ q = omega arith in
    cc (h 0 (omega arith), h 1 (omega arith), h 2 (omega arith), h 3 (omega arith))

-- a word of a part
get_d_part : (a k : ℕ) (xs : List ℕ) (p i : ℕ) → p + i < k → slice_index (run xs a k) (p + i) ≡ slice_index xs (a + p + i)
get_d_part a k xs p i h = let e : a + p + i ≡ a + (p + i) = omega arith in rw e (get_d_run xs a k (p + i) h)

pub word_at-part : (a k : ℕ) (xs : List ℕ) (p : ℕ) → p + 4 ≤ k → word_at (run xs a k) p ≡ word_at xs (a + p)
word_at-part a k xs p h = word_at-same (run xs a k) xs p (a + p) (λ i l. get_d_part a k xs p i (omega arith))

-- a run apart from a word leaves it
pub word_at-splice : (xs : List ℕ) (a : ℕ) (ys : List ℕ) (p : ℕ) → Apart a (length ys) p 4 → word_at (splice xs a ys) p ≡ word_at xs p
word_at-splice xs a ys p h =
    word_at-same (splice xs a ys) xs p p (λ k l. get_d_splice_out xs a ys (p + k) (λ s t. h (omega arith) (omega arith)))

-- a word within a stored run
pub word_at-splice_in : (xs : List ℕ) (a : ℕ) (ys : List ℕ) (p : ℕ) → p + 4 ≤ length ys → a + length ys ≤ length xs → word_at (splice xs a ys) (a + p) ≡ word_at ys p
word_at-splice_in xs a ys p h k =
    word_at-same (splice xs a ys) ys (a + p) p (λ i l.
    let e : a + p + i ≡ a + (p + i) = omega arith in
    rw e (get_d_splice_in xs a ys (p + i) (omega arith) k))

-- ---- a word and its four bytes

assembled : (v a b c r₀ r₁ r₂ r₃ : ℕ) → a * 256 + r₀ ≡ v → b * 256 + r₁ ≡ a → c * 256 + r₂ ≡ b → r₃ ≡ c → word4 r₃ r₂ r₁ r₀ ≡ v
assembled v a b c r₀ r₁ r₂ r₃ p q r s = omega arith

-- the four bytes of a word make the word
pub word4-bytes : (v : ℕ) → v < 4294967296 → word4 (v / 16777216 % 256) (v / 65536 % 256) (v / 256 % 256) (v % 256) ≡ v
word4-bytes v h =
    let p : v / 65536 ≡ v / 256 / 256 = sym (div-div-eq-div-mul v 256 256) in
    let q : v / 16777216 ≡ v / 256 / 256 / 256 = sym (div-div-eq-div-mul (v / 256) 256 256 ∙ div-div-eq-div-mul v 256 65536) in
    let small : v / 256 / 256 / 256 < 256 = rw (← q) (omega arith) in
    rw (p, q) (assembled v _ _ _ _ _ _ _ (div-add-mod' v 256) (div-add-mod' (v / 256) 256) (div-add-mod' (v / 256 / 256) 256) (mod-eq_of_lt small))

-- the word of four bytes has those bytes
pub bytes-word4 : (a b c d : ℕ) → a < 256 → b < 256 → c < 256 → d < 256 → word_bytes (word4 a b c d) ≡ a ∷ b ∷ c ∷ d ∷ []
bytes-word4 a b c d p q r s =
    let v = word4 a b c d in
    let e : v / 16777216 % 256 ≡ a = omega arith in
    let f : v / 65536 % 256 ≡ b = omega arith in
    let g : v / 256 % 256 ≡ c = omega arith in
    let h : v % 256 ≡ d = omega arith in
    rw (e, f, g, h) refl

pub bytes-word_bytes : (v : ℕ) → Bytes (word_bytes v)
bytes-word_bytes v zero = omega arith
bytes-word_bytes v (suc zero) = omega arith
bytes-word_bytes v (suc (suc zero)) = omega arith
bytes-word_bytes v (suc (suc (suc zero))) = omega arith
bytes-word_bytes v (suc (suc (suc (suc i)))) = omega arith

-- ---- storing

pub length-set_word : (xs : List ℕ) (at v : ℕ) → length (set_word xs at v) ≡ length xs
unfolding set_word
length-set_word xs at v = length-splice xs at (word_bytes v)

pub bytes-set_word : (xs : List ℕ) (at v : ℕ) → Bytes xs → Bytes (set_word xs at v)
unfolding set_word
bytes-set_word xs at v h = bytes-splice xs at (word_bytes v) (bytes-word_bytes v) h

pub word_at-set_word-other : (xs : List ℕ) (at v p : ℕ) → Apart at 4 p 4 → word_at (set_word xs at v) p ≡ word_at xs p
unfolding set_word
word_at-set_word-other xs at v p h = word_at-splice xs at (word_bytes v) p h

-- a byte outside is as it was
pub get_d_set_word_out : (xs : List ℕ) (at v j : ℕ) → Apart at 4 j 1 → slice_index (set_word xs at v) j ≡ slice_index xs j
unfolding set_word
get_d_set_word_out xs at v j h = get_d_splice_out xs at (word_bytes v) j h

-- the word that is stored is read again
pub word_at-set_word : (xs : List ℕ) (at v : ℕ) → v < 4294967296 → at + 4 ≤ length xs → word_at (set_word xs at v) at ≡ v
unfolding set_word word_at
word_at-set_word xs at v hv h =
    let e : at + 0 ≡ at = omega arith in
    let z : word_at (set_word xs at v) (at + 0) ≡ word_at (word_bytes v) 0 = word_at-splice_in xs at (word_bytes v) 0 (omega arith) h in
    (rw e at z) ∙ word4-bytes v hv

-- storing the word that stands there changes nothing
pub set_word_id : (xs : List ℕ) (at : ℕ) → Bytes xs → at + 4 ≤ length xs → set_word xs at (word_at xs at) ≡ xs
unfolding set_word word_at
set_word_id xs at b h =
    let e : run xs at 4 ≡ slice_index xs at ∷ slice_index xs (at + 1) ∷ slice_index xs (at + 2) ∷ slice_index xs (at + 3) ∷ [] = rw (drop-four xs at h) refl in
    rw (bytes-word4 _ _ _ _ (b at) (b (at + 1)) (b (at + 2)) (b (at + 3)), ← e) (splice-run_id xs at 4 h)

-- a word stored into a part is a word stored into the whole
pub set_word-part : (a k : ℕ) (xs : List ℕ) (j v : ℕ) → j + 4 ≤ k → put_mid a k xs (set_word (run xs a k) j v) ≡ set_word xs (a + j) v
unfolding set_word
set_word-part a k xs j v h = splice-part a k xs j (word_bytes v) h

-- the four stores of `put_word`
pub stored : (xs : List ℕ) (at v : ℕ) {a b c d : ℕ} → a ≡ v / 16777216 % 256 → b ≡ v / 65536 % 256 → c ≡ v / 256 % 256 → d ≡ v % 256
    → slice_set (slice_set (slice_set (slice_set xs at a) (at + 1) b) (at + 2) c) (at + 3) d ≡ set_word xs at v
unfolding set_word splice
stored xs at v p q r s =
    let e : at + 1 + 1 ≡ at + 2 = omega arith in
    let f : at + 2 + 1 ≡ at + 3 = omega arith in
    rw (p, q, r, s, e, f) refl
