-- The laws of what is put into a buffer behind what it holds, and of digits stored from a buffer's end.
use Rattle.std.specs.Prelude.{ℕ, ◌+◌, ◌-◌, ◌/◌, ◌%◌, ◌≤◌, ◌<◌, ◌≡◌, List, ◌∷◌, ◌++◌, length, take, drop, set}
use Rattle.std.proofs.Math.Path.{refl}
use Rattle.std.proofs.Common.{ap, ◌∙◌, length-set, length-append, length-drop, take_all, take_at, drop_at, length-take-le, get_or-set_same, drop-set-lt}
use native.Mathlib.Omega.{arith}
use Rattle.std.proofs.Math.Numerals.{add-one}
use borrow.Author.Tests.{lt-ltb, le-ltb}
use Rattle.octets.specs.Octets.{splice, set_word, word_bytes, zeros}
use Rattle.octets.specs.BelowLaws.{drop_later}
use Rattle.octets.specs.SpliceLaws.{splice_eq, drop-one, splice-whole}
use Rattle.console.specs.Console.{RestStays}
use Rattle.console.specs.References.{digits_onto}

-- ---- what the buffer holds grows

pub take_splice : (xs : List ℕ) (at : ℕ) (ys : List ℕ) → at + length ys ≤ length xs → take (at + length ys) (splice xs at ys) ≡ take at xs ++ ys
take_splice xs at ys h =
    rw (splice_eq xs at ys h)
    (take_at (take at xs ++ ys) (drop (at + length ys) xs) (at + length ys) (length-append (take at xs) ys ∙ ap (λ (n : ℕ). n + length ys) (length-take-le at xs (omega arith))))

-- and behind it the buffer stays as it was
pub rest-splice : (xs : List ℕ) (at : ℕ) (ys : List ℕ) → at + length ys ≤ length xs → RestStays (at + length ys) xs (splice xs at ys)
rest-splice xs at ys h =
    record {
      rest = rw (splice_eq xs at ys h)
          (drop_at (take at xs ++ ys) (drop (at + length ys) xs) (at + length ys) (length-append (take at xs) ys ∙ ap (λ (n : ℕ). n + length ys) (length-take-le at xs (omega arith))));
    }

pub stays-behind : {was mid out : List ℕ} {n m : ℕ} → RestStays n was mid → n ≤ m → RestStays m mid out → RestStays m was out
stays-behind {was} {mid} {out} {n} {m} e h f = record { rest = f.rest ∙ drop_later mid was n m h e.rest }

-- the four characters of a reference
pub word_whole : (v : ℕ) → set_word (zeros 4) 0 v ≡ word_bytes v
unfolding set_word
word_whole v = splice-whole (zeros 4) (word_bytes v) refl

-- ---- digits, the last one first

module _ (xs : List ℕ) (i n : ℕ) (h : i < length xs) where
  -- one digit in front of those that stand there
  in_front : (v : ℕ) → drop i (set xs i v) ≡ v ∷ drop (i + 1) xs
  in_front v =
      drop-one (set xs i v) i (rw length-set h)
      ∙ rw (get_or-set_same xs i v 0 h, drop-set-lt (i + 1) xs i v (omega arith)) refl

  pub digits_turn : 10 ≤ n → digits_onto (i + 1) n (drop (i + 1) xs) ≡ digits_onto i (n / 10) (drop i (set xs i (48 + n % 10)))
  unfolding digits_onto
  digits_turn k = rw (in_front (48 + n % 10), add-one i, le-ltb n 10 k) refl

  pub digits_last : n < 10 → digits_onto (i + 1) n (drop (i + 1) xs) ≡ drop i (set xs i (48 + n % 10))
  unfolding digits_onto
  digits_last k =
      let e : n % 10 ≡ n = omega arith in
      rw (in_front (48 + n % 10), add-one i, lt-ltb n 10 k, e) refl

-- the digits are the buffer from where they begin
pub rest-whole : (xs : List ℕ) (n from : ℕ) → length xs ≡ n → take (n - from) (drop from xs) ≡ drop from xs
rest-whole xs n from e = take_all (n - from) (drop from xs) (simp length-drop (omega arith))
