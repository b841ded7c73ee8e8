-- The laws of decimal numbers: the turns of the loops that read and write one.
use Rattle.std.specs.Prelude.{ℕ, ◌+◌, ◌*◌, ◌-◌, ◌≤◌, ◌<◌, ◌≡◌, Bool, true, false, cond, ◌&&◌, List, [], ◌∷◌, leb, length, get_or, drop, Option, Some, None, MatchOption}
use Rattle.std.proofs.Math.Path.{refl}
use Rattle.std.proofs.Common.{arith, drop_of_length-le, ne_eqb}
use borrow.Author.Tests.{le-leb, lt-leb, leb-true}
use Rattle.octets.specs.Octets.{every, word_at}
use Rattle.octets.specs.SpliceLaws.{drop-one}
use Rattle.octets.specs.RunLaws.{every_turn, every_fails}
use Rattle.console.specs.References.{is_digit, decimal_onto, decimal_of, is_decimal, spells_four, is_reference, reference_of}
use Rattle.std.proofs.Math.Bool.{and-eq-true_iff}

-- ---- reading

-- the number that xs spells behind n; none where it is too high, or a byte of xs is no digit
abbrev pub spelled : ℕ → List ℕ → Option ℕ
spelled n xs = cond (every is_digit xs && leb (decimal_onto n xs) 4294967295) (Some (decimal_onto n xs)) None

pub digit_ge : (x : ℕ) → is_digit x ≡ true → 48 ≤ x
digit_ge x h = leb-true 48 x ((and-eq-true_iff (leb 48 x) (leb x 57)).0 h).0

-- a number does not become less by digits behind it
decimal_onto_ge : (n : ℕ) (xs : List ℕ) → n ≤ decimal_onto n xs
unfolding decimal_onto
decimal_onto_ge n [] = omega arith
decimal_onto_ge n (x ∷ xs) = omega (arith, decimal_onto_ge (n * 10 + (x - 48)) xs)

module _ (n : ℕ) (xs : List ℕ) (i : ℕ) where
  onto_one : i < length xs → decimal_onto n (drop i xs) ≡ decimal_onto (n * 10 + (get_or xs i 0 - 48)) (drop (i + 1) xs)
  unfolding decimal_onto
  onto_one h = rw (drop-one xs i h) refl

  pub spelled-turn : i < length xs → is_digit (get_or xs i 0) ≡ true → spelled n (drop i xs) ≡ spelled (n * 10 + (get_or xs i 0 - 48)) (drop (i + 1) xs)
  spelled-turn h e = rw (onto_one h, every_turn is_digit xs i h e) refl

  pub spelled-fails : i < length xs → is_digit (get_or xs i 0) ≡ false → spelled n (drop i xs) ≡ None
  spelled-fails h e = rw (every_fails is_digit xs i h e) refl

  pub spelled_end : length xs ≤ i → n < 4294967296 → spelled n (drop i xs) ≡ Some n
  unfolding every decimal_onto
  spelled_end h k = rw (drop_of_length-le xs {i = i} h, le-leb n 4294967295 (omega arith)) refl

-- too high already
either : (t : Bool) (m : ℕ) → cond (t && false) (Some m) None ≡ None
either true m = refl
either false m = refl

pub spelled_high : (n : ℕ) (xs : List ℕ) → 4294967296 ≤ n → spelled n xs ≡ None
spelled_high n xs h =
    rw (lt-leb (decimal_onto n xs) 4294967295 (omega (arith, decimal_onto_ge n xs))) (either (every is_digit xs) (decimal_onto n xs))

-- a field that is not empty is decimal where its bytes spell a number, which is the field's
one_number : (t : Bool) (m : ℕ) → MatchOption (cond t (Some m) None) (t ≡ false) (λ n. (t ≡ true) × (n ≡ m))
one_number true m = (refl, refl)
one_number false m = refl

pub spelled_whole : (f : List ℕ) (o : Option ℕ) → (length f ≡ 0 → ⊥) → spelled 0 f ≡ o → MatchOption o (is_decimal f ≡ false) (λ n. (is_decimal f ≡ true) × (n ≡ decimal_of f))
spelled_whole f o h e = rw (← e, ne_eqb (length f) 0 h) (one_number (every is_digit f && leb (decimal_of f) 4294967295) (decimal_of f))

-- ---- a field that is a reference

module _ (f : List ℕ) where
  pub said_spelt : spells_four f ≡ true → word_at f 0 ≡ cond (is_reference f) (reference_of f) 4294967296
  said_spelt h = rw h refl

  pub said_decimal : spells_four f ≡ false → cond (is_decimal f) (decimal_of f) 4294967296 ≡ cond (is_reference f) (reference_of f) 4294967296
  said_decimal h = rw h refl

-- ---- what is printed in decimal is read again
