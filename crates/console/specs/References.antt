-- Document 01, "Small store, worked": "References are decimal up to 4,294,967,295, or the four characters `LKxx` (xx capitals or digits) or
-- `END.`, and print as those characters where they equal them, else in decimal."
use Rattle.std.specs.Prelude.{ℕ, zero, suc, ◌+◌, ◌*◌, ◌-◌, ◌/◌, ◌%◌, Bool, cond, not, ◌&&◌, ◌||◌, List, [], ◌∷◌, eqb, leb, ltb, length}
use Rattle.octets.specs.Octets.{word_at, word_bytes, every}
use Rattle.terms.specs.Terms.{end_ref, link_ref}
use Rattle.schema.specs.Rules.{is_capital_or_digit}

-- ---- the four characters

-- "LKxx is its four characters", xx capitals or digits
abbrev pub spells_link : ℕ → Bool
spells_link v = eqb v (link_ref (v / 256 % 256) (v % 256)) && is_capital_or_digit (v / 256 % 256) && is_capital_or_digit (v % 256)

-- v is END. or an LKxx
unfoldable pub is_spelt : ℕ → Bool
is_spelt v = eqb v end_ref || spells_link v

-- ---- decimal numbers

abbrev pub is_digit : ℕ → Bool
is_digit x = leb 48 x && leb x 57

-- the number that digits spell, read onto n
unfoldable pub decimal_onto : ℕ → List ℕ → ℕ
decimal_onto n [] = n
decimal_onto n (x ∷ xs) = decimal_onto (n * 10 + (x - 48)) xs

abbrev pub decimal_of : List ℕ → ℕ
decimal_of f = decimal_onto 0 f

-- the digits of n in front of those behind it, at most k of them
unfoldable pub digits_onto : ℕ → ℕ → List ℕ → List ℕ
digits_onto zero n behind = behind
digits_onto (suc k) n behind = cond (ltb n 10) ((48 + n) ∷ behind) (digits_onto k (n / 10) ((48 + n % 10) ∷ behind))

-- a number of 64 bits has at most 20
abbrev pub decimal : ℕ → List ℕ
decimal n = digits_onto 20 n []

-- ---- a field that is read, and a reference that is printed

abbrev pub spells_four : List ℕ → Bool
spells_four f = eqb (length f) 4 && is_spelt (word_at f 0)

-- "decimal up to 4,294,967,295"
abbrev pub is_decimal : List ℕ → Bool
is_decimal f = not (eqb (length f) 0) && (every is_digit f && leb (decimal_of f) 4294967295)

abbrev pub is_reference : List ℕ → Bool
is_reference f = spells_four f || is_decimal f

abbrev pub reference_of : List ℕ → ℕ
reference_of f = cond (spells_four f) (word_at f 0) (decimal_of f)

abbrev pub written : ℕ → List ℕ
written v = cond (is_spelt v) (word_bytes v) (decimal v)
