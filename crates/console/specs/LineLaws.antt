-- The laws of a line's fields: in which order their ends lie, and names copied whole.
use Rattle.std.specs.Prelude.{ℕ, zero, suc, ◌+◌, ◌-◌, ◌≤◌, ◌<◌, ◌≡◌, refl, Bool, List, eqb, length, true, false, ◌||◌}
use Rattle.std.proofs.Common.{sym, arith, add-one, ◌∙◌, eqb-true}
use Rattle.octets.specs.Octets.{byte_at}
use Rattle.octets.specs.BelowLaws.{lowest_from_ge, lowest_from_le}
use Rattle.console.specs.Lines.{end_from, end_of, start_of, is_dash, is_name}

-- ---- ends

abbrev blank_at : List ℕ → ℕ → Bool
blank_at line i = eqb (byte_at line i) 32

pub end_from_ge : (line : List ℕ) (at : ℕ) → at ≤ end_from line at
end_from_ge line at = lowest_from_ge (blank_at line) (length line - at) at

pub end_from_le : (line : List ℕ) (at : ℕ) → end_from line at ≤ at + (length line - at)
end_from_le line at = lowest_from_le (blank_at line) (length line - at) at

pub end_of-turn : (line : List ℕ) (k : ℕ) → end_from line (end_of line k + 1) ≡ end_of line (k + 1)
unfolding end_of
end_of-turn line k = sym (rw (add-one k) refl)

pub end_of_le : (line : List ℕ) (k : ℕ) → end_of line k ≤ length line + k
unfolding end_of
end_of_le line zero = omega (arith, end_from_le line 0)
end_of_le line (suc k) = omega (arith, end_from_le line (end_of line k + 1), end_of_le line k)

-- one end behind the other
pub end_of-next : (line : List ℕ) (k : ℕ) → end_of line k < end_of line (suc k)
unfolding end_of
end_of-next line k = omega (arith, end_from_ge line (end_of line k + 1))

pub start_end : (line : List ℕ) (k : ℕ) → start_of line k ≤ end_of line k
start_end line zero = omega arith
start_end line (suc k) = omega (arith, end_of-next line k)

-- no field of six ends behind the sixth
pub end_of-last : (line : List ℕ) (k : ℕ) → k ≤ 5 → end_of line k ≤ end_of line 5
end_of-last line zero h = omega (arith, end_of-next line 0, end_of-next line 1, end_of-next line 2, end_of-next line 3, end_of-next line 4)
end_of-last line (suc zero) h = omega (arith, end_of-next line 1, end_of-next line 2, end_of-next line 3, end_of-next line 4)
end_of-last line (suc (suc zero)) h = omega (arith, end_of-next line 2, end_of-next line 3, end_of-next line 4)
end_of-last line (suc (suc (suc zero))) h = omega (arith, end_of-next line 3, end_of-next line 4)
end_of-last line (suc (suc (suc (suc zero)))) h = omega (arith, end_of-next line 4)
end_of-last line (suc (suc (suc (suc (suc zero))))) h = omega arith
end_of-last line (suc (suc (suc (suc (suc (suc k)))))) h = absurd (omega arith)

-- a field that is not the first begins behind the end of the one before it
pub start_behind : (line : List ℕ) (k : ℕ) → (k ≡ 0 → ⊥) → end_of line (k - 1) + 1 ≡ start_of line k
start_behind line zero h = absurd (h refl)
start_behind line (suc k) h = let e : suc k - 1 ≡ k = omega arith in rw e refl

-- ---- names

-- a name that is not "-" has its length
or_left : (a b : Bool) → (a || b) ≡ true → b ≡ false → a ≡ true
or_left true b h e = refl
or_left false b h e = sym e ∙ h

pub name-length : (n : ℕ) (f : List ℕ) → is_name n f ≡ true → is_dash f ≡ false → length f ≡ n
name-length n f h e = eqb-true (length f) n (or_left (eqb (length f) n) (is_dash f) h e)
