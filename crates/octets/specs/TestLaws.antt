-- Tests that are Booleans: what follows from a test of two parts.
use Rattle.std.specs.Prelude.{◌≡◌, ℕ, Bool, true, false, ◌&&◌, ◌||◌, ◌⊎◌, ◌≢◌, refl}
use Rattle.std.proofs.Common.{inl, inr, arith}

pub never_both : (t : Bool) → t ≡ true → t ≢ false
never_both t p q = let z : ◌≡◌ {A = ℕ} 0 1 = cc in omega arith

-- a test that was asked, and passed
pub asked : (a b : Bool) → (a && b) ≡ false → a ≡ true → b ≡ false
asked true b h e = h
asked false b h e = absurd (never_both false e refl)

-- one of the two holds
pub either_left : (a b : Bool) → a ≡ true → (a || b) ≡ true
either_left a b h = rw h

pub either-right : (a b : Bool) → b ≡ true → (a || b) ≡ true
either-right true b h = refl
either-right false b h = h

pub either : (a b : Bool) → (a || b) ≡ true → (a ≡ true) ⊎ (b ≡ true)
either true b h = inl refl
either false b h = inr h

-- neither holds
pub neither : (a b : Bool) → (a || b) ≡ false → (a ≡ false) × (b ≡ false)
neither true b h = absurd (never_both true refl h)
neither false b h = (refl, h)
