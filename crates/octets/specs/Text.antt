-- The bytes of a quoted text, so that names and codes of document 01 stand in the definitions as they are spelt.
use Rattle.std.specs.Prelude.{ℕ, List, [] as []ᴸ, ◌∷◌ as ◌∷ᴸ◌}
use Prim.Native.Char.{code}
use Prim.Native.String.{String, [], ◌∷◌}

-- each character's number: for the characters used here, its ASCII byte
abbrev pub text : String → List ℕ
text [] = []ᴸ
text (c ∷ s) = code c ∷ᴸ text s
