-- The rules that speak of two entries or of two slots, cut as the loops decide them.
use Rattle.std.specs.Prelude.{ℕ, Bool, not, ◌&&◌, List}
use Rattle.octets.specs.Octets.{same_bytes}
use Rattle.octets.specs.Below.{all_below}
use Rattle.schema.specs.Fields.{name_of}
use Rattle.schema.specs.Rules.{entry_rule, rest_rule, names_rule, clash, letters_rule}

-- entry i has not entry k's name
abbrev pub older : List ℕ → ℕ → ℕ → Bool
older s k i = not (same_bytes (name_of s i) (name_of s k))

-- the paths in slots p and q do not clash
abbrev pub apart : List ℕ → ℕ → ℕ → Bool
apart s q p = not (clash s p q)

-- what `form_rule` asks past the block and the head
abbrev pub body_rule : List ℕ → Bool
body_rule s = all_below (entry_rule s) 8 && rest_rule s && names_rule s && letters_rule s
