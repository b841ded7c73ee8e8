-- Records shown as points, and a data base that the calls of condition 3 may meet.
use Rattle.std.specs.Prelude.{ℕ, ◌≡◌, true, List, [], ◌∷◌}
use Rattle.schema.specs.declared.Entry.{Entry}
use Rattle.schema.specs.Layout.{keeps_rules}
use Rattle.schema.specs.Decode.{schema_of}
use Rattle.records.specs.Areas.{area_of}
use Rattle.kept_state.specs.Rows.{World, Represents}
use Rattle.condition3.specs.Plain.{Point}

-- records shown as points: their numbers, and their areas as a read gives them
abbrev pub point_of : List ℕ → Entry → ℕ → Point
point_of b e r = record { number = r; area = area_of b e r }

abbrev pub shown : List ℕ → Entry → List ℕ → List Point
shown b e [] = []
shown b e (r ∷ rs) = point_of b e r ∷ shown b e rs

-- a schema that keeps the rules, and a data base under it that stands for the rows
pub record Ready (s b : List ℕ) (rows : ℕ → ℕ → List ℕ → List ℕ) : Type 0 where
  pub rules : keeps_rules s ≡ true
  pub world : World (schema_of s)
  pub stands : Represents (schema_of s) b rows
