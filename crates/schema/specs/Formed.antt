-- What a schema that keeps the rules of its form has: what decoding it stands on. FormFacts reads it out of the rules.
use Rattle.std.specs.Prelude.{ℕ, ◌≤◌, ◌<◌, ◌≡◌, List, length}
use Rattle.schema.specs.Fields.{masters_of, variables_of, sets_of, count_of, records_of, master_of}

-- M and V
pub record HeadFormed (s : List ℕ) : Type 0 where
  pub some : 1 ≤ masters_of s
  pub masters : masters_of s ≤ 4
  pub variables : variables_of s ≤ 4

-- a used entry: its path count, R, and where its paths lead
pub record SetFormed (s : List ℕ) (i : ℕ) : Type 0 where
  pub few : count_of s i ≤ 4
  pub some : 1 ≤ records_of s i
  pub many : records_of s i ≤ 65535
  pub leads : (j : ℕ) → j < count_of s i → master_of s i j < masters_of s

-- the whole schema: what decoding it stands on
pub record Formed (s : List ℕ) : Type 0 where
  pub long : length s ≡ 512
  pub head : HeadFormed s
  pub set : (i : ℕ) → i < sets_of s → SetFormed s i
