-- What the C entries to the leaves answer, in the words of the definitions that they show.
use Rattle.std.specs.Prelude.{ℕ, cond, List, eqb, ltb, length}
use Rattle.octets.specs.Octets.{word_at, set_word}
use Rattle.blocks.specs.declared.Check.{Check}
use Rattle.blocks.specs.Blocks.{check_of}
use Rattle.schema.specs.declared.Entry.{Entry}
use Rattle.schema.specs.declared.Schema.{Schema}
use Rattle.schema.specs.Layout.{keeps_rules, total_blocks}
use Rattle.schema.specs.Decode.{schema_of, entry_of, set_count}
use Rattle.schema.specs.Place.{in_set, place_of}

-- T of a schema; 0 where it breaks a rule
unfoldable pub blocks_in : List ℕ → ℕ
blocks_in s = cond (keeps_rules s) (total_blocks s) 0

-- no place
abbrev pub nowhere : ℕ
nowhere = 18446744073709551615

-- where record r of a set begins, of entry i of a schema, and of a schema buffer
unfoldable pub place_in_set : Entry → ℕ → ℕ
place_in_set e r = cond (in_set e r) (place_of e r) nowhere

unfoldable pub place_under : Schema → ℕ → ℕ → ℕ
place_under t i r = cond (ltb i (set_count t)) (place_in_set (entry_of t i) r) nowhere

unfoldable pub place_in : List ℕ → ℕ → ℕ → ℕ
place_in s i r = cond (keeps_rules s) (place_under (schema_of s) i r) nowhere

-- one block with its number, of a kind of check: whether its check is true, and the block with its check set
unfoldable pub sealed_alone : Check → List ℕ → ℕ → ℕ
sealed_alone k block n = cond (eqb (length block) 512) (cond (eqb (word_at block 508) (check_of k block n)) 1 0) 0

unfoldable pub seal_alone : Check → List ℕ → ℕ → List ℕ
seal_alone k block n = cond (eqb (length block) 512) (set_word block 508 (check_of k block n)) block

unfoldable pub seal_answer : List ℕ → ℕ
seal_answer block = cond (eqb (length block) 512) 1 0
