-- What a function of the store is given: a decoded schema with its base, and the parameters of the call that it speaks of. The scene of a
-- call under the schema is `scene_under t c`.
use Rattle.std.specs.Prelude.{ℕ, ◌≡◌, List}
use Rattle.terms.specs.declared.Status.{Status}
use Rattle.terms.specs.declared.Operation.{Operation}
use Rattle.terms.specs.Operation.{operation_of}
use Rattle.schema.specs.declared.Schema.{Schema}
use Rattle.calls.specs.Call.{Call, Outcome}
use Rattle.calls.specs.Scene.{scene_under}
use Rattle.calls.specs.Ladder.{place_rungs, form_rungs, seek_rungs, rest_rungs, refusal}
use Rattle.ends.specs.Ends.{Ends}
use Rattle.calls.specs.Outcome.{answered}
use Rattle.terms.specs.Status.{first_of}

-- the call c asks for the operation o, with this name, reference, key, area and base
pub record Asks (c : Call) (o : Operation) (n : List ℕ) (r : ℕ) (k a b : List ℕ) : Type 0 where
  pub operation : operation_of c.operation ≡ o
  pub name : c.name ≡ n
  pub reference : c.reference ≡ r
  pub key : c.key ≡ k
  pub area : c.area ≡ a
  pub base : c.base ≡ b

-- ---- behind the general tests

-- which set and path, and the forms of the parameters
abbrev pub placed_status : Schema → Call → Status
placed_status t c = first_of (refusal (scene_under t c) c place_rungs) (refusal (scene_under t c) c form_rungs)

-- what the call comes to, behind the general tests; and once set, path and forms are right
unfoldable pub past_general : Schema → Call → Outcome
past_general t c =
    answered (scene_under t c) c
    (first_of (placed_status t c) (first_of (refusal (scene_under t c) c seek_rungs) (refusal (scene_under t c) c (rest_rungs (scene_under t c)))))

unfoldable pub placed_outcome : Schema → Call → Outcome
placed_outcome t c = answered (scene_under t c) c (first_of (refusal (scene_under t c) c seek_rungs) (refusal (scene_under t c) c (rest_rungs (scene_under t c))))

-- every call that asks with these parameters comes to this status and reference, this area and this base
pub record Answers (t : Schema) (o : Operation) (n : List ℕ) (r : ℕ) (k a b : List ℕ) (s : Status) (q : ℕ) (new after : List ℕ) : Type 0 where
  pub told : (c : Call) → Asks c o n r k a b → Ends (past_general t c) s q new after
