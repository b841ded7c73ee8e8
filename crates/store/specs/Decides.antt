-- What the functions of the store answer: the outcome of every call that asks with their parameters. The words of their contracts.
use Rattle.std.specs.Prelude.{ℕ, ◌≡◌, true, List}
use Rattle.terms.specs.declared.Status.{Status}
use Rattle.terms.specs.declared.Operation.{Operation}
use Rattle.schema.specs.declared.Schema.{Schema}
use Rattle.schema.specs.Decode.{schema_of}
use Rattle.schema.specs.Layout.{keeps_rules}
use Rattle.calls.specs.Call.{Call}
use Rattle.calls.specs.Outcome.{outcome}
use Rattle.ends.specs.Ends.{Ends}
use Rattle.ends.specs.Asks.{Asks, past_general, placed_outcome}
use Rattle.point_calls.specs.declared.Located.{Located}
use Rattle.point_calls.specs.OnPath.{OnPath}

-- the outcome of every call that asks with these parameters, under a schema that keeps the rules
pub record Decides (t : Schema) (o : Operation) (n : List ℕ) (r : ℕ) (p k a b : List ℕ) (s : Status) (q : ℕ) (new after : List ℕ) : Type 0 where
  pub told : (c : Call) → Asks c o n r k a b → c.path ≡ p → keeps_rules c.schema ≡ true → schema_of c.schema ≡ t → Ends (outcome c) s q new after

-- the same of a call on points, which names a path
pub record AnswersNamed (t : Schema) (o : Operation) (n p : List ℕ) (r : ℕ) (k a b : List ℕ) (s : Status) (q : ℕ) (new after : List ℕ) : Type 0 where
  pub told : (c : Call) → Asks c o n r k a b → c.path ≡ p → Ends (past_general t c) s q new after

-- and of one whose set and path are located
pub record AnswersUnder (t : Schema) (o : Operation) (l : Located) (r : ℕ) (k a b : List ℕ) (s : Status) (q : ℕ) (new after : List ℕ) : Type 0 where
  pub told : (c : Call) → Asks c o c.name r k a b → OnPath t c l.number.0 l.entry l.on l.path l.masters → Ends (placed_outcome t c) s q new after
