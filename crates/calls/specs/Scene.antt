-- What a call speaks of: the schema, the set, the path and the master that its parameters name. Found before anything is tested: where a
-- name leads nowhere the scene holds what stands past a list's end, and a test of the ladder refuses the call.
use Rattle.std.specs.Prelude.{ℕ, cond}
use Rattle.terms.specs.declared.Operation.{Operation}
use Rattle.terms.specs.Operation.{operation_of}
use Rattle.schema.specs.declared.Path.{Path}
use Rattle.schema.specs.declared.Entry.{Entry}
use Rattle.schema.specs.declared.Schema.{Schema}
use Rattle.schema.specs.Decode.{entry_of, path_of, schema_of}
use Rattle.masters.specs.declared.Found.{Found}
use Rattle.masters.specs.Find.{find}
use Rattle.calls.specs.Call.{Call, one_of, variable_calls}
use Rattle.schema.specs.Naming.{set_named, path_named}

pub record Scene : Type 0 where
  pub schema : Schema
  pub operation : Operation
  -- the named set's entry number, set_count where there is none, and the set
  pub number : ℕ
  pub entry : Entry
  -- the named path's number in the set, its path count where there is none, and the path
  pub on : ℕ
  pub path : Path
  -- the set in which the control key is a master's: the named path's masters in a call on a variable set, else the named set itself
  pub masters : Entry
  pub found : Found

-- the scene once set and path are known
abbrev pub scene_on : Schema → Operation → ℕ → Entry → ℕ → Path → Entry → Call → Scene
scene_on t o n e j p x c =
    record {
      schema = t;
      operation = o;
      number = n;
      entry = e;
      on = j;
      path = p;
      masters = x;
      found = find c.base x c.key;
    }

abbrev pub scene_in : Schema → Operation → ℕ → Entry → Call → Scene
scene_in t o n e c =
    scene_on t o n e (path_named t e c.path) (path_of e (path_named t e c.path))
    (cond (one_of o variable_calls) (entry_of t (path_of e (path_named t e c.path)).master.0) e) c

unfoldable pub scene_under : Schema → Call → Scene
scene_under t c = scene_in t (operation_of c.operation) (set_named t c.name) (entry_of t (set_named t c.name)) c

abbrev pub scene_of : Call → Scene
scene_of c = scene_under (schema_of c.schema) c
