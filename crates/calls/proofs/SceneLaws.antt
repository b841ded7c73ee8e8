-- What the scene of a call holds, part by part.
use Rattle.std.specs.Prelude.{ℕ, ◌<◌, ◌≡◌}
use Rattle.std.proofs.Math.Path.{refl}
use Rattle.terms.specs.Operation.{operation_of}
use Rattle.schema.specs.declared.Schema.{Schema}
use Rattle.schema.specs.Decode.{entry_of, path_of, set_count}
use Rattle.schema.specs.Guarantee.{SchemaOk}
use Rattle.masters.specs.Find.{find}
use Rattle.calls.specs.Call.{Call}
use Rattle.calls.specs.Scene.{scene_under}
use Rattle.schema.specs.Naming.{set_named, path_named}

module _ (t : Schema) (c : Call) where
  pub schema-here : (scene_under t c).schema ≡ t
  unfolding scene_under
  schema-here = refl

  -- every set has the schema's edition
  pub edition-here : SchemaOk t → (i : ℕ) → i < set_count t → (scene_under t c).schema.edition ≡ (entry_of t i).edition
  edition-here ok i l = rw (schema-here, (ok.set i l).edition) refl

  pub operation-here : (scene_under t c).operation ≡ operation_of c.operation
  unfolding scene_under
  operation-here = refl

  pub number-here : (scene_under t c).number ≡ set_named t c.name
  unfolding scene_under
  number-here = refl

  pub entry_here : (scene_under t c).entry ≡ entry_of t (set_named t c.name)
  unfolding scene_under
  entry_here = refl

  pub on-here : (scene_under t c).on ≡ path_named t (entry_of t (set_named t c.name)) c.path
  unfolding scene_under
  on-here = refl

  pub path_here : (scene_under t c).path ≡ path_of (entry_of t (set_named t c.name)) (path_named t (entry_of t (set_named t c.name)) c.path)
  unfolding scene_under
  path_here = refl

  pub found_here : (scene_under t c).found ≡ find c.base (scene_under t c).masters c.key
  unfolding scene_under
  found_here = refl
