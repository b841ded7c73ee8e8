-- RDNXT: what it has found out when its set is known, and what it comes to.
use Rattle.std.specs.Prelude.{ℕ, ◌*◌, ◌≤◌, ◌≡◌, cond, List, ltb, length, Result, Ok, Err}
use Rattle.terms.specs.declared.Status.{Status}
use Rattle.terms.specs.declared.Status.TheVariants.{Done}
use Rattle.terms.specs.declared.Refusal.{Refusal}
use Rattle.terms.specs.declared.Refusal.TheVariants.{Fntf}
use Rattle.terms.specs.declared.Operation.TheVariants.{Rdnxt}
use Rattle.schema.specs.declared.Entry.{Entry}
use Rattle.schema.specs.declared.Schema.{Schema}
use Rattle.schema.specs.Decode.{entry_of, set_count}
use Rattle.records.specs.Areas.{area_length}
use Rattle.calls.specs.Call.{Call}
use Rattle.calls.specs.Scene.{scene_under}
use Rattle.forms.specs.Form.{form_status}
use Rattle.records.specs.InBase.{IsSetOf}
use Rattle.ends.specs.Ends.{Ends}
use Rattle.ends.specs.Asks.{Asks, placed_status, placed_outcome}

-- what is known once the forms are right: the reference is 0 or a record of the set, and the area has its length
pub record SetSwept (t : Schema) (r : ℕ) (a : List ℕ) (e : Entry) : Type 0 where
  pub set : IsSetOf t e (512 * t.blocks)
  pub reference : r ≤ e.records
  pub area : length a ≡ area_length e

-- 4, on set number i: a number that no set has is refused
abbrev pub swept_at : Schema → ℕ → Result Entry Refusal
swept_at t i = cond (ltb i (set_count t)) (Ok (entry_of t i)) (Err Fntf)

-- and 7 and 11 by form there
abbrev pub formed_any : Entry → ℕ → List ℕ → List ℕ → Status
formed_any e r key area = form_status Rdnxt e 0 0 e.key r key area

-- what every RDNXT on a set that is there, asking with these parameters, has come to; and what is known where that is done
pub record Sweeps (t : Schema) (n : List ℕ) (r : ℕ) (k a : List ℕ) (e : Entry) (s : Status) : Type 0 where
  pub status : (c : Call) → Asks c Rdnxt n r k a c.base → s ≡ placed_status t c
  pub on-set : s ≡ Done → (c : Call) → Asks c Rdnxt n r k a c.base → (scene_under t c).entry ≡ e
  pub known : s ≡ Done → SetSwept t r a e

-- every RDNXT on this set comes to this, whatever the schema and the key
pub record SweptOn (e : Entry) (r : ℕ) (a b : List ℕ) (s : Status) (q : ℕ) (new after : List ℕ) : Type 0 where
  pub told : (t : Schema) (c : Call) (k : List ℕ) → Asks c Rdnxt c.name r k a b → (scene_under t c).entry ≡ e → Ends (placed_outcome t c) s q new after
