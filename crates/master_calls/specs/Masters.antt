-- Calls on masters: what they have found out when their set is known, and when their master is.
use Rattle.std.specs.Prelude.{ℕ, ◌<◌, ◌≡◌, true, false, cond, List, [], ◌∷◌, ltb, length, Result, Ok, Err}
use Rattle.terms.specs.declared.Status.{Status}
use Rattle.terms.specs.declared.Status.TheVariants.{Done}
use Rattle.terms.specs.declared.Refusal.{Refusal}
use Rattle.terms.specs.declared.Refusal.TheVariants.{Fntf, Kind}
use Rattle.terms.specs.declared.Operation.{Operation}
use Rattle.terms.specs.declared.Operation.TheVariants.{AddM}
use Rattle.schema.specs.declared.Entry.{Entry}
use Rattle.schema.specs.declared.Schema.{Schema}
use Rattle.schema.specs.Decode.{entry_of, set_count}
use Rattle.records.specs.Areas.{is_master, area_length}
use Rattle.calls.specs.Call.{Call, one_of, master_calls, variable_calls, whole_calls}
use Rattle.calls.specs.Scene.{scene_under}
use Rattle.calls.specs.Ladder.{finders, needers}
use Rattle.forms.specs.Form.{rungs_of, form_status}
use Rattle.master_calls.specs.declared.Placed.{Placed}
use Rattle.ends.specs.Ends.{Ends}
use Rattle.ends.specs.Asks.{Asks, placed_status, placed_outcome}

-- ---- which operations

-- a call on masters: the tests that it has and those that it has not
pub record MasterCall (o : Operation) : Type 0 where
  pub on-set : one_of o whole_calls ≡ false
  pub of_masters : one_of o master_calls ≡ true
  pub of_no_path : one_of o variable_calls ≡ false
  pub of_no_link : (rungs_of o).link ≡ false
  pub of_a-key : (rungs_of o).key ≡ true

-- one that asks for its master
pub record NamedCall (o : Operation) : Type 0 where
  pub call : MasterCall o
  pub finds : one_of o finders ≡ true
  pub needs_it : one_of o needers ≡ true
  pub adds_none : one_of o (AddM ∷ []) ≡ false
  pub of_no_number : (rungs_of o).number ≡ false

-- ---- what is known

-- of the set: it is the schema's n-th, one of masters, and the parameters have its lengths
pub record SetKnown (t : Schema) (o : Operation) (k a : List ℕ) (n : ℕ) (e : Entry) : Type 0 where
  pub among : n < t.masters
  pub here : e ≡ entry_of t n
  pub key : length k ≡ e.key
  pub area : (rungs_of o).area ≡ true → length a ≡ area_length e

-- the call's scene is on this set
pub record OnSet (t : Schema) (c : Call) (n : ℕ) (e : Entry) : Type 0 where
  pub number : (scene_under t c).number ≡ n
  pub entry : (scene_under t c).entry ≡ e
  pub masters : (scene_under t c).masters ≡ e
  pub edition : (scene_under t c).schema.edition ≡ e.edition

-- 4 and 5, on set number i: a number that no set has is refused
abbrev pub placed_at : Schema → ℕ → Result Placed Refusal
placed_at t i =
    cond (ltb i (set_count t))
    (cond (is_master (entry_of t i)) (Ok (record { number = record { 0 = i }; entry = entry_of t i })) (Err Kind))
    (Err Fntf)

-- and 7 to 11 by form there
abbrev pub formed_in : Operation → Entry → ℕ → List ℕ → List ℕ → Status
formed_in o e r key area = form_status o e 0 0 e.key r key area

-- what every call on a set that is placed, asking with these parameters, has come to; and what is known where that is done
pub record Places (t : Schema) (o : Operation) (n : List ℕ) (r : ℕ) (k a : List ℕ) (p : Placed) (s : Status) : Type 0 where
  pub status : (c : Call) → Asks c o n r k a c.base → s ≡ placed_status t c
  pub on-set : s ≡ Done → (c : Call) → Asks c o n r k a c.base → OnSet t c p.number.0 p.entry
  pub known : s ≡ Done → SetKnown t o k a p.number.0 p.entry

-- every call on this set comes to this, whatever the schema
pub record AnswersOn (o : Operation) (e : Entry) (r : ℕ) (k a b : List ℕ) (s : Status) (q : ℕ) (new after : List ℕ) : Type 0 where
  pub told : (t : Schema) (c : Call) (n : ℕ) → Asks c o c.name r k a b → OnSet t c n e → Ends (placed_outcome t c) s q new after

-- the same of every call on set number n of the schema t
pub record AnswersIn (t : Schema) (n : ℕ) (o : Operation) (e : Entry) (r : ℕ) (k a b : List ℕ) (s : Status) (q : ℕ) (new after : List ℕ) : Type 0 where
  pub told : (c : Call) → Asks c o c.name r k a b → OnSet t c n e → Ends (placed_outcome t c) s q new after
