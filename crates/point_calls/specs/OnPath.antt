-- Calls on points: what they have found out when their set and path are known, and when their master and the referenced record are.
use Rattle.std.specs.Prelude.{ℕ, ◌≤◌, ◌<◌, ◌≡◌, Bool, true, false, cond, not, ◌&&◌, ◌||◌, List, [], ◌∷◌, ◌⊎◌, eqb, ltb, length, Result, Ok, Err}
use Rattle.terms.specs.declared.Status.{Status}
use Rattle.terms.specs.declared.Status.TheVariants.{Done, Ivrp, Mrnf, Damg}
use Rattle.terms.specs.declared.Refusal.{Refusal}
use Rattle.terms.specs.declared.Refusal.TheVariants as refusal
use Rattle.terms.specs.declared.Operation.{Operation}
use Rattle.terms.specs.declared.Operation.TheVariants.{AddM, Readv, Readr, Addvc, Addvb, Addva}
use Rattle.terms.specs.declared.RecordNo.{RecordNo}
use Rattle.schema.specs.declared.Path.{Path}
use Rattle.schema.specs.declared.Entry.{Entry}
use Rattle.schema.specs.declared.Schema.{Schema}
use Rattle.schema.specs.Decode.{entry_of, path_of, set_count, masters_on}
use Rattle.schema.specs.Place.{InSet}
use Rattle.records.specs.Records.{first_on, last_on, prior_on, next_on}
use Rattle.records.specs.Areas.{is_master, area_length, area_key_on}
use Rattle.masters.specs.declared.Found.TheVariants.{At}
use Rattle.masters.specs.Find.{find, is_missing, is_damaged, named_master}
use Rattle.points.specs.declared.Spot.{Spot}
use Rattle.points.specs.declared.Spot.TheVariants.{Last, After, Before}
use Rattle.points.specs.Chains.{is_point_of}
use Rattle.records.specs.InBase.{MastersOf}
use Rattle.point_plans.specs.Within.{SpotIn}
use Rattle.calls.specs.Call.{Call, one_of, master_calls, variable_calls, whole_calls}
use Rattle.calls.specs.Scene.{scene_under}
use Rattle.schema.specs.Naming.{path_named, link_of}
use Rattle.calls.specs.Ladder.{finders, needers}
use Rattle.calls.specs.Reply.{spot_of}
use Rattle.forms.specs.Form.{rungs_of, form_status}
use Rattle.ends.specs.Ends.{Ends}
use Rattle.ends.specs.Asks.{Asks, placed_status, placed_outcome}
use Rattle.point_calls.specs.declared.Located.{Located}

-- ---- which operations

-- a call on points: the tests that it has and those that it has not
pub record PointCall (o : Operation) : Type 0 where
  pub on-set : one_of o whole_calls ≡ false
  pub of_no_masters : one_of o master_calls ≡ false
  pub of_points : one_of o variable_calls ≡ true
  pub of_a-key : (rungs_of o).key ≡ true
  pub finds : one_of o finders ≡ true
  pub needs_it : one_of o needers ≡ true
  pub adds_none : one_of o (AddM ∷ []) ≡ false

-- READV goes forward, READR back
abbrev pub read_by : Bool → Operation
read_by back = cond back Readr Readv

-- the add that puts its record there
abbrev pub add_at : Spot → Operation
add_at Last = Addvc
add_at (Before r) = Addvb
add_at (After r) = Addva

-- does the call look at the referenced record? READV and READR do where the reference is not the path's LKxx
abbrev pub looks_at : Operation → Path → ℕ → Bool
looks_at o p r = (rungs_of o).number || (rungs_of o).link && not (eqb r (link_of p))

-- ---- what is known

-- of set and path, once the parameters' forms are right: the set is the schema's n-th, one of points, and `j` a path of it; x are the
-- path's masters. `r` is the reference, `k` the control key, `a` the area.
pub record PathKnown (t : Schema) (o : Operation) (r : ℕ) (k a : List ℕ) (n : ℕ) (e : Entry) (j : ℕ) (p : Path) (x : Entry) : Type 0 where
  pub behind : t.masters ≤ n
  pub among : n < set_count t
  pub here : e ≡ entry_of t n
  pub on : j < e.count
  pub path : p ≡ path_of e j
  pub masters : x ≡ entry_of t p.master.0
  pub key : length k ≡ x.key
  pub area : (rungs_of o).area ≡ true → length a ≡ area_length e
  pub same : (rungs_of o).same ≡ true → area_key_on e a j ≡ k
  pub number : (rungs_of o).number ≡ true → InSet e r
  pub link : (rungs_of o).link ≡ true → (r ≡ link_of p) ⊎ InSet e r

-- the call's scene is on this path of this set
pub record OnPath (t : Schema) (c : Call) (n : ℕ) (e : Entry) (j : ℕ) (p : Path) (x : Entry) : Type 0 where
  pub number : (scene_under t c).number ≡ n
  pub entry : (scene_under t c).entry ≡ e
  pub on : (scene_under t c).on ≡ j
  pub path : (scene_under t c).path ≡ p
  pub masters : (scene_under t c).masters ≡ x
  pub edition : (scene_under t c).schema.edition ≡ e.edition

-- 6, on path j of the points e, which are set number i
abbrev pub taken_on : Schema → ℕ → Entry → ℕ → Result Located Refusal
taken_on t i e j =
    cond (ltb j e.count)
    (Ok (record {
      number = record { 0 = i };
      entry = e;
      on = j;
      path = path_of e j;
      masters = masters_on t e j;
    }))
    (Err refusal.Path)

-- 4 to 6, on set number i, with the path named by w: a number that no set has is refused
abbrev pub located_at : Schema → ℕ → List ℕ → Result Located Refusal
located_at t i w =
    cond (ltb i (set_count t))
    (cond (is_master (entry_of t i)) (Err refusal.Kind) (taken_on t i (entry_of t i) (path_named t (entry_of t i) w)))
    (Err refusal.Fntf)

-- and 7 to 11 by form there
abbrev pub formed_on : Operation → Located → ℕ → List ℕ → List ℕ → Status
formed_on o l r k a = form_status o l.entry l.on (link_of l.path) l.masters.key r k a

-- what every call on a path that is located, asking with these parameters and naming the path by w, has come to; and what is known where
-- that is done
pub record Locates (t : Schema) (o : Operation) (n w : List ℕ) (r : ℕ) (k a : List ℕ) (l : Located) (s : Status) : Type 0 where
  pub status : (c : Call) → Asks c o n r k a c.base → c.path ≡ w → s ≡ placed_status t c
  pub on-path : s ≡ Done → (c : Call) → Asks c o n r k a c.base → c.path ≡ w
      → OnPath t c l.number.0 l.entry l.on l.path l.masters
  pub known : s ≡ Done → PathKnown t o r k a l.number.0 l.entry l.on l.path l.masters

-- ---- the named master and the referenced record

-- "find the named master (16, then 12)", then 11: "the reference .. is not a live record of that key", where the call looks at it
unfoldable pub seek_status : List ℕ → Entry → Path → Entry → ℕ → List ℕ → Bool → Status
seek_status b e p x r key looks =
    cond (is_damaged (find b x key)) Damg (cond (is_missing (find b x key)) Mrnf (cond (looks && not (is_point_of b e p key r)) Ivrp Done))

-- that status as a refusal, or the master's record
abbrev pub looked_at : Bool → Result RecordNo Refusal → Result RecordNo Refusal
looked_at other (Ok m) = cond other (Err refusal.Ivrp) (Ok m)
looked_at other (Err why) = Err why

abbrev pub sighted_of : List ℕ → Entry → Path → Entry → ℕ → List ℕ → Bool → Result RecordNo Refusal
sighted_of b e p x r key looks = looked_at (looks && not (is_point_of b e p key r)) (named_master (find b x key))

-- it is done: the master is there, and so is the referenced record where it is looked at
pub record Seen (b : List ℕ) (e : Entry) (p : Path) (x : Entry) (r : ℕ) (key : List ℕ) (looks : Bool) (m : RecordNo) : Type 0 where
  pub status : seek_status b e p x r key looks ≡ Done
  pub master : find b x key ≡ At m

-- ---- what a read uses

-- "READV first or next, READR last or prior": the first of each with LKxx
abbrev pub pointer_on : Bool → List ℕ → Entry → Path → Entry → ℕ → ℕ → Bool → ℕ
pointer_on back b e p x m r linked = cond linked (cond back (last_on b x m p) (first_on b x m p)) (cond back (prior_on b e r p) (next_on b e r p))

-- ---- what the calls that store bring

-- is the spot beside a record, so that the add looks at it?
abbrev pub is_beside : Spot → Bool
is_beside Last = false
is_beside (After r) = true
is_beside (Before r) = true

-- an add's spot, on a path p of the points e, with the reference r
pub record Spotted (spot : Spot) (e : Entry) (p : Path) (r : ℕ) : Type 0 where
  pub by-reference : spot ≡ spot_of (add_at spot) r
  pub in_set : SpotIn spot e
  pub look : is_beside spot ≡ looks_at (add_at spot) p r
  pub looked : is_beside spot ≡ true → InSet e r

-- ---- how a call ends

-- every call on this path comes to this, whatever the schema and the path's number
pub record AnswersOnPath (o : Operation) (e : Entry) (p : Path) (x : Entry) (r : ℕ) (k a b : List ℕ) (s : Status) (q : ℕ) (new after : List ℕ) : Type 0 where
  pub told : (t : Schema) (c : Call) (n on : ℕ) → Asks c o c.name r k a b → OnPath t c n e on p x → Ends (placed_outcome t c) s q new after

-- every call on path number `on`, where `all` are the masters of every path: the adds and DELVD go to those of the other paths
pub record AnswersAmong (o : Operation) (e : Entry) (on : ℕ) (p : Path) (x : Entry) (all : List Entry) (r : ℕ) (k a b : List ℕ) (s : Status) (q : ℕ) (new after : List ℕ) : Type 0 where
  pub told : (t : Schema) (c : Call) (n : ℕ) → Asks c o c.name r k a b → OnPath t c n e on p x → MastersOf t e all → Ends (placed_outcome t c) s q new after
