-- Calls on masters, step by step down the ladder: the set, the forms of the parameters, the master.
use Rattle.std.specs.Prelude.{ℕ, ◌≡◌, Bool, true, false, cond, not, ◌||◌, List, [], ltb, Result, Ok, Err}
use Rattle.std.proofs.Math.Path.{refl}
use Rattle.std.proofs.Common.{sym, ap, ◌∙◌, arith, ltb-true}
use Rattle.octets.specs.Octets.{word_bytes}
use Rattle.octets.specs.Text.{text}
use Rattle.terms.specs.declared.Status.{Status}
use Rattle.terms.specs.declared.Status.TheVariants.{Done, Fntf, Kind, Mrnf, Dupm, Damg}
use Rattle.terms.specs.declared.Operation.{Operation}
use Rattle.terms.specs.declared.Operation.TheVariants.{AddM, DelM, Readm, Writm, Rqloc}
use Rattle.terms.specs.declared.RecordNo.{RecordNo}
use Rattle.terms.specs.declared.Refusal.{Refusal}
use Rattle.terms.specs.declared.Refusal.TheVariants as refusal
use Rattle.terms.specs.Status.{status_by}
use Rattle.terms.specs.Operation.{operation_of}
use Rattle.schema.specs.declared.Entry.{Entry}
use Rattle.schema.specs.declared.Schema.{Schema}
use Rattle.schema.specs.Decode.{entry_of, set_count}
use Rattle.schema.specs.Guarantee.{SchemaOk}
use Rattle.records.proofs.KindLaws.{among-masters}
use Rattle.records.specs.Areas.{is_master}
use Rattle.masters.specs.declared.Found.{Found}
use Rattle.masters.specs.declared.Found.TheVariants.{At, Missing, Damaged}
use Rattle.masters.specs.Find.{find, is_at, is_missing, is_damaged}
use Rattle.calls.proofs.SceneLaws.{operation-here, number-here, edition-here, entry_here}
use Rattle.calls.specs.Call.{Call, Outcome, call_of}
use Rattle.calls.specs.Scene.{scene_under}
use Rattle.schema.specs.Naming.{set_named, link_of}
use Rattle.schema.proofs.NamingLaws.{set_named_lem}
use Rattle.calls.specs.Ladder.{wrong_kind, place_rungs, form_rungs, seek_rungs, rest_rungs, refusal}
use Rattle.calls.specs.Outcome.{answered}
use Rattle.forms.specs.Form.{form_status}
use Rattle.forms.specs.FormLaws.{form-tests, form-link, form-on}
use Rattle.master_calls.specs.declared.Placed.{Placed}
use Rattle.ends.specs.AsksLaws.{operation_letters, letters-ask, someone_asks, found_among, seek-refuses, seek-passes}
use Rattle.ends.specs.FormFacts.{key-length, area-length}
use Rattle.ends.specs.Asks.{Asks, placed_status, placed_outcome}
use Rattle.records.specs.InBase.{Laid, IsMasterSet}
use Rattle.records.specs.Fields.{Fields}
use Rattle.ends.specs.Ends.{Ends}
use Rattle.master_calls.specs.Masters.{MasterCall, NamedCall, SetKnown, OnSet, placed_at, formed_in, Places}

or_none_lem : (b : Bool) (s t : Status) → cond (b || false) s t ≡ cond b s t
or_none_lem true s t = refl
or_none_lem false s t = refl

-- the set of the call's name
module _ (t : Schema) (c : Call) (o : Operation) (k : MasterCall o) (q : operation_of c.operation ≡ o) where
  -- 4 and 5
  pub place-masters : refusal (scene_under t c) c place_rungs
      ≡ cond (not (ltb (set_named t c.name) (set_count t))) Fntf (cond (not (is_master (entry_of t (set_named t c.name)))) Kind Done)
  unfolding scene_under refusal wrong_kind
  place-masters = rw (q, k.on-set, k.of_masters, k.of_no_path) (ap (cond (not (ltb (set_named t c.name) (set_count t))) Fntf) (or_none_lem (not (is_master (entry_of t (set_named t c.name)))) Kind Done))

  pub masters-here : (scene_under t c).masters ≡ entry_of t (set_named t c.name)
  unfolding scene_under
  masters-here = rw (q, k.of_no_path) refl

  -- 7 to 11 by form
  pub form-masters : is_master (entry_of t (set_named t c.name)) ≡ true
      → refusal (scene_under t c) c form_rungs
      ≡ form_status o (entry_of t (set_named t c.name)) 0 0 (entry_of t (set_named t c.name)).key c.reference c.key c.area
  unfolding scene_under
  form-masters m =
      let e = entry_of t (set_named t c.name) in
      form-tests (scene_under t c) c
      ∙ (rw (q, k.of_no_path) (form-on o e e.key c.reference c.key c.area _ 0 (link_of (scene_under t c).path) m
      ∙ form-link o e e.key c.reference c.key c.area 0 _ 0 k.of_no_link))

-- ---- the set that a call speaks of

module _ (t : Schema) (o : Operation) (n : List ℕ) (r : ℕ) (key area : List ℕ) (k : MasterCall o) where
  abbrev i : ℕ
  i = set_named t n

  abbrev e : Entry
  e = entry_of t (set_named t n)

  -- what every call that asks so has of the tests
  first_two : (c : Call) → Asks c o n r key area c.base → refusal (scene_under t c) c place_rungs ≡ cond (not (ltb i (set_count t))) Fntf (cond (not (is_master e)) Kind Done)
  first_two c h = rw (← h.name) (place-masters t c o k h.operation)

  form_so : is_master e ≡ true → (c : Call) → Asks c o n r key area c.base → refusal (scene_under t c) c form_rungs ≡ form_status o e 0 0 e.key r key area
  form_so m c h = rw (← h.name, ← h.reference, ← h.key, ← h.area) (form-masters t c o k h.operation (rw h.name m))

  abbrev placed : (f m : Bool) → Result Placed Refusal
  placed f m = cond f (cond m (Ok (record { number = record { 0 = i }; entry = e })) (Err refusal.Kind)) (Err refusal.Fntf)

  -- no set of masters has the name
  pub unplaced : {why : Refusal} → placed_at t i ≡ Err why → (c : Call) → Asks c o n r key area c.base → status_by why ≡ placed_status t c
  unplaced h c a = go (ltb i (set_count t)) (is_master e) refl refl h
    where
      go : (f m : Bool) → ltb i (set_count t) ≡ f → is_master e ≡ m → {why : Refusal} → placed f m ≡ Err why → status_by why ≡ placed_status t c
      go false m f q {why} h = let w : why ≡ refusal.Fntf = cc in rw (w, first_two c a, f) refl
      go true false f q {why} h = let w : why ≡ refusal.Kind = cc in rw (w, first_two c a, f, q) refl
      go true true f q h = absurd cc

  pub places-set : {p : Placed} {s : Status} → SchemaOk t → placed_at t i ≡ Ok p → s ≡ formed_in o p.entry r key area → Places t o n r key area p s
  places-set ok h g = go (ltb i (set_count t)) (is_master e) refl refl h g
    where
      go : (f m : Bool) → ltb i (set_count t) ≡ f → is_master e ≡ m → {p : Placed} {s : Status} → placed f m ≡ Ok p → s ≡ formed_in o p.entry r key area → Places t o n r key area p s
      go false m f q h g = absurd cc
      go true false f q h g = absurd cc
      go true true f q {p} {s} h g =
          let same : p ≡ record { number = record { 0 = i }; entry = e } = cc in
          rw (g, same)
          (record {
            status = λ c h. rw (first_two c h, f, q) (sym (form_so q c h));
            on-set = λ d c h. record {
              number = number-here t c ∙ (rw h.name refl);
              entry = entry_here t c ∙ (rw h.name refl);
              masters = masters-here t c o k h.operation ∙ (rw h.name refl);
              edition = edition-here t c ok i (ltb-true _ _ f);
            };
            known = λ d. record {
              among = among-masters t ok i (ltb-true _ _ f) q;
              here = refl;
              key = key-length o e 0 0 e.key r key area d k.of_a-key;
              area = area-length o e 0 0 e.key r key area d;
            };
          })

-- a set that is placed has its fields
pub placed_fields : (t : Schema) (i : ℕ) {p : Placed} {n : ℕ} → Laid t n → placed_at t i ≡ Ok p → Fields p.entry × (is_master p.entry ≡ true)
placed_fields t i w h = go (ltb i (set_count t)) (is_master (entry_of t i)) refl refl h
  where
    go : (f m : Bool) → ltb i (set_count t) ≡ f → is_master (entry_of t i) ≡ m → {p : Placed}
        → cond f (cond m (Ok (record { number = record { 0 = i }; entry = entry_of t i })) (Err refusal.Kind)) (Err refusal.Fntf) ≡ Ok p
        → Fields p.entry × (is_master p.entry ≡ true)
    go false m f q h = absurd cc
    go true false f q h = absurd cc
    go true true f q {p} h =
        let k : p ≡ record { number = record { 0 = i }; entry = entry_of t i } = cc in
        rw k (w.fields i (ltb-true _ _ f), q)

-- a set that is known is the schema's
pub known-set : {t : Schema} {o : Operation} {k a : List ℕ} {i : ℕ} {e : Entry} {n : ℕ} → Laid t n → SetKnown t o k a i e → IsMasterSet e n
known-set {t} {i = i} laid h = record { schema = t; laid = laid; number = i; among = h.among; here = h.here }

-- ---- the master

module _ (t : Schema) (c : Call) (o : Operation) (k : NamedCall o) (q : operation_of c.operation ≡ o) where
  -- "find the named master (16, then 12 ..)"
  pub seek-masters : refusal (scene_under t c) c seek_rungs
      ≡ cond (is_damaged (scene_under t c).found) Damg (cond (is_missing (scene_under t c).found) Mrnf Done)
  unfolding refusal
  seek-masters = rw (operation-here t c, q, k.finds, k.needs_it, k.adds_none, k.call.of_no_link, k.of_no_number) refl

-- the flags of the calls that ask for their master
pub readm-call : NamedCall Readm
readm-call = record { call = record { on-set = refl; of_masters = refl; of_no_path = refl; of_no_link = refl; of_a-key = refl }; finds = refl; needs_it = refl; adds_none = refl; of_no_number = refl }

pub writm-call : NamedCall Writm
writm-call = record { call = record { on-set = refl; of_masters = refl; of_no_path = refl; of_no_link = refl; of_a-key = refl }; finds = refl; needs_it = refl; adds_none = refl; of_no_number = refl }

pub delm-call : NamedCall DelM
delm-call = record { call = record { on-set = refl; of_masters = refl; of_no_path = refl; of_no_link = refl; of_a-key = refl }; finds = refl; needs_it = refl; adds_none = refl; of_no_number = refl }

-- and of those that do not
pub addm-call : MasterCall AddM
addm-call = record { on-set = refl; of_masters = refl; of_no_path = refl; of_no_link = refl; of_a-key = refl }

pub rqloc_call : MasterCall Rqloc
rqloc_call = record { on-set = refl; of_masters = refl; of_no_path = refl; of_no_link = refl; of_a-key = refl }

-- ADD-M looks for the master that it adds, 13 is "master exists"; RQLOC looks for none
pub seek-add : (t : Schema) (c : Call) → operation_of c.operation ≡ AddM
    → refusal (scene_under t c) c seek_rungs ≡ cond (is_damaged (scene_under t c).found) Damg (cond (is_at (scene_under t c).found) Dupm Done)
unfolding refusal
seek-add t c q = rw (operation-here t c, q) refl

pub seek-none : (t : Schema) (c : Call) → operation_of c.operation ≡ Rqloc → refusal (scene_under t c) c seek_rungs ≡ Done
unfolding refusal
seek-none t c q = rw (operation-here t c, q) refl

module _ (t : Schema) (c : Call) (n : ℕ) (o : Operation) (e : Entry) (r : ℕ) (key area b : List ℕ) (k : NamedCall o) (h : Asks c o c.name r key area b) (at : OnSet t c n e) where
  sought : (f : Found) → find b e key ≡ f → refusal (scene_under t c) c seek_rungs ≡ cond (is_damaged f) Damg (cond (is_missing f) Mrnf Done)
  sought f g = seek-masters t c o k h.operation ∙ (rw (found_among h t at.masters, g) refl)

  pub damage_ends : find b e key ≡ Damaged → Ends (placed_outcome t c) Damg r area b
  damage_ends g = seek-refuses h t Damg (omega arith) (sought Damaged g)

  pub missing_ends : find b e key ≡ Missing → Ends (placed_outcome t c) Mrnf r area b
  missing_ends g = seek-refuses h t Mrnf (omega arith) (sought Missing g)

  -- it is there: what is left decides
  pub found-ends : (m : RecordNo) (u : Outcome) {s : Status} {q : ℕ} {new after : List ℕ} → find b e key ≡ At m
      → answered (scene_under t c) c (refusal (scene_under t c) c (rest_rungs (scene_under t c))) ≡ u → Ends u s q new after → Ends (placed_outcome t c) s q new after
  found-ends m u g w v = seek-passes t c u (sought (At m) g) w v

-- ---- ADD-M

module _ (t : Schema) (c : Call) (n : ℕ) (e : Entry) (r : ℕ) (key area b : List ℕ) (h : Asks c AddM c.name r key area b) (at : OnSet t c n e) where
  sought-add : (f : Found) → find b e key ≡ f → refusal (scene_under t c) c seek_rungs ≡ cond (is_damaged f) Damg (cond (is_at f) Dupm Done)
  sought-add f g = seek-add t c h.operation ∙ (rw (found_among h t at.masters, g) refl)

  pub add_damage_ends : find b e key ≡ Damaged → Ends (placed_outcome t c) Damg r area b
  add_damage_ends g = seek-refuses h t Damg (omega arith) (sought-add Damaged g)

  pub there-ends : (m : RecordNo) → find b e key ≡ At m → Ends (placed_outcome t c) Dupm r area b
  there-ends m g = seek-refuses h t Dupm (omega arith) (sought-add (At m) g)

  -- it is not there: what is left decides
  pub absent-ends : (u : Outcome) {s : Status} {q : ℕ} {new after : List ℕ} → find b e key ≡ Missing
      → answered (scene_under t c) c (refusal (scene_under t c) c (rest_rungs (scene_under t c))) ≡ u → Ends u s q new after → Ends (placed_outcome t c) s q new after
  absent-ends u g w v = seek-passes t c u (sought-add Missing g) w v

-- ---- such a call exists

-- For every operation on masters, every set of masters and all other parameters there is a call that asks so: no statement on the calls of such
-- a set is about none.
module _ {e : Entry} {n : ℕ} (o : Operation) (k : MasterCall o) (s : IsMasterSet e n) (r : ℕ) (key area b : List ℕ) where
  abbrev asking : Call
  asking = call_of (operation_letters o) (word_bytes (entry_of s.schema s.number).name) r (text "        ") key area [] b

  names_it : set_named s.schema asking.name ≡ s.number
  names_it = set_named_lem s.schema s.laid.ok s.number (omega (arith, s.among))

  pub someone_calls-masters : (c : Call) × Asks c o c.name r key area b × OnSet s.schema c s.number e
  someone_calls-masters = (
    asking,
    someone_asks o asking.name r asking.path key area [] b,
    record {
      number = number-here s.schema asking ∙ names_it;
      entry = entry_here s.schema asking ∙ (rw names_it (sym s.here));
      masters = masters-here s.schema asking o k (letters-ask o) ∙ (rw names_it (sym s.here));
      edition = rw s.here (edition-here s.schema asking s.laid.ok s.number (omega (arith, s.among)));
    },
  )
