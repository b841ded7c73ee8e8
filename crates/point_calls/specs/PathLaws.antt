-- Calls on points, down the ladder to the forms of their parameters: the set, the path, and what is known of both where all is right.
use Rattle.std.specs.Prelude.{ℕ, ◌≤◌, ◌<◌, ◌≡◌, Bool, true, false, cond, ◌&&◌, ◌||◌, List, [], ◌⊎◌, eqb, leb, ltb, length, Result, Ok, Err}
use Rattle.std.proofs.Math.Path.{refl}
use Rattle.std.proofs.Common.{sym, ◌∙◌, inl, inr, arith, eqb-true, ne_eqb, ltb-true}
use Rattle.std.proofs.Math.Bool.{not}
use Rattle.std.proofs.lemmas.Bool.{not-false}
use Rattle.octets.specs.Octets.{all_blank, word_bytes}
use Rattle.octets.specs.RunLaws.{same_bytes_eq}
use Rattle.terms.specs.declared.Status.{Status}
use Rattle.terms.specs.declared.Status.TheVariants.{Done, Fntf, Kind, Area, Klen, Bctl, Keys, Ivrp}
use Rattle.terms.specs.declared.Status.TheVariants as refusals
use Rattle.terms.specs.declared.Operation.{Operation}
use Rattle.terms.specs.declared.Operation.TheVariants.{Readv, Readr, Readd, Writv, Addvc, Addvb, Addva, Delvd}
use Rattle.terms.specs.Terms.{end_ref}
use Rattle.terms.specs.Status.{first_of, status_by}
use Rattle.terms.specs.declared.Refusal.{Refusal}
use Rattle.terms.specs.declared.Refusal.TheVariants as refusal
use Rattle.terms.specs.Laws.{one_passes}
use Rattle.terms.specs.Operation.{operation_of}
use Rattle.schema.specs.declared.Path.{Path}
use Rattle.schema.specs.declared.Entry.{Entry}
use Rattle.schema.specs.declared.Schema.{Schema}
use Rattle.schema.specs.Decode.{entry_of, path_of, set_count, masters_on}
use Rattle.schema.specs.Place.{InSet, in_set}
use Rattle.schema.specs.Guarantee.{SchemaOk}
use Rattle.records.proofs.KindLaws.{behind-masters}
use Rattle.records.specs.Fields.{Fields}
use Rattle.records.specs.Areas.{is_master, area_length, area_key_on}
use Rattle.masters.proofs.FindLaws.{in_set_true}
use Rattle.calls.proofs.SceneLaws.{number-here, edition-here, entry_here, on-here, path_here}
use Rattle.calls.specs.Call.{Call, call_of}
use Rattle.calls.specs.Scene.{scene_under}
use Rattle.schema.specs.Naming.{set_named, path_name, path_named, link_of}
use Rattle.schema.proofs.NamingLaws.{set_named_lem, path_named_lem}
use Rattle.calls.specs.Ladder.{wrong_kind, blank_area_key, other_area_key, place_rungs, form_rungs, refusal}
use Rattle.forms.specs.Form.{rungs_of, form_status}
use Rattle.forms.specs.FormLaws.{form-tests, other_path}
use Rattle.ends.specs.AsksLaws.{operation_letters, letters-ask, someone_asks}
use Rattle.ends.specs.FormFacts.{key-length, area-length}
use Rattle.octets.specs.TestLaws.{asked, either}
use Rattle.ends.specs.Asks.{Asks, placed_status}
use Rattle.records.specs.InBase.{Laid, IsPathUnder, IsPathAmong, MastersOf, PointsIn}
use Rattle.point_calls.specs.declared.Located.{Located}
use Rattle.point_calls.specs.OnPath.{PointCall, PathKnown, OnPath, located_at, formed_on, Locates}

-- ---- the eight operations

pub readv-call : PointCall Readv
readv-call = record { on-set = refl; of_no_masters = refl; of_points = refl; of_a-key = refl; finds = refl; needs_it = refl; adds_none = refl }

pub readr-call : PointCall Readr
readr-call = record { on-set = refl; of_no_masters = refl; of_points = refl; of_a-key = refl; finds = refl; needs_it = refl; adds_none = refl }

pub readd_call : PointCall Readd
readd_call = record { on-set = refl; of_no_masters = refl; of_points = refl; of_a-key = refl; finds = refl; needs_it = refl; adds_none = refl }

pub writv-call : PointCall Writv
writv-call = record { on-set = refl; of_no_masters = refl; of_points = refl; of_a-key = refl; finds = refl; needs_it = refl; adds_none = refl }

pub addvc-call : PointCall Addvc
addvc-call = record { on-set = refl; of_no_masters = refl; of_points = refl; of_a-key = refl; finds = refl; needs_it = refl; adds_none = refl }

pub addvb-call : PointCall Addvb
addvb-call = record { on-set = refl; of_no_masters = refl; of_points = refl; of_a-key = refl; finds = refl; needs_it = refl; adds_none = refl }

pub addva-call : PointCall Addva
addva-call = record { on-set = refl; of_no_masters = refl; of_points = refl; of_a-key = refl; finds = refl; needs_it = refl; adds_none = refl }

pub delvd-call : PointCall Delvd
delvd-call = record { on-set = refl; of_no_masters = refl; of_points = refl; of_a-key = refl; finds = refl; needs_it = refl; adds_none = refl }

-- ---- what the forms say of key and reference

module _ (o : Operation) (e : Entry) (on link k ref : ℕ) (key area : List ℕ) (d : form_status o e on link k ref key area ≡ Done) where
  -- what is left behind the tests of the area's length, the control key and the blanks
  abbrev behind_keys : Status
  behind_keys =
      cond ((rungs_of o).link && not (eqb ref link || in_set e ref)) Ivrp
      (cond ((rungs_of o).sweep && not (leb ref e.records)) Ivrp
      (cond ((rungs_of o).last && eqb ref end_ref) Ivrp
      (cond ((rungs_of o).number && not (in_set e ref)) Ivrp Done)))

  keys_passed : (((rungs_of o).same && other_area_key e on key area) ≡ false) × (behind_keys ≡ Done)
  unfolding form_status
  keys_passed =
      let p = one_passes ((rungs_of o).area && not (eqb (length area) (area_length e))) Area _ (omega arith) d in
      let q = one_passes ((rungs_of o).key && not (eqb (length key) k)) Klen _ (omega arith) p.1 in
      let r = one_passes ((rungs_of o).key && all_blank key) Bctl _ (omega arith) q.1 in
      let s = one_passes ((rungs_of o).blank && blank_area_key e area) Bctl _ (omega arith) r.1 in
      one_passes ((rungs_of o).same && other_area_key e on key area) Keys behind_keys (omega arith) s.1

  -- 10
  pub area-key : is_master e ≡ false → (rungs_of o).same ≡ true → area_key_on e area on ≡ key
  area-key v h = same_bytes_eq (area_key_on e area on) key (not-false _ (sym (other_path e area on key v) ∙ asked _ _ keys_passed.0 h))

  -- 11
  pub link-form : (rungs_of o).link ≡ true → (ref ≡ link) ⊎ InSet e ref
  link-form h =
      let f = (one_passes ((rungs_of o).link && not (eqb ref link || in_set e ref)) Ivrp _ (omega arith) keys_passed.1).0 in
      split (either _ _ (not-false _ (asked (rungs_of o).link _ f h)))
    where
      split : (eqb ref link ≡ true) ⊎ (in_set e ref ≡ true) → (ref ≡ link) ⊎ InSet e ref
      split (inl w) = inl (eqb-true ref link w)
      split (inr w) = inr (in_set_true e ref w)

  pub number-form : (rungs_of o).number ≡ true → InSet e ref
  number-form h =
      let p = one_passes ((rungs_of o).link && not (eqb ref link || in_set e ref)) Ivrp _ (omega arith) keys_passed.1 in
      let q = one_passes ((rungs_of o).sweep && not (leb ref e.records)) Ivrp _ (omega arith) p.1 in
      let r = one_passes ((rungs_of o).last && eqb ref end_ref) Ivrp _ (omega arith) q.1 in
      in_set_true e ref (not-false _ (asked (rungs_of o).number _ (one_passes ((rungs_of o).number && not (in_set e ref)) Ivrp Done (omega arith) r.1).0 h))

-- ---- the scene

module _ (t : Schema) (c : Call) (o : Operation) (k : PointCall o) (q : operation_of c.operation ≡ o) where
  abbrev set : Entry
  set = entry_of t (set_named t c.name)

  abbrev at : ℕ
  at = path_named t set c.path

  -- 4 to 6
  place-points : refusal (scene_under t c) c place_rungs
      ≡ cond (not (ltb (set_named t c.name) (set_count t))) Fntf (cond (is_master set) Kind (cond (not (ltb at set.count)) refusals.Path Done))
  unfolding scene_under refusal wrong_kind
  place-points = rw (q, k.on-set, k.of_no_masters, k.of_points) refl

  masters-here : (scene_under t c).masters ≡ masters_on t set at
  unfolding scene_under
  masters-here = rw (q, k.of_points) refl

  -- 7 to 11 by form
  form-points : refusal (scene_under t c) c form_rungs ≡ form_status o set at (link_of (path_of set at)) (masters_on t set at).key c.reference c.key c.area
  unfolding scene_under
  form-points = form-tests (scene_under t c) c ∙ (rw (q, k.of_points) refl)

-- ---- the set and the path that a call speaks of

-- the three tests in their order, and the forms behind them
gather : (a m s : Bool) (u : Status) → first_of (cond a Fntf (cond m Kind (cond s refusals.Path Done))) u ≡ cond a Fntf (cond m Kind (cond s refusals.Path u))
gather true m s u = refl
gather false true s u = refl
gather false false true u = refl
gather false false false u = refl

module _ (t : Schema) (o : Operation) (n w : List ℕ) (r : ℕ) (key area : List ℕ) (k : PointCall o) where
  abbrev i : ℕ
  i = set_named t n

  abbrev u : Entry
  u = entry_of t (set_named t n)

  abbrev j : ℕ
  j = path_named t u w

  abbrev form : Status
  form = form_status o u j (link_of (path_of u j)) (masters_on t u j).key r key area

  -- what every call that asks so has of the tests
  all_tests : (c : Call) → Asks c o n r key area c.base → c.path ≡ w
      → placed_status t c ≡ cond (not (ltb i (set_count t))) Fntf (cond (is_master u) Kind (cond (not (ltb j u.count)) refusals.Path form))
  all_tests c h p =
      rw (place-points t c o k h.operation, form-points t c o k h.operation, h.name, p, h.reference, h.key, h.area)
      (gather (not (ltb i (set_count t))) (is_master u) (not (ltb j u.count)) form)

  abbrev located : (f m g : Bool) → Result Located Refusal
  located f m g =
      cond f
      (cond m (Err refusal.Kind)
      (cond g (Ok (record { number = record { 0 = i }; entry = u; on = j; path = path_of u j; masters = masters_on t u j })) (Err refusal.Path)))
      (Err refusal.Fntf)

  -- no set of points has the name, or no path of it
  pub unlocated : {why : Refusal} → located_at t i w ≡ Err why → (c : Call) → Asks c o n r key area c.base → c.path ≡ w → status_by why ≡ placed_status t c
  unlocated h c a p = go (ltb i (set_count t)) (is_master u) (ltb j u.count) refl refl refl h
    where
      go : (f m g : Bool) → ltb i (set_count t) ≡ f → is_master u ≡ m → ltb j u.count ≡ g → {why : Refusal} → located f m g ≡ Err why → status_by why ≡ placed_status t c
      go false m g f q s {why} h = let z : why ≡ refusal.Fntf = cc in rw (z, all_tests c a p, f) refl
      go true true g f q s {why} h = let z : why ≡ refusal.Kind = cc in rw (z, all_tests c a p, f, q) refl
      go true false false f q s {why} h = let z : why ≡ refusal.Path = cc in rw (z, all_tests c a p, f, q, s) refl
      go true false true f q s h = absurd cc

  pub locates_path : {l : Located} {v : Status} → SchemaOk t → located_at t i w ≡ Ok l → v ≡ formed_on o l r key area → Locates t o n w r key area l v
  locates_path ok h z = go (ltb i (set_count t)) (is_master u) (ltb j u.count) refl refl refl h z
    where
      go : (f m g : Bool) → ltb i (set_count t) ≡ f → is_master u ≡ m → ltb j u.count ≡ g → {l : Located} {v : Status} → located f m g ≡ Ok l
          → v ≡ formed_on o l r key area → Locates t o n w r key area l v
      go false m g f q s h z = absurd cc
      go true true g f q s h z = absurd cc
      go true false false f q s h z = absurd cc
      go true false true f q s {l} {v} h z =
          let same : l ≡ record { number = record { 0 = i }; entry = u; on = j; path = path_of u j; masters = masters_on t u j } = cc in
          rw (z, same)
          (record {
            status = λ c h p. rw (all_tests c h p, f, q, s) refl;
            on-path = λ d c h p. record {
              number = number-here t c ∙ (rw h.name refl);
              entry = entry_here t c ∙ (rw h.name refl);
              on = on-here t c ∙ (rw (h.name, p) refl);
              path = path_here t c ∙ (rw (h.name, p) refl);
              masters = masters-here t c o k h.operation ∙ (rw (h.name, p) refl);
              edition = edition-here t c ok i (ltb-true _ _ f);
            };
            known = λ d. record {
              behind = behind-masters t ok i q;
              among = ltb-true _ _ f;
              here = refl;
              on = ltb-true _ _ s;
              path = refl;
              masters = refl;
              key = key-length o u j (link_of (path_of u j)) (masters_on t u j).key r key area d k.of_a-key;
              area = area-length o u j (link_of (path_of u j)) (masters_on t u j).key r key area d;
              same = area-key o u j (link_of (path_of u j)) (masters_on t u j).key r key area d q;
              number = number-form o u j (link_of (path_of u j)) (masters_on t u j).key r key area d;
              link = link-form o u j (link_of (path_of u j)) (masters_on t u j).key r key area d;
            };
          })

-- a path that is located has its fields
module _ (t : Schema) (i : ℕ) (w : List ℕ) {n : ℕ} (laid : Laid t n) where
  abbrev points : Entry
  points = entry_of t i

  abbrev number : ℕ
  number = path_named t points w

  abbrev Fielded : Located → Type 0
  Fielded q = Fields q.entry × (q.on < q.entry.count) × (q.masters.key ≤ 16)

  pub located_fields : {q : Located} → located_at t i w ≡ Ok q → Fielded q
  located_fields h = go (ltb i (set_count t)) (is_master points) (ltb number points.count) refl refl refl h
    where
      go : (f m g : Bool) → ltb i (set_count t) ≡ f → is_master points ≡ m → ltb number points.count ≡ g → {l : Located}
          → cond f
          (cond m (Err refusal.Kind)
          (cond g (Ok (record { number = record { 0 = i }; entry = points; on = number; path = path_of points number; masters = masters_on t points number })) (Err refusal.Path)))
          (Err refusal.Fntf) ≡ Ok l
          → Fielded l
      go false m g f q s h = absurd cc
      go true true g f q s h = absurd cc
      go true false false f q s h = absurd cc
      go true false true f q s {l} h =
          let same : l ≡ record { number = record { 0 = i }; entry = points; on = number; path = path_of points number; masters = masters_on t points number } = cc in
          let k = laid.ok.path i number (behind-masters t laid.ok i q, ltb-true _ _ f, ltb-true _ _ s) in
          rw same (laid.fields i (ltb-true _ _ f), ltb-true _ _ s, (laid.ok.master _ k.master).key_most)

-- ---- in the base

-- a set of points is none of masters
pub no_master : {e : Entry} {n : ℕ} → PointsIn e n → is_master e ≡ false
no_master {e} h = ne_eqb e.kind 1 (λ z. omega (arith, h.kind))

-- a set and a path that are known are the schema's
pub known_under : {n : ℕ} (t : Schema) (o : Operation) (r : ℕ) (k a : List ℕ) (i : ℕ) (e : Entry) (on : ℕ) (p : Path) (x : Entry) → Laid t n → PathKnown t o r k a i e on p x → IsPathUnder t e on p x n
known_under t o r k a i e on p x laid h =
    record {
      laid = laid;
      number = i;
      is = (h.behind, h.among, rw h.here at h.on);
      here = h.here;
      path = h.path;
      masters = h.masters ∙ (rw h.path refl);
    }

-- with the masters of every path
pub known_among : {n : ℕ} (t : Schema) (o : Operation) (r : ℕ) (k a : List ℕ) (i : ℕ) (e : Entry) (on : ℕ) (p : Path) (x : Entry) {all : List Entry}
    → Laid t n → PathKnown t o r k a i e on p x → MastersOf t e all → IsPathAmong e on p x all n
known_among t o r k a i e on p x laid h of = record { schema = t; under = known_under t o r k a i e on p x laid h; kept = of }

-- ---- such a call exists

-- For every operation on points, every path of a schema and all other parameters there is a call that asks so: no statement on the calls of
-- such a path is about none. The masters kept of every path, for the adds and DELVD, are that schema's.
module _ {t : Schema} {e : Entry} {on : ℕ} {p : Path} {x : Entry} {n : ℕ} (o : Operation) (k : PointCall o) (u : IsPathUnder t e on p x n) (r : ℕ) (key area b : List ℕ) where
  abbrev asking : Call
  asking = call_of (operation_letters o) (word_bytes (entry_of t u.number).name) r (path_name t (path_of (entry_of t u.number) on)) key area [] b

  names-set : set_named t asking.name ≡ u.number
  names-set = set_named_lem t u.laid.ok u.number u.is.1

  names-path : path_named t (entry_of t (set_named t asking.name)) asking.path ≡ on
  names-path = rw names-set (path_named_lem t u.laid.ok u.number on u.is)

  pub someone_calls-points : (c : Call) × Asks c o c.name r key area b × OnPath t c u.number e on p x
  someone_calls-points = (
    asking,
    someone_asks o asking.name r asking.path key area [] b,
    record {
      number = number-here t asking ∙ names-set;
      entry = entry_here t asking ∙ (rw names-set (sym u.here));
      on = on-here t asking ∙ names-path;
      path = path_here t asking ∙ (rw (names-path, names-set) (sym (u.path ∙ (rw u.here refl))));
      masters = masters-here t asking o k (letters-ask o) ∙ (rw (names-path, names-set) (sym (u.masters ∙ (rw u.here refl))));
      edition = rw u.here (edition-here t asking u.laid.ok u.number u.is.1);
    },
  )

pub someone_calls-among : {e : Entry} {on : ℕ} {p : Path} {x : Entry} {all : List Entry} {n : ℕ} (o : Operation) → PointCall o → (h : IsPathAmong e on p x all n) (r : ℕ) (key area b : List ℕ)
    → ((c : Call) × Asks c o c.name r key area b × OnPath h.schema c h.under.number e on p x) × MastersOf h.schema e all
someone_calls-among o k h r key area b = (someone_calls-points o k h.under r key area b, h.kept)
