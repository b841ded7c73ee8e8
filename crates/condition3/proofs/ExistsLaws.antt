-- "The master exists": READM answers **** exactly if a live master has the key. And a row that is not empty has its master.
use Rattle.std.specs.Prelude.{ℕ, ◌+◌, ◌<◌, ◌≡◌, ◌⊎◌, false, List, [], ◌∷◌, length}
use Rattle.std.proofs.Math.Path.{refl}
use Rattle.std.proofs.Common.{inl, inr, arith}
use Rattle.std.proofs.Math.Bool.{true}
use Rattle.octets.specs.TestLaws.{never_both}
use Rattle.octets.specs.SpliceLaws.{length_run}
use Rattle.octets.specs.Text.{text}
use Rattle.terms.specs.declared.Status.TheVariants.{Done}
use Rattle.terms.specs.declared.RecordNo.{RecordNo}
use Rattle.schema.specs.declared.Entry.{Entry}
use Rattle.schema.specs.declared.Schema.{Schema}
use Rattle.schema.specs.Decode.{entry_of, path_of, set_count, schema_of, masters_on}
use Rattle.schema.specs.Place.{place_of}
use Rattle.schema.specs.Guarantee.{SchemaOk}
use Rattle.records.specs.Records.{master_key}
use Rattle.records.specs.Areas.{is_master, area_length}
use Rattle.records.proofs.AddressLaws.{inside-base}
use Rattle.records.proofs.KindLaws.{is_master_lem, is_variable}
use Rattle.masters.specs.declared.Found.{Found}
use Rattle.masters.specs.declared.Found.TheVariants.{At, Missing, Damaged}
use Rattle.masters.specs.Find.{find, is_missing, is_damaged}
use Rattle.masters.proofs.FindLaws.{find_at}
use Rattle.chains.specs.Members.{In}
use Rattle.sound.specs.Sets.{Live}
use Rattle.calls.specs.Call.{Call}
use Rattle.schema.specs.Naming.{set_named}
use Rattle.calls.specs.Ladder.Rung.{MasterIntact, MasterThere}
use Rattle.calls.proofs.OutcomeLaws.{passed}
use Rattle.calls.proofs.LadderLaws.{Passes}
use Rattle.calls.specs.Outcome.{done, outcome}
use Rattle.kept_state.specs.Rows.{PathRows}
use Rattle.master_steps.specs.FindLaws.{find-live}
use Rattle.point_steps.specs.RowFacts.{row-master}
use Rattle.condition3.specs.Plain.{set_in, entry_in}
use Rattle.condition3.specs.Readings.{Fixed, schema_in, Lent, under, reader_of, Place, set_no, entry_named, path_no, IsPlace, readm, Exists}
use Rattle.condition3.proofs.PlaceLaws.{place-path}
use Rattle.condition3.specs.Shown.{Ready}
use Rattle.condition3.proofs.Outcomes.{found_rungs, outcome-done, done_rungs}
use Rattle.condition3.proofs.ReadTests.{master_scene, master_scene_lem, Granted, readm-passes}

-- ---- a place is a path of the schema

module _ (t : Schema) (ok : SchemaOk t) (w : Place) (p : IsPlace t w) where
  pub place-variable : is_master (entry_named t w) ≡ false
  place-variable = is_variable t ok (set_no t w) (place-path t w ok p).0 p.set

  pub place-master : (path_of (entry_named t w) (path_no t w)).master.0 < t.masters
  place-master = (ok.path (set_no t w) (path_no t w) (place-path t w ok p)).master

-- it stands for its rows
pub place-rows : (s b : List ℕ) (rows : ℕ → ℕ → List ℕ → List ℕ) → Ready s b rows → (w : Place) → IsPlace (schema_of s) w
    → PathRows (schema_of s) b (set_no (schema_of s) w) (path_no (schema_of s) w) (rows (set_no (schema_of s) w) (path_no (schema_of s) w))
place-rows s b rows g w p = g.stands.paths (set_no (schema_of s) w) (path_no (schema_of s) w) (place-path (schema_of s) w g.world.ok p)

-- ---- what a call with the key of a live master has

-- the master is number m of set n
pub granted : (c : Call) (rows : ℕ → ℕ → List ℕ → List ℕ) (n m : ℕ) → Ready c.schema c.base rows → n < (schema_of c.schema).masters
    → Live c.base (entry_of (schema_of c.schema) n) m → master_key c.base (entry_of (schema_of c.schema) n) m ≡ c.key
    → set_in c < set_count (schema_of c.schema) → length c.area ≡ area_length (entry_in c) → Granted (entry_of (schema_of c.schema) n) m c
granted c rows n m g l live k known area =
    let ok = g.world.ok in
    let ms = g.stands.masters n l in
    let set = ok.set n (omega arith) in
    let room = (ok.master n l).room in
    let inside = inside-base n m 12 (entry_of (schema_of c.schema) n).key ok (omega arith, live.0, omega arith) in
    record {
      rules = g.rules;
      sized = omega (arith, g.stands.sized);
      known = known;
      area = area;
      keyed = rw k at (length_run c.base (place_of (entry_of (schema_of c.schema) n) m + 12) (entry_of (schema_of c.schema) n).key (omega (arith, g.stands.sized)));
      told = rw k at (ms.no_blank m live);
      found = find-live c.base (entry_of (schema_of c.schema) n) set.some ms m c.key live k;
    }

-- ---- the master exists

-- neither absent nor damaged: found
at_found : (f : Found) → is_damaged f ≡ false → is_missing f ≡ false → (q : RecordNo) × (f ≡ At q)
at_found (At q) d m = (q, refl)
at_found Missing d m = absurd (never_both true refl m)
at_found Damaged d m = absurd (never_both true refl d)

-- a READM that is done has found a master
found-by : (c : Call) → c.operation ≡ text "READM" → (outcome c).status ≡ Done → (m : ℕ) × Live c.base (entry_in c) m × (master_key c.base (entry_in c) m ≡ c.key)
found-by c o h =
    let tests : Passes (master_scene c) c found_rungs = rw (master_scene_lem c o) at (done_rungs c h).found in
    let q = at_found (find c.base (entry_in c) c.key) (passed (master_scene c) c found_rungs MasterIntact refl tests) (passed (master_scene c) c found_rungs MasterThere refl tests) in
    let z = find_at c.base (entry_in c) c.key q.0 q.1 in
    (q.0.0, (z.in_set, z.live), z.keyed)

module _ (f : Fixed) (d : Lent) (rows : ℕ → ℕ → List ℕ → List ℕ) (g : Ready f.schema d.base rows) (w : Place) (p : IsPlace (schema_in f) w) (key : List ℕ) where
  -- the schema, the data base, and the set of the place's masters
  abbrev s : List ℕ
  s = f.schema

  abbrev t : Schema
  t = schema_in f

  abbrev b : List ℕ
  b = d.base

  abbrev x : Entry
  x = masters_on t (entry_named t w) (path_no t w)

  pub exists_says : Exists (reader_of outcome f d) w key → (m : ℕ) × Live b x m × (master_key b x m ≡ key)
  exists_says h = rw p.masters at (found-by (under f d (readm w key)) refl h)

  exists-holds : (m : ℕ) → Live b x m → master_key b x m ≡ key → Exists (reader_of outcome f d) w key
  unfolding done
  exists-holds m l k =
      let c = under f d (readm w key) in
      let ok = g.world.ok in
      let n : set_named t w.masters < t.masters = rw p.masters (place-master t ok w p) in
      let kind : is_master (entry_in c) ≡ true = is_master_lem t ok (set_named t w.masters) n in
      let z : Granted (entry_in c) m c =
      granted c rows (set_named t w.masters) m g n (rw p.masters l) (rw p.masters k) (omega arith) p.master-area in
      rw (outcome-done c (rw (master_scene_lem c refl) (readm-passes c m z kind))) refl

  -- a record in the row is owned by a master of that key
  pub row_or_exists : (rows (set_no t w) (path_no t w) key ≡ []) ⊎ Exists (reader_of outcome f d) w key
  row_or_exists =
      by (rows (set_no t w) (path_no t w) key) (row-master t b (set_no t w) (path_no t w) (rows (set_no t w) (path_no t w)) key (place-rows s b rows g w p))
    where
      by : (rs : List ℕ) → ((r : ℕ) → In r rs → (m : ℕ) × Live b x m × (master_key b x m ≡ key)) → (rs ≡ []) ⊎ Exists (reader_of outcome f d) w key
      by [] h = inl refl
      by (r ∷ rs) h = let o = h r (inl refl) in inr (exists-holds o.0 o.1 o.2)
