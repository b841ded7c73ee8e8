-- The tests that READM, READV and READR pass, on a scene that is spelt out: what must be known of the call for each test of the ladder.
-- READV and READR differ only in the pointer that they follow, so one Bool says which of them it is.
use Rattle.std.specs.Prelude.{ℕ, ◌*◌, ◌<◌, ◌≡◌, Bool, not, ◌&&◌, ◌||◌, eqb, ltb, length}
use Rattle.std.proofs.Math.Path.{refl}
use Rattle.std.proofs.Math.Bool.{true, false}
use mathlib.Core.List.{List}
use Rattle.std.proofs.Common.{eq-eqb, lt-ltb}
use Rattle.octets.specs.Octets.{all_blank, same_bytes}
use Rattle.octets.specs.Text.{text}
use Rattle.terms.specs.declared.Operation.{Operation}
use Rattle.terms.specs.declared.Operation.TheVariants.{Readm, Readv, Readr}
use Rattle.terms.specs.Operation.{operation_of}
use Rattle.schema.specs.declared.Path.{Path}
use Rattle.schema.specs.declared.Entry.{Entry}
use Rattle.schema.specs.Decode.{path_of, set_count, schema_of, masters_on}
use Rattle.schema.specs.Layout.{keeps_rules}
use Rattle.schema.specs.Place.{in_set}
use Rattle.records.specs.Areas.{is_master, area_length}
use Rattle.plans.specs.Plan.{blocks_sealed}
use Rattle.masters.specs.declared.Found.TheVariants.{At}
use Rattle.masters.specs.Find.{find}
use Rattle.points.specs.Chains.{is_point_of, read_damaged}
use Rattle.calls.specs.Call.{Call}
use Rattle.calls.specs.Scene.{Scene, scene_on, scene_under, scene_of}
use Rattle.calls.specs.Reply.{given_by, stores_of}
use Rattle.schema.specs.Naming.{link_of}
use Rattle.calls.specs.Ladder.{wrong_kind, Rung, general_rungs, final_rungs, ladder}
use Rattle.calls.proofs.LadderLaws.{Passes, others_pass, asked_of, AllHold, holds-passes}
use Rattle.condition3.specs.Plain.{set_in, entry_in, path_in}
use Rattle.condition3.proofs.Outcomes.{parameter_rungs, found_rungs, climbed}

-- ---- the three operations

-- READV, or READR where the reading goes back
abbrev pub read_of : Bool → Operation
read_of true = Readr
read_of false = Readv

abbrev pub read_text : Bool → List ℕ
read_text true = text "READR"
read_text false = text "READV"

readm-is : operation_of (text "READM") ≡ Readm
unfolding operation_of same_bytes
readm-is = refl

read_is : (back : Bool) → operation_of (read_text back) ≡ read_of back
unfolding operation_of same_bytes
read_is true = refl
read_is false = refl

-- ---- their scenes

-- the named path, and its masters
abbrev path_for : Call → Path
path_for c = path_of (entry_in c) (path_in c)

abbrev masters_for : Call → Entry
masters_for c = masters_on (schema_of c.schema) (entry_in c) (path_in c)

-- of READM the masters are the named set, of the others those of the named path
abbrev pub master_scene : Call → Scene
master_scene c = scene_on (schema_of c.schema) Readm (set_in c) (entry_in c) (path_in c) (path_for c) (entry_in c) c

abbrev pub chain_scene : Bool → Call → Scene
chain_scene back c = scene_on (schema_of c.schema) (read_of back) (set_in c) (entry_in c) (path_in c) (path_for c) (masters_for c) c

pub master_scene_lem : (c : Call) → c.operation ≡ text "READM" → scene_of c ≡ master_scene c
unfolding scene_under
master_scene_lem c e = rw (e, readm-is) refl

pub chain_scene_lem : (back : Bool) (c : Call) → c.operation ≡ read_text back → scene_of c ≡ chain_scene back c
unfolding scene_under
chain_scene_lem true c e = rw (e, read_is true) refl
chain_scene_lem false c e = rw (e, read_is false) refl

-- ---- the tests

equal_passes : (a b : ℕ) → a ≡ b → not (eqb a b) ≡ false
equal_passes a b h = rw (eq-eqb a b h) refl

below-passes : (a b : ℕ) → a < b → not (ltb a b) ≡ false
below-passes a b h = rw (lt-ltb a b h) refl

-- what all three must have: `x` is the set of the masters, `m` the master of the key
pub record Granted (x : Entry) (m : ℕ) (c : Call) : Type 0 where
  pub rules : keeps_rules c.schema ≡ true
  pub sized : length c.base ≡ (schema_of c.schema).blocks * 512
  pub known : set_in c < set_count (schema_of c.schema)
  pub area : length c.area ≡ area_length (entry_in c)
  pub keyed : length c.key ≡ x.key
  pub told : all_blank c.key ≡ false
  pub found : find c.base x c.key ≡ At (record { 0 = m })

-- what READV and READR must have besides: the reference is LKxx, `linked`, or the number of a point
pub record Followed (linked : Bool) (c : Call) : Type 0 where
  pub variable : is_master (entry_in c) ≡ false
  pub path : path_in c < (entry_in c).count
  pub link : eqb c.reference (link_of (path_for c)) ≡ linked
  pub form : not (linked || in_set (entry_in c) c.reference) ≡ false
  pub point : (not linked && not (is_point_of c.base (entry_in c) (path_for c) c.key c.reference)) ≡ false

-- a test that an operation has not does not concern it
has-read : (c : Call) (back : Bool) (rs : List Rung) → AllHold (chain_scene back c) c (asked_of (read_of back) rs) → Passes (chain_scene back c) c rs
has-read c back = holds-passes (chain_scene back c) c (read_of back) refl

module _ (c : Call) (m : ℕ) where
  -- the first three tests are the same for all
  general : (x : Entry) → Granted x m c → Passes (master_scene c) c general_rungs
  general x f = holds-passes (master_scene c) c Readm refl general_rungs (rw f.rules refl, (equal_passes _ _ f.sized, tt))

  pub readm-passes : Granted (entry_in c) m c → is_master (entry_in c) ≡ true → Passes (master_scene c) c (ladder (master_scene c))
  unfolding wrong_kind stores_of blocks_sealed
  readm-passes f k =
      let has : (rs : List Rung) → AllHold (master_scene c) c (asked_of Readm rs) → Passes (master_scene c) c rs = holds-passes (master_scene c) c Readm refl in
      climbed (master_scene c) c (record {
        general = general (entry_in c) f;
        parameters = has parameter_rungs (below-passes _ _ f.known, (rw k refl, (equal_passes _ _ f.area, (equal_passes _ _ f.keyed, (f.told, tt)))));
        found = has found_rungs (rw f.found refl, (rw f.found refl, tt));
        others = others_pass (master_scene c) c refl refl (entry_in c).count;
        final = has final_rungs (refl, tt);
      })

  -- up to the final ones the tests of READR are those of READV
  module _ (linked : Bool) (f : Granted (masters_for c) m c) (h : Followed linked c) where
    parameters : Passes (chain_scene false c) c parameter_rungs
    unfolding wrong_kind
    parameters =
        has-read c false parameter_rungs
        (below-passes _ _ f.known, (h.variable, (below-passes _ _ h.path, (equal_passes _ _ f.area, (equal_passes _ _ f.keyed, (f.told, (rw h.link h.form, tt)))))))

    sought : Passes (chain_scene false c) c found_rungs
    sought = has-read c false found_rungs (rw f.found refl, (rw f.found refl, (rw h.link h.point, tt)))

    pub read-passes : (back : Bool) (n : ℕ) → given_by (read_of back) (chain_scene back c) c ≡ n
        → read_damaged c.base (entry_in c) (path_for c) (masters_for c) m c.key linked n ≡ false → Passes (chain_scene back c) c (ladder (chain_scene back c))
    unfolding wrong_kind stores_of blocks_sealed
    read-passes true n q d =
        climbed (chain_scene true c) c (record {
          general = general (masters_for c) f;
          parameters = parameters;
          found = sought;
          others = others_pass (chain_scene true c) c refl refl (entry_in c).count;
          final = has-read c true final_rungs (rw (q, f.found, h.link) d, (refl, tt));
        })
    read-passes false n q d =
        climbed (chain_scene false c) c (record {
          general = general (masters_for c) f;
          parameters = parameters;
          found = sought;
          others = others_pass (chain_scene false c) c refl refl (entry_in c).count;
          final = has-read c false final_rungs (rw (q, f.found, h.link) d, (refl, tt));
        })
