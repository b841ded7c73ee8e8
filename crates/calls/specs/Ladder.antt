-- Document 01, "Status numbers": the order of the tests. One list for all calls: they differ in which tests they have, not in the order.
-- `x` is the scene, `c` the call.
use Rattle.std.specs.Prelude.{ℕ, ◌*◌, Bool, true, cond, not, ◌&&◌, ◌||◌, List, [], ◌∷◌, ◌++◌, eqb, leb, ltb, length}
use Rattle.octets.specs.Octets.{all_blank, same_bytes}
use Rattle.octets.specs.Below.{all_below, concat_below}
use Rattle.terms.specs.Terms.{end_ref}
use Rattle.terms.specs.declared.Status.{Status}
use Rattle.terms.specs.declared.Status.TheVariants.{Done, Schm, Size, Func, Fntf, Kind, Path, Area, Klen, Bctl, Keys, Ivrp, Mrnf, Dupm, Imdl, Full, Damg}
use Rattle.terms.specs.declared.Operation.{Operation}
use Rattle.terms.specs.declared.Operation.TheVariants.{Sinon, AddM, DelM, Readm, Writm, Rqloc, Rdnxt, Readv, Readr, Readd, Writv, Addvc, Addvb, Addva, Delvd, Unknown}
use Rattle.blocks.specs.Blocks.{check_by}
use Rattle.schema.specs.declared.Entry.{Entry}
use Rattle.schema.specs.Decode.{path_of, set_count}
use Rattle.schema.specs.Layout.{keeps_rules}
use Rattle.schema.specs.Place.{in_set}
use Rattle.records.specs.Records.{key_on}
use Rattle.records.specs.Areas.{is_master, area_length, area_master_key, area_key_on}
use Rattle.plans.specs.Plan.{blocks_sealed}
use Rattle.scan.specs.Scan.{is_full}
use Rattle.masters.specs.declared.Found.{Found}
use Rattle.masters.specs.Find.{is_at, is_missing, is_damaged}
use Rattle.masters.specs.Root.{add_master_full, add_master_damaged, del_master_damaged}
use Rattle.points.specs.Chains.{is_point_of, read_damaged, has_points}
use Rattle.points.specs.Points.{find_on, add_damaged, del_damaged}
use Rattle.sound.specs.Sound.{sound}
use Rattle.calls.specs.Call.{Call, one_of, whole_calls, master_calls, variable_calls, adds}
use Rattle.calls.specs.Scene.{Scene}
use Rattle.calls.specs.Reply.{master_in, home_of_key, full_area, forward, backward, spot_of, stores_of}
use Rattle.schema.specs.Naming.{link_of}

-- ---- what the tests judge

-- 5: "master call on a variable set, or the reverse"
unfoldable pub wrong_kind : Operation → Entry → Bool
wrong_kind o e = one_of o master_calls && not (is_master e) || one_of o variable_calls && is_master e

-- 8: the length of the control key
abbrev pub key_length : Scene → ℕ
key_length x = x.masters.key

-- 9: "for any area key of ADD-M or an add"
unfoldable pub blank_area_key : Entry → List ℕ → Bool
blank_area_key e area =
    cond (is_master e) (all_blank (area_master_key e area)) (not (all_below (λ k. not (all_blank (area_key_on e area k))) e.count))

-- 10: "ADD-M, WRITM, and for adds the named path's key": differs from the control key; `on` is the named path
unfoldable pub other_area_key : Entry → ℕ → List ℕ → List ℕ → Bool
other_area_key e on key area = not (same_bytes (cond (is_master e) (area_master_key e area) (area_key_on e area on)) key)

-- 11, "Forms for 11": a record number, the named path's LKxx
abbrev pub is_number : Scene → Call → Bool
is_number x c = in_set x.entry c.reference

abbrev pub is_link : Scene → Call → Bool
is_link x c = eqb c.reference (link_of x.path)

-- 11: the reference is not a live record of the named path and the control key
abbrev pub strays : Scene → Call → Bool
strays x c = not (is_point_of c.base x.entry x.path c.key c.reference)

-- "10 for WRITV if an area key differs from the stored one"
unfoldable pub other_stored_key : List ℕ → Entry → ℕ → List ℕ → Bool
other_stored_key b e r area = not (all_below (λ k. same_bytes (area_key_on e area k) (key_on b e r (path_of e k))) e.count)

-- the master of path k, by the key there: of an add the area's, in DELVD the record's own
abbrev pub added_on : Scene → Call → ℕ → Found
added_on x c k = find_on c.base x.schema x.entry k (area_key_on x.entry (full_area x c) k)

abbrev pub own_on : Scene → Call → ℕ → Found
own_on x c k = find_on c.base x.schema x.entry k (key_on c.base x.entry c.reference (path_of x.entry k))

-- the path k is not the named one, whose master comes before them all
abbrev pub is_other_path : Scene → ℕ → Bool
is_other_path x k = not (eqb k x.on)

-- 16 of READV and READR, on their way to the record r
abbrev pub way_damaged : Scene → Call → ℕ → Bool
way_damaged x c r = read_damaged c.base x.entry x.path x.masters (master_in x) c.key (is_link x c) r

-- ---- which calls

-- those that look a control key up, and those that need its master
abbrev pub finders : List Operation
finders = AddM ∷ DelM ∷ Readm ∷ Writm ∷ variable_calls

abbrev pub needers : List Operation
needers = DelM ∷ Readm ∷ Writm ∷ variable_calls

-- "7 (not DEL-M, DELVD, RQLOC, which ignore the area)"; "FORMT and SINON test no more parameters"
abbrev pub arealess : List Operation
arealess = DelM ∷ Delvd ∷ Rqloc ∷ whole_calls

-- those without a control key
abbrev pub keyless : List Operation
keyless = Rdnxt ∷ whole_calls

-- those that bring new keys, and those whose area's key must be the control key
abbrev pub key_bringers : List Operation
key_bringers = AddM ∷ adds

abbrev pub key_repeaters : List Operation
key_repeaters = AddM ∷ Writm ∷ adds

-- those that read along a chain, and those whose reference is the number of a record
abbrev pub chain_reads : List Operation
chain_reads = Readv ∷ Readr ∷ []

abbrev pub numbered : List Operation
numbered = Readd ∷ Writv ∷ Addvb ∷ Addva ∷ Delvd ∷ []

-- ---- the rungs: one for each test, named by what must hold

pub data Rung : Type 0 where
  -- 1 to 3: schema, data base, operation
  SchemaRules : Rung
  BaseLength : Rung
  KnownCall : Rung
  -- 4 to 6: set and path
  SetName : Rung
  SetKind : Rung
  PathName : Rung
  -- 7 to 11 by form
  AreaLength : Rung
  KeyLength : Rung
  KeyNotBlank : Rung
  AreaKeysNotBlank : Rung
  AreaKeySame : Rung
  ReadForm : Rung
  SweepForm : Rung
  LastForm : Rung
  NumberForm : Rung
  -- the named master, the referenced record
  MasterIntact : Rung
  MasterThere : Rung
  MasterNew : Rung
  ReadPoint : Rung
  NumberPoint : Rung
  -- 10 for WRITV
  StoredKeys : Rung
  -- the other paths' masters: of an add, and of DELVD
  AddedIntact : ℕ → Rung
  AddedThere : ℕ → Rung
  OwnIntact : ℕ → Rung
  OwnThere : ℕ → Rung
  -- 14 and 15
  NoPoints : Rung
  MasterRoom : Rung
  PointRoom : Rung
  -- the final 16
  SoundBase : Rung
  ForwardIntact : Rung
  BackwardIntact : Rung
  AddHomeIntact : Rung
  DelHomeIntact : Rung
  AddChainsIntact : Rung
  DelChainsIntact : Rung
  StoredIntoSealed : Rung

-- a rung's test: the status that it refuses with, the calls that have it, and what it refuses
pub record Rule : Type 0 where
  pub status : Status
  pub asked : Operation → Bool
  pub broken : Scene → Call → Bool

-- a test of the named calls, and of all but those
abbrev pub on : List Operation → Status → (Scene → Call → Bool) → Rule
on os s broken = record { status = s; asked = λ o. one_of o os; broken = broken }

abbrev pub but : List Operation → Status → (Scene → Call → Bool) → Rule
but os s broken = record { status = s; asked = λ o. not (one_of o os); broken = broken }

abbrev pub rule_of : Rung → Rule
rule_of SchemaRules = but [] Schm (λ x c. not (keeps_rules c.schema))
rule_of BaseLength = but [] Size (λ x c. not (eqb (length c.base) (x.schema.blocks * 512)))
rule_of KnownCall = on (Unknown ∷ []) Func (λ x c. true)
rule_of SetName = but whole_calls Fntf (λ x c. not (ltb x.number (set_count x.schema)))
rule_of SetKind = but whole_calls Kind (λ x c. wrong_kind x.operation x.entry)
rule_of PathName = on variable_calls Path (λ x c. not (ltb x.on x.entry.count))
rule_of AreaLength = but arealess Area (λ x c. not (eqb (length c.area) (area_length x.entry)))
rule_of KeyLength = but keyless Klen (λ x c. not (eqb (length c.key) (key_length x)))
rule_of KeyNotBlank = but keyless Bctl (λ x c. all_blank c.key)
rule_of AreaKeysNotBlank = on key_bringers Bctl (λ x c. blank_area_key x.entry (full_area x c))
rule_of AreaKeySame = on key_repeaters Keys (λ x c. other_area_key x.entry x.on c.key (full_area x c))
rule_of ReadForm = on chain_reads Ivrp (λ x c. not (is_link x c || is_number x c))
rule_of SweepForm = on (Rdnxt ∷ []) Ivrp (λ x c. not (leb c.reference x.entry.records))
rule_of LastForm = on (Addvc ∷ []) Ivrp (λ x c. eqb c.reference end_ref)
rule_of NumberForm = on numbered Ivrp (λ x c. not (is_number x c))
rule_of MasterIntact = on finders Damg (λ x c. is_damaged x.found)
rule_of MasterThere = on needers Mrnf (λ x c. is_missing x.found)
rule_of MasterNew = on (AddM ∷ []) Dupm (λ x c. is_at x.found)
rule_of ReadPoint = on chain_reads Ivrp (λ x c. not (is_link x c) && strays x c)
rule_of NumberPoint = on numbered Ivrp strays
rule_of StoredKeys = on (Writv ∷ []) Keys (λ x c. other_stored_key c.base x.entry c.reference (full_area x c))
-- "for adds and DELVD the other paths' masters in path order (16, then 12; in DELVD an absent one is 16)"
rule_of (AddedIntact k) = on adds Damg (λ x c. is_other_path x k && is_damaged (added_on x c k))
rule_of (AddedThere k) = on adds Mrnf (λ x c. is_other_path x k && is_missing (added_on x c k))
rule_of (OwnIntact k) = on (Delvd ∷ []) Damg (λ x c. is_other_path x k && is_damaged (own_on x c k))
rule_of (OwnThere k) = on (Delvd ∷ []) Damg (λ x c. is_other_path x k && is_missing (own_on x c k))
rule_of NoPoints = on (DelM ∷ []) Imdl (λ x c. has_points x.schema c.base x.number (master_in x))
rule_of MasterRoom = on (AddM ∷ []) Full (λ x c. add_master_full c.base x.entry (home_of_key x c))
rule_of PointRoom = on adds Full (λ x c. is_full c.base x.entry)
rule_of SoundBase = on (Sinon ∷ []) Damg (λ x c. not (sound x.schema c.base))
rule_of ForwardIntact = on (Readv ∷ []) Damg (λ x c. way_damaged x c (forward x c))
rule_of BackwardIntact = on (Readr ∷ []) Damg (λ x c. way_damaged x c (backward x c))
rule_of AddHomeIntact = on (AddM ∷ []) Damg (λ x c. add_master_damaged c.base x.entry (home_of_key x c))
rule_of DelHomeIntact = on (DelM ∷ []) Damg (λ x c. del_master_damaged c.base x.entry (home_of_key x c) (master_in x))
rule_of AddChainsIntact =
    on adds Damg (λ x c. add_damaged c.base x.schema x.entry (full_area x c) (spot_of x.operation c.reference) x.on)
rule_of DelChainsIntact = on (Delvd ∷ []) Damg (λ x c. del_damaged c.base x.schema x.entry c.reference)
rule_of StoredIntoSealed = but [] Damg (λ x c. not (blocks_sealed (check_by x.schema.edition) c.base (stores_of x c)))

-- ---- their order: the ladder, and its groups as the code goes down it

abbrev pub general_rungs : List Rung
general_rungs = SchemaRules ∷ BaseLength ∷ KnownCall ∷ []

abbrev pub place_rungs : List Rung
place_rungs = SetName ∷ SetKind ∷ PathName ∷ []

abbrev pub form_rungs : List Rung
form_rungs = AreaLength ∷ KeyLength ∷ KeyNotBlank ∷ AreaKeysNotBlank ∷ AreaKeySame ∷ ReadForm ∷ SweepForm ∷ LastForm ∷ NumberForm ∷ []

abbrev pub seek_rungs : List Rung
seek_rungs = MasterIntact ∷ MasterThere ∷ MasterNew ∷ ReadPoint ∷ NumberPoint ∷ []

-- path k's, of an add and of DELVD; and those of a set of n paths
abbrev pub added_rungs : ℕ → List Rung
added_rungs k = AddedIntact k ∷ AddedThere k ∷ []

abbrev pub own_rungs : ℕ → List Rung
own_rungs k = OwnIntact k ∷ OwnThere k ∷ []

abbrev pub other_rungs : ℕ → List Rung
other_rungs n = concat_below added_rungs n ++ concat_below own_rungs n

abbrev pub final_rungs : List Rung
final_rungs =
    NoPoints
    ∷ MasterRoom
    ∷ PointRoom
    ∷ SoundBase
    ∷ ForwardIntact
    ∷ BackwardIntact
    ∷ AddHomeIntact
    ∷ DelHomeIntact
    ∷ AddChainsIntact
    ∷ DelChainsIntact
    ∷ StoredIntoSealed
    ∷ []

-- behind the named master and the referenced record
abbrev pub rest_rungs : Scene → List Rung
rest_rungs x = StoredKeys ∷ (other_rungs x.entry.count ++ final_rungs)

-- all of them, for a call on this set
unfoldable pub ladder : Scene → List Rung
ladder x = general_rungs ++ (place_rungs ++ (form_rungs ++ (seek_rungs ++ rest_rungs x)))

-- ---- what they come to

-- does this test refuse the call?
abbrev pub refuses : Scene → Call → Rung → Bool
refuses x c r = (rule_of r).asked x.operation && (rule_of r).broken x c

-- the first test that refuses decides; none: done
unfoldable pub refusal : Scene → Call → List Rung → Status
refusal x c [] = Done
refusal x c (r ∷ rs) = cond (refuses x c r) (rule_of r).status (refusal x c rs)
