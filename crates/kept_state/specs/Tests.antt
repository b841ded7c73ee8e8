-- What a call that stores has passed, in the words of the proof: of the tests of the ladder those that its effect depends on.
use Rattle.std.specs.Prelude.{ℕ, ◌≤◌, ◌<◌, ◌≡◌, true, false, List, length}
use Rattle.octets.specs.Octets.{all_blank}
use Rattle.schema.specs.declared.Schema.{Schema}
use Rattle.schema.specs.Decode.{entry_of, path_of, set_count}
use Rattle.schema.specs.Guarantee.{IsPathOf}
use Rattle.records.specs.Records.{key_on}
use Rattle.records.specs.Areas.{area_length, area_master_key, area_key_on}
use Rattle.scan.specs.Scan.{is_full}
use Rattle.masters.specs.Find.{find, home_in, record_found, is_at, is_missing}
use Rattle.masters.specs.Root.{add_master_full}
use Rattle.points.specs.Chains.{has_points}
use Rattle.points.specs.Points.{find_on}
use Rattle.points.specs.declared.Spot.{Spot}
use Rattle.points.specs.declared.Spot.TheVariants.{Last, After, Before}
use Rattle.sound.specs.Sets.{Live}

-- ADD-M on set n
pub record AddMasterTests (t : Schema) (b : List ℕ) (n : ℕ) (key area : List ℕ) : Type 0 where
  pub set : n < t.masters
  pub area-length : length area ≡ area_length (entry_of t n)
  pub no_blank : all_blank key ≡ false
  pub same_key : area_master_key (entry_of t n) area ≡ key
  pub absent : is_missing (find b (entry_of t n) key) ≡ true
  pub room : add_master_full b (entry_of t n) (home_in (entry_of t n) key) ≡ false

-- DEL-M
pub record DelMasterTests (t : Schema) (b : List ℕ) (n : ℕ) (key : List ℕ) : Type 0 where
  pub set : n < t.masters
  pub found : is_at (find b (entry_of t n) key) ≡ true
  pub no_points : has_points t b n (record_found (find b (entry_of t n) key)) ≡ false

-- WRITM
pub record WriteMasterTests (t : Schema) (b : List ℕ) (n : ℕ) (key area : List ℕ) : Type 0 where
  pub set : n < t.masters
  pub area-length : length area ≡ area_length (entry_of t n)
  pub found : is_at (find b (entry_of t n) key) ≡ true

-- the record that an add refers to is on the named path's chain of the new record's key
abbrev pub SpotOk : Schema → List ℕ → ℕ → ℕ → List ℕ → Spot → Type 0
SpotOk t b i named area Last = Unit {0}
SpotOk t b i named area (After q) = Live b (entry_of t i) q.0 × (key_on b (entry_of t i) q.0 (path_of (entry_of t i) named) ≡ area_key_on (entry_of t i) area named)
SpotOk t b i named area (Before q) = Live b (entry_of t i) q.0 × (key_on b (entry_of t i) q.0 (path_of (entry_of t i) named) ≡ area_key_on (entry_of t i) area named)

-- ADDVC, ADDVB, ADDVA on set i
pub record AddTests (t : Schema) (b : List ℕ) (i named : ℕ) (area : List ℕ) (spot : Spot) : Type 0 where
  pub path : IsPathOf t i named
  pub area-length : length area ≡ area_length (entry_of t i)
  pub no_blank : (k : ℕ) → k < (entry_of t i).count → all_blank (area_key_on (entry_of t i) area k) ≡ false
  pub found : (k : ℕ) → k < (entry_of t i).count → is_at (find_on b t (entry_of t i) k (area_key_on (entry_of t i) area k)) ≡ true
  pub spot_ok : SpotOk t b i named area spot
  pub room : is_full b (entry_of t i) ≡ false

-- DELVD of record r of set i
pub record DelTests (t : Schema) (b : List ℕ) (i r : ℕ) : Type 0 where
  pub set : (t.masters ≤ i) × (i < set_count t)
  pub live : Live b (entry_of t i) r

-- WRITV of record r of set i
pub record WriteTests (t : Schema) (b : List ℕ) (i r : ℕ) (area : List ℕ) : Type 0 where
  pub set : (t.masters ≤ i) × (i < set_count t)
  pub live : Live b (entry_of t i) r
  pub area-length : length area ≡ area_length (entry_of t i)
  pub same_keys : (k : ℕ) → k < (entry_of t i).count → area_key_on (entry_of t i) area k ≡ key_on b (entry_of t i) r (path_of (entry_of t i) k)
