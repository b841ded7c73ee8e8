-- Masters lie in the largest base, and the keys of an area and of a record lie in it.
use Rattle.std.specs.Prelude.{ℕ, ◌<◌, ◌≡◌, false, List, length, get_or}
use Rattle.std.proofs.Common.{arith, ne_eqb}
use Rattle.octets.specs.SpliceLaws.{run_run}
use Rattle.schema.specs.declared.Entry.{Entry}
use Rattle.schema.specs.declared.Part.{Part}
use Rattle.schema.specs.Decode.{path_of}
use Rattle.schema.specs.Place.{LiesIn, place_of, record_of}
use Rattle.records.specs.Records.{key_on}
use Rattle.records.specs.InBase.{PointsIn}
use Rattle.records.specs.Areas.{is_master, area_key_place, area_length}
use Rattle.records.proofs.AreaLaws.{area-key-inside, variable_keys}
use Rattle.point_plans.specs.Paths.{key_at}
use Rattle.point_plans.specs.Within.{OwnersIn, KeysIn}

pub owners_most : {e : Entry} {n : ℕ} (owners : List Part) → LiesIn e n → OwnersIn e owners n → OwnersIn e owners 2097152
owners_most owners l h = record { owner = λ k m. let o = h.owner k m in record { inside = omega (arith, o.inside, l.small); link = o.link } }

-- the keys of an area of the right length, and of a record of the set
pub area_keys_in : {e : Entry} {n : ℕ} (at area : List ℕ) → PointsIn e n → length area ≡ area_length e → ((k : ℕ) → k < e.count → get_or at k 0 ≡ area_key_place e k)
    → KeysIn e at (length area)
area_keys_in {e} at area h l places =
    let v : is_master e ≡ false = ne_eqb e.kind 1 (λ z. omega (arith, h.kind)) in
    record { inside = λ k m. omega (arith, places k m, area-key-inside e k e.count m, variable_keys e v) }

pub record_keys_in : {e : Entry} {n m : ℕ} (at : List ℕ) → PointsIn e n → m ≡ e.size → ((k : ℕ) → k < e.count → get_or at k 0 ≡ (path_of e k).at) → KeysIn e at m
record_keys_in at h l places = record { inside = λ k j. omega (arith, places k j, (h.path k j).inside) }

-- a key that is read in the record's part is the record's
pub record_key : {e : Entry} {n : ℕ} (b : List ℕ) (r : ℕ) (at : List ℕ) → PointsIn e n → ((k : ℕ) → k < e.count → get_or at k 0 ≡ (path_of e k).at)
    → (k : ℕ) → k < e.count → key_at (record_of b e r) e at k ≡ key_on b e r (path_of e k)
record_key {e} b r at h places k l =
    rw (places k l) (run_run b (place_of e r) e.size (path_of e k).at (path_of e k).len (omega (arith, (h.path k l).inside)))
