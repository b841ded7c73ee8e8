-- Every path of the schema is a place of Readings: the names of its set, of the path and of its masters' set lead to them, and there are areas
-- to lend. And a place is a path of the schema.
use Rattle.std.specs.Prelude.{ℕ, ◌≤◌, ◌<◌, ◌≡◌, refl, Bool, true, false, List, ltb, length}
use Rattle.std.proofs.Common.{arith, ltb-true, ltb-false}
use Rattle.std.proofs.lemmas.List.{length-replicate}
use Rattle.octets.specs.Octets.{word_bytes, zeros}
use Rattle.schema.specs.declared.Schema.{Schema}
use Rattle.schema.specs.Decode.{entry_of, path_of, set_count, schema_of}
use Rattle.schema.specs.Layout.{keeps_rules}
use Rattle.schema.specs.Guarantee.{SchemaOk, IsPathOf}
use Rattle.schema.proofs.GuaranteeLaws.{guaranteed}
use Rattle.records.specs.Areas.{area_length}
use Rattle.schema.specs.Naming.{set_named, path_name}
use Rattle.condition3.specs.Readings.{Place, set_no, path_no, IsPlace}
use Rattle.schema.proofs.NamingLaws.{set_named_lem, path_named_lem}

-- a place names a path of a variable set: masters have no paths
pub place-path : (t : Schema) (w : Place) → SchemaOk t → IsPlace t w → IsPathOf t (set_no t w) (path_no t w)
place-path t w ok p = (go (ltb (set_no t w) t.masters) refl, p.set, p.path)
  where
    go : (b : Bool) → ltb (set_no t w) t.masters ≡ b → t.masters ≤ set_no t w
    go true h = absurd (omega (arith, p.path, (ok.master (set_no t w) (ltb-true _ _ h)).none))
    go false h = ltb-false _ _ h

-- a path of the schema by its names, with areas of zeros
abbrev place_on : Schema → ℕ → ℕ → Place
place_on t i j =
    record {
      set = word_bytes (entry_of t i).name;
      path = path_name t (path_of (entry_of t i) j);
      masters = word_bytes (entry_of t (path_of (entry_of t i) j).master.0).name;
      point-area = zeros (area_length (entry_of t i));
      master-area = zeros (area_length (entry_of t (path_of (entry_of t i) j).master.0));
    }

module _ (t : Schema) (ok : SchemaOk t) (i j : ℕ) (h : IsPathOf t i j) where
  set_there : set_no t (place_on t i j) ≡ i
  set_there = set_named_lem t ok i h.1

  path_there : path_no t (place_on t i j) ≡ j
  path_there = rw set_there (path_named_lem t ok i j h)

  masters-there : set_named t (place_on t i j).masters ≡ (path_of (entry_of t i) j).master.0
  masters-there =
      let l : (path_of (entry_of t i) j).master.0 < set_count t = omega (arith, (ok.path i j h).master) in
      set_named_lem t ok (path_of (entry_of t i) j).master.0 l

  there : IsPlace t (place_on t i j)
  there =
      record {
        set = rw set_there h.1;
        path = rw (path_there, set_there) h.2;
        masters = rw (path_there, set_there) masters-there;
        point-area = rw set_there (length-replicate _ 0);
        master-area = rw masters-there (length-replicate _ 0);
      }

  -- four letters of the masters, LK and two letters
  path_length : length (place_on t i j).path ≡ 8
  path_length = omega (arith, (ok.path i j h).letters)

pub every_path : (s : List ℕ) → keeps_rules s ≡ true → (i j : ℕ) → IsPathOf (schema_of s) i j
    → (w : Place) × IsPlace (schema_of s) w × (set_no (schema_of s) w ≡ i) × (path_no (schema_of s) w ≡ j)
    × (length w.set ≡ 4) × (length w.path ≡ 8) × (length w.masters ≡ 4)
every_path s kept i j h =
    let ok = guaranteed s kept in
    let t = schema_of s in
    (place_on t i j, there t ok i j h, set_there t ok i j h, path_there t ok i j h, refl, path_length t ok i j h, refl)
