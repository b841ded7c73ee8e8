-- The keys of a record that is read into an area: they stand there in path order, one behind the other, so the area's key on a path is the
-- record's key on that path.
use Prim.Native.Nat.{ℕ, zero, suc, ◌+◌, ◌-◌, ◌≤◌, ◌<◌}
use Rattle.std.specs.Prelude.{◌≡◌, false, length, drop}
use Rattle.std.proofs.Math.Path.{ap}
use Rattle.std.proofs.Common.{◌∙◌, take_at}
use mathlib.Core.List.{List, ◌++◌, append_assoc}
use native.Mathlib.Omega.{arith}
use Rattle.octets.specs.Octets.{run}
use Rattle.octets.specs.SpliceLaws.{length_run}
use Rattle.schema.specs.declared.Entry.{Entry}
use Rattle.schema.specs.Decode.{path_of, paths_of}
use Rattle.schema.specs.Place.{place_of}
use Rattle.records.specs.Records.{body_of, key_on}
use Rattle.records.specs.Areas.{is_master, area_key_place, area_key_on, keys_on, area_of}
use Rattle.records.proofs.AreaLaws.{path_inside, paths-step, area-key-first, area-key-turn, area-key-inside}
use Rattle.records.specs.Fields.{Fields}
use Rattle.records.proofs.NewLaws.{run_behind}

module _ (b : List ℕ) (e : Entry) (r j : ℕ) (f : Fields e) (v : is_master e ≡ false) (whole : place_of e r + (e.body + e.room) ≤ length b) (h : j < e.count) where
  key-length : (k : ℕ) → k < e.count → length (key_on b e r (path_of e k)) ≡ (path_of e k).len
  key-length k l = length_run b (place_of e r + (path_of e k).at) (path_of e k).len (omega (arith, path_inside e f v k l))

  -- the keys from path k on, n paths before path j
  from : (n k a : ℕ) (d : List ℕ) → k + n ≡ j → area_key_place e k + a ≡ area_key_place e j
      → run (keys_on b e r (drop k (paths_of e)) ++ d) a (path_of e j).len ≡ key_on b e r (path_of e j)
  unfolding keys_on
  from zero k a d q p =
      let same : k ≡ j = omega arith in
      let at : a ≡ 0 = omega (arith, ap (area_key_place e) same) in
      rw (same, at, paths-step e f j h, append_assoc (key_on b e r (path_of e j))) (take_at (key_on b e r (path_of e j)) _ (path_of e j).len (key-length j h))
  from (suc n) k a d q p =
      let l : k < e.count = omega arith in
      let past : a ≡ (path_of e k).len + (a - (path_of e k).len) = omega (arith, area-key-inside e k j (omega arith)) in
      rw (paths-step e f k l, append_assoc (key_on b e r (path_of e k)), past)
      (run_behind (key_on b e r (path_of e k)) _ (path_of e k).len (a - (path_of e k).len) (path_of e j).len (key-length k l)
      ∙ from n (k + 1) (a - (path_of e k).len) d (omega arith) (omega (arith, area-key-turn e k)))

  pub area-key_of : area_key_on e (area_of b e r) j ≡ key_on b e r (path_of e j)
  unfolding area_of
  area-key_of = rw v (from j 0 (area_key_place e j) (body_of b e r) (omega arith) (omega (arith, area-key-first e)))
