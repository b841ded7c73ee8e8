-- Areas: what a set's layout says of its fields, where an area's keys stand, and that a record's keys and D bytes, stored one behind the other,
-- are the record's area.
use Prim.Native.Nat.{ℕ, zero, suc, ◌+◌, ◌≤◌, ◌<◌}
use Rattle.std.specs.Prelude.{◌≡◌, Bool, Some, ltb, drop}
use Rattle.std.proofs.Math.Path.{refl, sym, ap}
use Rattle.std.proofs.Common.{◌∙◌, add-one, eq-eqb, ne_eqb, ltb-true, ltb-false, drop_of_length-le, drop-cons, get_or-take, length-take-le}
use Rattle.std.proofs.Math.Bool.{true, false, cond}
use mathlib.Core.List.{List, [], ◌∷◌, ◌++◌, append_assoc}
use native.Mathlib.Omega.{arith}
use Rattle.std.proofs.Math.ListN.{length, length-append}
use Rattle.octets.specs.Octets.{run, splice}
use Rattle.octets.specs.Below.{sum_below}
use Rattle.octets.specs.SpliceLaws.{length_run, run_run, splice_append, splice-whole, splice_join}
use Rattle.octets.specs.BelowLaws.{sum_below-turn, sum_below_le, sum_below-at, sum_below-same, length-upto}
use Rattle.octets.specs.TestLaws.{never_both}
use Rattle.schema.specs.declared.Path.{Path}
use Rattle.schema.specs.declared.Entry.{Entry}
use Rattle.schema.specs.declared.Schema.{Schema}
use Rattle.schema.specs.Fields.{masters_of, sets_of, kind_of, count_of, master_of}
use Rattle.schema.specs.Layout.{path_key_length, key_place, keeps_rules}
use Rattle.schema.specs.Decode.{no_path, entry_of, path_of, paths_of, set_count, path_from, schema_of, decoded_schema, full_entry}
use Rattle.schema.specs.Place.{place_of}
use Rattle.schema.proofs.RuleFacts.{head_facts, set_facts, master-facts, variable-facts, path_facts}
use Rattle.schema.proofs.LayoutLaws.{body_variable, body_master}
use Rattle.schema.proofs.GuaranteeLaws.{set_is, path_is, decoded_schema-some}
use Rattle.records.specs.Records.{body_of, master_key}
use Rattle.records.specs.Areas.{is_master, area_key_place, area_keys, area_length, keys_on, area_of}
use Rattle.records.specs.Fields.{path_place, Fields}

-- ---- what a set's layout says of its fields

-- ---- places

-- how many bytes of an area are keys, by the kind of its set
pub master_keys : (e : Entry) → is_master e ≡ true → area_keys e ≡ e.key
master_keys e m = rw m refl

pub variable_keys : (e : Entry) → is_master e ≡ false → area_keys e ≡ area_key_place e e.count
variable_keys e v = rw v refl

module _ (e : Entry) where
  pub area-key-first : area_key_place e 0 ≡ 0
  unfolding area_key_place sum_below
  area-key-first = refl

  pub area-key-turn : (j : ℕ) → area_key_place e (j + 1) ≡ area_key_place e j + (path_of e j).len
  unfolding area_key_place
  area-key-turn j = sum_below-turn (λ k. (path_of e k).len) j

  pub area-key-inside : (j n : ℕ) → j < n → area_key_place e j + (path_of e j).len ≤ area_key_place e n
  unfolding area_key_place
  area-key-inside j n h = sum_below-at (λ k. (path_of e k).len) j n h

  pub path_place-first : path_place e 0 ≡ 4
  unfolding path_place sum_below
  path_place-first = refl

  pub path_place-turn : (j : ℕ) → path_place e (j + 1) ≡ path_place e j + ((path_of e j).len + 8)
  unfolding path_place
  path_place-turn j = omega (arith, sum_below-turn (λ k. (path_of e k).len + 8) j)

  pub path_place-inside : (j n : ℕ) → j < n → path_place e j + ((path_of e j).len + 8) ≤ path_place e n
  unfolding path_place
  path_place-inside j n h = omega (arith, sum_below-at (λ k. (path_of e k).len + 8) j n h)

  pub path_place_le : (j n : ℕ) → j ≤ n → path_place e j ≤ path_place e n
  unfolding path_place
  path_place_le j n h = omega (arith, sum_below_le (λ k. (path_of e k).len + 8) j n h)

  keys_below : (n : ℕ) → sum_below (λ k. (path_of e k).len) n ≤ sum_below (λ k. (path_of e k).len + 8) n
  unfolding sum_below
  keys_below zero = omega arith
  keys_below (suc n) = omega (arith, keys_below n)

  -- a record's keys stand in front of its D bytes
  pub keys_inside : Fields e → area_keys e ≤ e.body
  unfolding area_key_place path_place
  keys_inside f = go (is_master e) refl
    where
      go : (m : Bool) → is_master e ≡ m → cond m e.key (area_key_place e e.count) ≤ e.body
      go true h = omega (arith, f.key h)
      go false h = omega (arith, keys_below e.count, f.behind h)

  -- so do the state and the three zeros of a variable
  pub head_inside : Fields e → is_master e ≡ false → 4 ≤ e.body
  unfolding path_place
  head_inside f v = omega (arith, f.behind v)

  -- the fields of a path stand in front of the D bytes
  pub path_inside : Fields e → is_master e ≡ false → (j : ℕ) → j < e.count → (path_of e j).at + (path_of e j).len + 8 ≤ e.body
  path_inside f v j h = omega (arith, path_place-inside j e.count h, f.packed j h, f.behind v)

-- ---- one splice

-- ---- a record read into an area

-- the keys of a record's part, one behind the other
unfoldable pub keys_in : List ℕ → List Path → List ℕ
keys_in part [] = []
keys_in part (p ∷ ps) = run part p.at p.len ++ keys_in part ps

-- the paths of a set from path j on: path j, then those from the next on; none from the last on
module _ (e : Entry) (f : Fields e) where
  paths-length : length (paths_of e) ≡ e.count
  paths-length = length-take-le e.count e.paths (omega (arith, f.few, f.four))

  pub paths-step : (j : ℕ) → j < e.count → drop j (paths_of e) ≡ path_of e j ∷ drop (j + 1) (paths_of e)
  paths-step j h =
      let l : j < length (paths_of e) = omega (arith, paths-length) in
      rw (add-one, drop-cons (paths_of e) j no_path l, get_or-take e.count e.paths j no_path h)

  pub paths-done : (j : ℕ) → e.count ≤ j → drop j (paths_of e) ≡ []
  paths-done j h = drop_of_length-le (paths_of e) {i = j} (omega (arith, paths-length))

-- a turn: path j's key is copied, and what is left begins behind it
module _ (e : Entry) (f : Fields e) (part area d : List ℕ) (at j : ℕ) where
  pub keys_turn : j < e.count → (path_of e j).at + (path_of e j).len ≤ length part
      → splice (splice area at (run part (path_of e j).at (path_of e j).len)) (at + (path_of e j).len) (keys_in part (drop (j + 1) (paths_of e)) ++ d)
      ≡ splice area at (keys_in part (drop j (paths_of e)) ++ d)
  unfolding keys_in
  keys_turn h i =
      let k = run part (path_of e j).at (path_of e j).len in
      let l : length k ≡ (path_of e j).len = length_run part (path_of e j).at (path_of e j).len i in
      sym (rw (paths-step e f j h, append_assoc k, splice_append area at k, l) refl)

  pub keys_end : e.count ≤ j → splice area at d ≡ splice area at (keys_in part (drop j (paths_of e)) ++ d)
  unfolding keys_in
  keys_end h = rw (paths-done e f j h) refl

-- what the keys of the record's part and of the record in the data base have in common: they are the same, and as long as the area's keys
module _ (b : List ℕ) (e : Entry) (r : ℕ) (f : Fields e) (v : is_master e ≡ false) (whole : place_of e r + (e.body + e.room) ≤ length b) where
  keys_part : (n j : ℕ) → j + n ≡ e.count → keys_in (run b (place_of e r) (e.body + e.room)) (drop j (paths_of e)) ≡ keys_on b e r (drop j (paths_of e))
  unfolding keys_in keys_on
  keys_part zero j h = rw (paths-done e f j (omega arith)) refl
  keys_part (suc n) j h =
      let i = path_inside e f v j (omega arith) in
      let p = run_run b (place_of e r) (e.body + e.room) (path_of e j).at (path_of e j).len (omega arith) in
      rw (paths-step e f j (omega arith), p, keys_part n (j + 1) (omega arith)) refl

  keys_length : (n j : ℕ) → j + n ≡ e.count → area_key_place e j + length (keys_on b e r (drop j (paths_of e))) ≡ area_key_place e e.count
  unfolding keys_on
  keys_length zero j h = let q : j ≡ e.count = omega arith in rw (paths-done e f j (omega arith), q) (omega arith)
  keys_length (suc n) j h =
      let i = path_inside e f v j (omega arith) in
      let l = length_run b (place_of e r + (path_of e j).at) (path_of e j).len (omega arith) in
      rw (paths-step e f j (omega arith), length-append, l) (omega (arith, keys_length n (j + 1) (omega arith), area-key-turn e j))

-- an area has the length that it should have
pub length-area_of : (b : List ℕ) (e : Entry) (r : ℕ) → Fields e → place_of e r + (e.body + e.room) ≤ length b → length (area_of b e r) ≡ area_length e
unfolding area_of
length-area_of b e r f h = rw (length-append, length_run b (place_of e r + e.body) e.room (omega arith)) (ap (λ (n : ℕ). n + e.room) (go (is_master e) refl))
  where
    go : (m : Bool) → is_master e ≡ m → length (cond m (master_key b e r) (keys_on b e r (paths_of e))) ≡ cond m e.key (area_key_place e e.count)
    go true m = length_run b (place_of e r + 12) e.key (omega (arith, f.key m))
    go false m = omega (arith, keys_length b e r f m h e.count 0 (omega arith), area-key-first e)

-- an area by the kind of its set
master-form : (b : List ℕ) (e : Entry) (r : ℕ) → is_master e ≡ true → area_of b e r ≡ master_key b e r ++ body_of b e r
unfolding area_of
master-form b e r m = rw m refl

variable-form : (b : List ℕ) (e : Entry) (r : ℕ) → is_master e ≡ false → area_of b e r ≡ keys_on b e r (paths_of e) ++ body_of b e r
unfolding area_of
variable-form b e r m = rw m refl

-- a variable record's keys and D bytes, stored into the whole area, are the area; so are a master's
module _ (b : List ℕ) (e : Entry) (r : ℕ) (f : Fields e) (h : place_of e r + (e.body + e.room) ≤ length b) (area : List ℕ) (l : length area ≡ area_length e) where
  whole-area : splice area 0 (area_of b e r) ≡ area_of b e r
  whole-area = splice-whole area (area_of b e r) (length-area_of b e r f h ∙ sym l)

  pub variable-area : is_master e ≡ false
      → splice area 0 (keys_in (run b (place_of e r) (e.body + e.room)) (paths_of e) ++ run (run b (place_of e r) (e.body + e.room)) e.body e.room) ≡ area_of b e r
  variable-area v =
      let k : keys_in (run b (place_of e r) (e.body + e.room)) (paths_of e) ≡ keys_on b e r (paths_of e) = keys_part b e r f v h e.count 0 (omega arith) in
      rw (k, run_run b (place_of e r) (e.body + e.room) e.body e.room (omega arith), ← variable-form b e r v) whole-area

  pub master-area : is_master e ≡ true
      → splice (splice area 0 (run (run b (place_of e r) (e.body + e.room)) 12 e.key)) e.key (run (run b (place_of e r) (e.body + e.room)) e.body e.room) ≡ area_of b e r
  master-area m =
      let i = f.key m in
      let n : 0 + length (master_key b e r) ≡ e.key = omega (arith, length_run b (place_of e r + 12) e.key (omega arith)) in
      rw (
        run_run b (place_of e r) (e.body + e.room) 12 e.key (omega arith),
        run_run b (place_of e r) (e.body + e.room) e.body e.room (omega arith),
        splice_join area 0 (master_key b e r) e.key (body_of b e r) n,
        ← master-form b e r m,
      ) whole-area

-- ---- every set of a decoded schema

module _ (s : List ℕ) (i : ℕ) (few : count_of s i ≤ 4) where
  path_place-is : (j : ℕ) → j ≤ count_of s i → path_place (full_entry s i) j ≡ key_place s i j
  unfolding path_place key_place
  path_place-is j h =
      ap (λ (n : ℕ). 4 + n)
      (sum_below-same (λ k. (path_of (full_entry s i) k).len + 8) (λ k. path_key_length s i k + 8) j (λ k l. ap (λ (p : Path). p.len + 8) (path_is s i k few (omega arith))))

  path_at_is : (j : ℕ) → j < count_of s i → (path_of (full_entry s i) j).at ≡ path_place (full_entry s i) j
  path_at_is j h = ap (λ (p : Path). p.at) (path_is s i j few h) ∙ sym (path_place-is j (omega arith))

module _ (s : List ℕ) (kept : keeps_rules s ≡ true) (i : ℕ) (l : i < sets_of s) where
  set_fields : Fields (full_entry s i)
  set_fields = go (ltb i (masters_of s)) refl
    where
      few : count_of s i ≤ 4
      few = (set_facts s kept i l).few

      go : (m : Bool) → ltb i (masters_of s) ≡ m → Fields (full_entry s i)
      go true m =
          let f = master-facts s kept i (ltb-true i (masters_of s) m) in
          let is : is_master (full_entry s i) ≡ true = eq-eqb (kind_of s i) 1 f.kind in
          record {
            few = few;
            four = length-upto (path_from s i) 4;
            key = λ k. omega (arith, body_master s i (ltb-true i (masters_of s) m));
            packed = path_at_is s i few;
            behind = λ v. absurd (never_both (is_master (full_entry s i)) is v);
            short = f.key_most;
            shorts = λ j h. absurd (omega (arith, f.none));
          }
      go false m =
          let f = variable-facts s kept i (ltb-false i (masters_of s) m) l in
          let is : is_master (full_entry s i) ≡ false = ne_eqb (kind_of s i) 1 (λ k. omega (arith, f.kind)) in
          record {
            few = few;
            four = length-upto (path_from s i) 4;
            key = λ k. absurd (never_both (is_master (full_entry s i)) k is);
            packed = path_at_is s i few;
            behind = λ v. path_place-is s i few (count_of s i) (omega arith) ∙ sym (body_variable s i (ltb-false i (masters_of s) m));
            short = omega (arith, f.no_key);
            shorts = λ j h. rw (path_is s i j few h) (master-facts s kept (master_of s i j) (path_facts s kept i j l h)).key_most;
          }

  pub fields_of : Fields (entry_of (schema_of s) i)
  fields_of = rw (set_is s i (omega (arith, head_facts s kept)) l) set_fields

pub decoded_fields : (s : List ℕ) (i : ℕ) {t : Schema} → decoded_schema s ≡ Some t → i < set_count t → Fields (entry_of t i)
unfolding schema_of
decoded_fields s i h l = let k = decoded_schema-some s h in rw k.1 (fields_of s k.0 i (rw k.1 at l))
