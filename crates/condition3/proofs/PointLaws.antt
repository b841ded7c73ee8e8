-- Lists of points: which points are shown of records, which of them have a key, and that none comes twice where no record does. `SameOnce` of
-- two lists of points so follows from what is known of the lists of records.
use Rattle.std.specs.Prelude.{ℕ, ◌≡◌, Bool, cond}
use Rattle.std.proofs.Math.Path.{refl, ap}
use Rattle.std.proofs.Common.{sym, ◌∙◌, inl}
use Rattle.std.proofs.Math.Logic.{inr}
use Rattle.std.proofs.Math.Bool.{true, false}
use mathlib.Core.List.{List, [], ◌∷◌}
use Rattle.octets.specs.Octets.{same_bytes}
use Rattle.octets.specs.RunLaws.{same_bytes_eq, eq_same_bytes}
use Rattle.schema.specs.declared.Entry.{Entry}
use Rattle.records.specs.Areas.{area_of, area_key_on}
use Rattle.chains.specs.Members.{In, Fresh, NoDup}
use Rattle.condition3.specs.Plain.{Point}
use Rattle.condition3.specs.Readings.{of_key, Among, NotNumbered, Once, SameOnce}
use Rattle.condition3.specs.Shown.{point_of, shown}

-- ---- records shown

module _ (b : List ℕ) (e : Entry) where
  among-shown : (x : Point) (rs : List ℕ) → Among x (shown b e rs) → (r : ℕ) × In r rs × (x ≡ point_of b e r)
  among-shown x [] m = absurd m
  among-shown x (r ∷ rs) (inl q) = (r, inl refl, q)
  among-shown x (r ∷ rs) (inr m) = let t = among-shown x rs m in (t.0, inr t.1, t.2)

  shown-among : (r : ℕ) (rs : List ℕ) → In r rs → Among (point_of b e r) (shown b e rs)
  shown-among r [] m = absurd m
  shown-among r (q ∷ rs) (inl d) = inl (ap (point_of b e) d)
  shown-among r (q ∷ rs) (inr m) = inr (shown-among r rs m)

  shown-fresh : (r : ℕ) (rs : List ℕ) → Fresh r rs → NotNumbered r (shown b e rs)
  shown-fresh r [] f = tt
  shown-fresh r (q ∷ rs) f = (f.0, shown-fresh r rs f.1)

  shown-once : (rs : List ℕ) → NoDup rs → Once (shown b e rs)
  shown-once [] d = tt
  shown-once (r ∷ rs) d = (shown-fresh r rs d.0, shown-once rs d.1)

-- ---- points of a key

module _ (e : Entry) (j : ℕ) (key : List ℕ) where
  of_key-among : (x : Point) (ys : List Point) → Among x (of_key e j key ys) → Among x ys × (area_key_on e x.area j ≡ key)
  unfolding of_key
  of_key-among x [] m = absurd m
  of_key-among x (y ∷ ys) m = by (same_bytes (area_key_on e y.area j) key) refl m (of_key-among x ys)
    where
      by : (t : Bool) → same_bytes (area_key_on e y.area j) key ≡ t → Among x (cond t (y ∷ of_key e j key ys) (of_key e j key ys))
          → (Among x (of_key e j key ys) → Among x ys × (area_key_on e x.area j ≡ key)) → Among x (y ∷ ys) × (area_key_on e x.area j ≡ key)
      by true q (inl d) more = (inl d, ap (λ (p : Point). area_key_on e p.area j) d ∙ same_bytes_eq _ _ q)
      by true q (inr n) more = let k = more n in (inr k.0, k.1)
      by false q n more = let k = more n in (inr k.0, k.1)

  among_of_key : (x : Point) (ys : List Point) → area_key_on e x.area j ≡ key → Among x ys → Among x (of_key e j key ys)
  unfolding of_key
  among_of_key x [] k m = absurd m
  among_of_key x (y ∷ ys) k (inl d) = rw (eq_same_bytes (area_key_on e y.area j) key (ap (λ (p : Point). area_key_on e p.area j) (sym d) ∙ k)) (inl d)
  among_of_key x (y ∷ ys) k (inr m) = by (same_bytes (area_key_on e y.area j) key) (among_of_key x ys k m)
    where
      by : (t : Bool) → Among x (of_key e j key ys) → Among x (cond t (y ∷ of_key e j key ys) (of_key e j key ys))
      by true n = inr n
      by false n = n

  of_key-fresh : (n : ℕ) (ys : List Point) → NotNumbered n ys → NotNumbered n (of_key e j key ys)
  unfolding of_key
  of_key-fresh n [] f = tt
  of_key-fresh n (y ∷ ys) f = by (same_bytes (area_key_on e y.area j) key) (of_key-fresh n ys f.1)
    where
      by : (t : Bool) → NotNumbered n (of_key e j key ys) → NotNumbered n (cond t (y ∷ of_key e j key ys) (of_key e j key ys))
      by true g = (f.0, g)
      by false g = g

  of_key-once : (ys : List Point) → Once ys → Once (of_key e j key ys)
  unfolding of_key
  of_key-once [] h = tt
  of_key-once (y ∷ ys) h = by (same_bytes (area_key_on e y.area j) key) (of_key-once ys h.1)
    where
      by : (t : Bool) → Once (of_key e j key ys) → Once (cond t (y ∷ of_key e j key ys) (of_key e j key ys))
      by true g = (of_key-fresh y.number ys h.0, g)
      by false g = g

-- the records of one list that have the key are those of another list
pub same_once : (b : List ℕ) (e : Entry) (j : ℕ) (key : List ℕ) (rs qs : List ℕ) → NoDup rs → NoDup qs
    → ((r : ℕ) → In r rs → area_key_on e (area_of b e r) j ≡ key → In r qs) → ((r : ℕ) → In r qs → In r rs × (area_key_on e (area_of b e r) j ≡ key))
    → SameOnce (of_key e j key (shown b e rs)) (shown b e qs)
same_once b e j key rs qs dr dq f g =
    record {
      there = λ x m.
          let k = of_key-among e j key x (shown b e rs) m in
          let t = among-shown b e x rs k.0 in
          rw t.2 (shown-among b e t.0 qs (f t.0 t.1 (rw t.2 at k.1)));
      back = λ x m.
          let t = among-shown b e x qs m in
          let k = g t.0 t.1 in
          rw t.2 (among_of_key e j key (point_of b e t.0) (shown b e rs) k.1 (shown-among b e t.0 rs k.0));
      once = (of_key-once e j key (shown b e rs) (shown-once b e rs dr), shown-once b e qs dq);
    }
