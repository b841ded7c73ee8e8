-- The area of a variable record is its keys on each path, one behind the other, and its D bytes: two records with the same keys and D bytes
-- have the same area, and a record that has the keys and D bytes of an area reads into that area.
use Prim.Native.Nat.{ℕ, zero, suc, ◌≤◌, ◌<◌}
use Rattle.std.specs.Prelude.{◌≡◌, false, List, [], ◌∷◌, ◌++◌, length, take, drop}
use Rattle.std.proofs.Math.Path.{refl}
use Rattle.std.proofs.Common.{sym, ◌∙◌, append-nil, append_assoc, arith, add-one, length-drop, take-append-drop, take-suc, take_all, take-add}
use Rattle.octets.specs.Below.{concat_below}
use Rattle.schema.specs.declared.Path.{Path}
use Rattle.schema.specs.declared.Entry.{Entry}
use Rattle.schema.specs.Decode.{no_path, path_of}
use Rattle.records.specs.Records.{body_of, key_on}
use Rattle.records.specs.Areas.{is_master, area_key_place, area_keys, area_length, area_key_on, area_body, keys_on, area_of}
use Rattle.records.proofs.AreaLaws.{variable_keys, area-key-first, area-key-turn}
use Rattle.records.specs.Fields.{Fields}

-- the keys, path by path
keys_append : (c : List ℕ) (e : Entry) (r : ℕ) (ps : List Path) (p : Path) → keys_on c e r (ps ++ (p ∷ [])) ≡ keys_on c e r ps ++ key_on c e r p
unfolding keys_on
keys_append c e r [] p = append-nil (key_on c e r p)
keys_append c e r (q ∷ ps) p = rw (keys_append c e r ps p) (sym (append_assoc (key_on c e r q) (keys_on c e r ps) (key_on c e r p)))

-- the area of a record that has the keys ks and the D bytes d
module _ (c : List ℕ) (e : Entry) (r : ℕ) (f : Fields e) (v : is_master e ≡ false) (ks : ℕ → List ℕ) (d : List ℕ)
    (keys : (k : ℕ) → k < e.count → key_on c e r (path_of e k) ≡ ks k) (rest : body_of c e r ≡ d) where
  keys_taken : (n : ℕ) → n ≤ e.count → keys_on c e r (take n e.paths) ≡ concat_below ks n
  unfolding keys_on concat_below
  keys_taken zero l = refl
  keys_taken (suc n) l =
      rw (take-suc e.paths n no_path (omega (arith, f.few, f.four)), keys_append c e r (take n e.paths) (path_of e n), keys_taken n (omega arith), keys n l) refl

  area-is : area_of c e r ≡ concat_below ks e.count ++ d
  unfolding area_of
  area-is = rw (v, keys_taken e.count (omega arith), rest) refl

-- a record with the keys and the D bytes of another, before or after a call
pub area_same : (b c : List ℕ) (e : Entry) (r : ℕ) → Fields e → is_master e ≡ false → ((k : ℕ) → k < e.count → key_on c e r (path_of e k) ≡ key_on b e r (path_of e k))
    → body_of c e r ≡ body_of b e r → area_of c e r ≡ area_of b e r
area_same b c e r f v ks d = area-is c e r f v _ _ ks d ∙ sym (area-is b e r f v _ _ (λ k l. refl) refl)

-- the keys of an area, one behind the other, are its first bytes
area_keys_lem : (e : Entry) (area : List ℕ) (n : ℕ) → concat_below (area_key_on e area) n ≡ take (area_key_place e n) area
unfolding concat_below
area_keys_lem e area zero = rw (area-key-first e) refl
area_keys_lem e area (suc n) =
    rw (← add-one n, area-key-turn e n, take-add (area_key_place e n) (path_of e n).len area, area_keys_lem e area n) refl

pub area-made : (c : List ℕ) (e : Entry) (r : ℕ) (area : List ℕ) → Fields e → is_master e ≡ false → length area ≡ area_length e
    → ((k : ℕ) → k < e.count → key_on c e r (path_of e k) ≡ area_key_on e area k) → body_of c e r ≡ area_body e area → area_of c e r ≡ area
area-made c e r area f v l ks d =
    let rest : area_body e area ≡ drop (area_keys e) area = take_all e.room (drop (area_keys e) area) (rw length-drop (omega arith)) in
    area-is c e r f v (area_key_on e area) (area_body e area) ks d
    ∙ (rw (area_keys_lem e area e.count, rest, variable_keys e v) (take-append-drop (area_key_place e e.count) area))
