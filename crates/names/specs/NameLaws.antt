-- What a set's paths must be for their names to be read, that every set of a schema has it, and the two words of a name.
use Rattle.std.specs.Prelude.{ℕ, ◌<◌, ◌≡◌, refl, Bool, true, false, eqb, ltb, length}
use Rattle.std.proofs.Math.Path.{sym, ap}
use Rattle.std.proofs.Common.{◌∙◌, arith, drop_of_length-le, eqb-true, eq-eqb, ltb-true, ltb-false}
use mathlib.Core.List.{List, [], ◌∷◌, ◌++◌}
use Rattle.std.proofs.Math.ListN.{get_or}
use Rattle.octets.specs.Octets.{Bytes, word4, word_at, word_bytes, same_bytes}
use Rattle.octets.specs.SpliceLaws.{drop-four}
use Rattle.octets.specs.RunLaws.{tests_eq, same_bytes_eq, eq_same_bytes, ne_same_bytes, same_lengths}
use Rattle.octets.specs.WordLaws.{word4-bytes, bytes-word4}
use Rattle.octets.specs.Text.{text}
use Rattle.terms.specs.Terms.{link_ref}
use Rattle.schema.specs.declared.Schema.{Schema}
use Rattle.schema.specs.Decode.{entry_of, set_count}
use Rattle.schema.specs.Guarantee.{SchemaOk}
use Rattle.names.specs.Names.{LeadsToMasters}

-- every set of a schema is so: a master has no paths, and a variable's lead to masters
pub leads-to-masters : (t : Schema) → SchemaOk t → (i : ℕ) → i < set_count t → LeadsToMasters t (entry_of t i)
leads-to-masters t ok i l = go (ltb i t.masters) refl
  where
    go : (b : Bool) → ltb i t.masters ≡ b → LeadsToMasters t (entry_of t i)
    go true h =
        let m = ok.master i (ltb-true i t.masters h) in
        record { few = omega (arith, m.none); four = (ok.set i l).four; named = λ j k. absurd (omega (arith, m.none)) }
    go false h =
        let v = ltb-false i t.masters h in
        record {
          few = (ok.variable i v l).few;
          four = (ok.set i l).four;
          named = λ j k.
              let p = ok.path i j (v, l, k) in
              record { master = omega (arith, p.master, ok.few-masters); letters = p.letters; eight = ok.eight };
        }

-- ---- the two words of a path's name

-- the name of the path with the letters xx to a master whose name is w
abbrev Name : ℕ → List ℕ → List ℕ
Name w xx = word_bytes w ++ (text "LK" ++ xx)

-- it has eight bytes, and its first word is the master's name
pub other_length : (w : ℕ) (xx name : List ℕ) → length xx ≡ 2 → (length name ≡ 8 → ⊥) → same_bytes (Name w xx) name ≡ false
other_length w xx name h k = same_lengths (Name w xx) name (λ e. k (omega arith))

pub other_master-name : (w : ℕ) (xx name : List ℕ) → w < 4294967296 → (w ≡ word_at name 0 → ⊥) → same_bytes (Name w xx) name ≡ false
unfolding word_at
other_master-name w xx name l h = ne_same_bytes (Name w xx) name (λ e. h (sym (word4-bytes w l) ∙ ap (λ (z : List ℕ). word_at z 0) e))

-- two letters, and the letters of a link
twos : (xs : List ℕ) → length xs ≡ 2 → xs ≡ get_or xs 0 0 ∷ get_or xs 1 0 ∷ []
twos [] h = absurd (omega arith)
twos (a ∷ []) h = absurd (omega arith)
twos (a ∷ b ∷ []) h = refl
twos (a ∷ b ∷ c ∷ xs) h = absurd (omega arith)

spelt-link : (c d e f a b : ℕ) → c < 256 → d < 256 → e < 256 → f < 256 → a < 256 → b < 256 → word4 c d e f ≡ link_ref a b
    → c ∷ d ∷ e ∷ f ∷ [] ≡ 76 ∷ 75 ∷ a ∷ b ∷ []
spelt-link c d e f a b g h i j k l n =
    let p : c ≡ 76 = omega arith in
    let q : d ≡ 75 = omega arith in
    let r : e ≡ a = omega arith in
    let s : f ≡ b = omega arith in
    cc

-- eight bytes are two words
eights : (xs : List ℕ) → length xs ≡ 8
    → xs ≡ (get_or xs 0 0 ∷ get_or xs 1 0 ∷ get_or xs 2 0 ∷ get_or xs 3 0 ∷ []) ++ (get_or xs 4 0 ∷ get_or xs 5 0 ∷ get_or xs 6 0 ∷ get_or xs 7 0 ∷ [])
eights xs h =
    drop-four xs 0 (omega arith)
    ∙ (rw (drop-four xs 4 (omega arith), drop_of_length-le xs {i = 8} (omega arith)) refl)

-- where the first word is the master's name, the second decides
module _ (w : ℕ) (xx name : List ℕ) (l : length xx ≡ 2) (n : length name ≡ 8) (b : Bytes name) (m : w ≡ word_at name 0) where
  is_name : get_or xx 0 0 < 256 → get_or xx 1 0 < 256 → word_at name 4 ≡ link_ref (get_or xx 0 0) (get_or xx 1 0) → Name w xx ≡ name
  unfolding word_at
  is_name p q e =
      let u = bytes-word4 (get_or name 0 0) (get_or name 1 0) (get_or name 2 0) (get_or name 3 0) (b 0) (b 1) (b 2) (b 3) in
      let v = spelt-link (get_or name 4 0) (get_or name 5 0) (get_or name 6 0) (get_or name 7 0) (get_or xx 0 0) (get_or xx 1 0) (b 4) (b 5) (b 6) (b 7) p q e in
      ap (λ (z : List ℕ). word_bytes w ++ (text "LK" ++ z)) (twos xx l)
      ∙ ap (λ (z : List ℕ). word_bytes w ++ z) (sym v)
      ∙ ap (λ (z : List ℕ). z ++ (get_or name 4 0 ∷ get_or name 5 0 ∷ get_or name 6 0 ∷ get_or name 7 0 ∷ [])) (ap word_bytes m ∙ u)
      ∙ sym (eights name n)

  has-link : Name w xx ≡ name → word_at name 4 ≡ link_ref (get_or xx 0 0) (get_or xx 1 0)
  unfolding word_at
  has-link e = sym (ap (λ (z : List ℕ). word_at z 4) e)

  pub by-link : get_or xx 0 0 < 256 → get_or xx 1 0 < 256 → eqb (word_at name 4) (link_ref (get_or xx 0 0) (get_or xx 1 0)) ≡ same_bytes (Name w xx) name
  by-link p q =
      tests_eq (eqb (word_at name 4) (link_ref (get_or xx 0 0) (get_or xx 1 0))) (same_bytes (Name w xx) name)
      (λ h. eq_same_bytes (Name w xx) name (is_name p q (eqb-true (word_at name 4) (link_ref (get_or xx 0 0) (get_or xx 1 0)) h)))
      (λ h. eq-eqb (word_at name 4) (link_ref (get_or xx 0 0) (get_or xx 1 0)) (has-link (same_bytes_eq (Name w xx) name h)))
