-- Points and numbers: a change of a plain list is the same change of the numbers it shows. `b` and `c` are two data bases, `e` a set.
use Rattle.std.specs.Prelude.{ℕ, ◌≡◌, ◌≢◌, Bool, eqb}
use Rattle.std.proofs.Math.Path.{refl, ap}
use Rattle.std.proofs.Common.{sym, eqb-true}
use Rattle.std.proofs.Math.Bool.{true, false, cond}
use mathlib.Core.List.{List, [], ◌∷◌, ◌++◌}
use Rattle.std.proofs.lemmas.Bool.{eqb-false}
use Rattle.schema.specs.declared.Entry.{Entry}
use Rattle.records.specs.Areas.{area_of}
use Rattle.chains.specs.Members.{All}
use Rattle.kept_state.specs.Rows.{put_after, put_before, without}
use Rattle.condition3.specs.Plain.{Point, before, behind, taken_out, rewritten}
use Rattle.condition3.specs.Shown.{point_of, shown}

-- records that read into the same areas
pub shown-same : (b c : List ℕ) (e : Entry) (rs : List ℕ) → All (λ r. area_of c e r ≡ area_of b e r) rs → shown b e rs ≡ shown c e rs
shown-same b c e [] h = refl
shown-same b c e (r ∷ rs) h = rw h.0 (ap (λ (zs : List Point). point_of b e r ∷ zs) (shown-same b c e rs h.1))

module _ (b : List ℕ) (e : Entry) where
  pub shown_append : (us vs : List ℕ) → shown b e (us ++ vs) ≡ shown b e us ++ shown b e vs
  shown_append [] vs = refl
  shown_append (u ∷ us) vs = ap (λ (zs : List Point). point_of b e u ∷ zs) (shown_append us vs)

  pub before-shown : (n r : ℕ) (rs : List ℕ) → before n (point_of b e r) (shown b e rs) ≡ shown b e (put_before n r rs)
  unfolding before put_before
  before-shown n r [] = refl
  before-shown n r (x ∷ xs) = by (eqb x n) (before-shown n r xs)
    where
      by : (s : Bool) → before n (point_of b e r) (shown b e xs) ≡ shown b e (put_before n r xs)
          → cond s (point_of b e r ∷ point_of b e x ∷ shown b e xs) (point_of b e x ∷ before n (point_of b e r) (shown b e xs)) ≡ shown b e (cond s (r ∷ x ∷ xs) (x ∷ put_before n r xs))
      by true h = refl
      by false h = ap (λ (zs : List Point). point_of b e x ∷ zs) h

  pub behind-shown : (n r : ℕ) (rs : List ℕ) → behind n (point_of b e r) (shown b e rs) ≡ shown b e (put_after n r rs)
  unfolding behind put_after
  behind-shown n r [] = refl
  behind-shown n r (x ∷ xs) = by (eqb x n) (behind-shown n r xs)
    where
      by : (s : Bool) → behind n (point_of b e r) (shown b e xs) ≡ shown b e (put_after n r xs)
          → cond s (point_of b e x ∷ point_of b e r ∷ shown b e xs) (point_of b e x ∷ behind n (point_of b e r) (shown b e xs)) ≡ shown b e (cond s (x ∷ r ∷ xs) (x ∷ put_after n r xs))
      by true h = refl
      by false h = ap (λ (zs : List Point). point_of b e x ∷ zs) h

  pub taken-shown : (n : ℕ) (rs : List ℕ) → taken_out n (shown b e rs) ≡ shown b e (without n rs)
  unfolding taken_out without
  taken-shown n [] = refl
  taken-shown n (x ∷ xs) = by (eqb x n) (taken-shown n xs)
    where
      by : (s : Bool) → taken_out n (shown b e xs) ≡ shown b e (without n xs)
          → cond s (taken_out n (shown b e xs)) (point_of b e x ∷ taken_out n (shown b e xs)) ≡ shown b e (cond s (without n xs) (x ∷ without n xs))
      by true h = h
      by false h = ap (λ (zs : List Point). point_of b e x ∷ zs) h

-- the record n has another area in c, the others have those of b
pub rewritten-shown : (b c : List ℕ) (e : Entry) (n : ℕ) (f : List ℕ → List ℕ) (rs : List ℕ) → area_of c e n ≡ f (area_of b e n) → All (λ r. r ≢ n → area_of c e r ≡ area_of b e r) rs
    → rewritten n f (shown b e rs) ≡ shown c e rs
unfolding rewritten
rewritten-shown b c e n f [] k h = refl
rewritten-shown b c e n f (x ∷ xs) k h = by (eqb x n) refl (rewritten-shown b c e n f xs k h.1)
  where
    by : (s : Bool) → eqb x n ≡ s → rewritten n f (shown b e xs) ≡ shown c e xs
        → cond s (record { number = n; area = f (area_of b e x) }) (point_of b e x) ∷ rewritten n f (shown b e xs) ≡ point_of c e x ∷ shown c e xs
    by true q i = rw (eqb-true x n q, i) (ap (λ (z : List ℕ). record { number = n; area = z } ∷ shown c e xs) (sym k))
    by false q i = rw (i, h.0 (eqb-false x n q)) refl
