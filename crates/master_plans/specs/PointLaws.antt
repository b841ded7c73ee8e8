-- 14, path by path and set by set: where the linkage fields lie, and what the loops over paths and sets come to.
use Rattle.std.specs.Prelude.{ℕ, ◌+◌, ◌≤◌, ◌<◌, ◌≡◌, refl, ◌⊎◌, Bool, true, false, not, ◌&&◌, List, eqb, ltb}
use Rattle.std.proofs.Common.{inl, inr, arith, eq-eqb, ne_eqb, ltb-true, ltb-false}
use Rattle.octets.specs.Below.{all_below}
use Rattle.schema.specs.declared.Path.{Path}
use Rattle.schema.specs.declared.Entry.{Entry}
use Rattle.schema.specs.declared.Schema.{Schema}
use Rattle.schema.specs.Decode.{entry_of, path_of, set_count}
use Rattle.schema.specs.Guarantee.{SchemaOk}
use Rattle.records.specs.Records.{first_on, last_on}
use Rattle.points.specs.Chains.{has_points}
use Rattle.master_plans.specs.Shape.{empty_on, empty_in, LinkInside}

module _ (b : List ℕ) (e : Entry) (n r : ℕ) (p : Path) where
  pub empty-other : (p.master.0 ≡ n → ⊥) → true ≡ empty_on b e n r p
  empty-other h = rw (ne_eqb p.master.0 n h)

  pub empty-here : {f l : ℕ} → p.master.0 ≡ n → f ≡ first_on b e r p → l ≡ last_on b e r p → (eqb f 0 && eqb l 0) ≡ empty_on b e n r p
  empty-here m f l = rw (eq-eqb p.master.0 n m, f, l)

module _ {t : Schema} (ok : SchemaOk t) where
  split : (i : ℕ) → (i < t.masters) ⊎ (t.masters ≤ i)
  split i = go (ltb i t.masters) refl
    where
      go : (s : Bool) → ltb i t.masters ≡ s → (i < t.masters) ⊎ (t.masters ≤ i)
      go true h = inl (ltb-true i t.masters h)
      go false h = inr (ltb-false i t.masters h)

  pub paths-few : (i : ℕ) → i < set_count t → (entry_of t i).count ≤ 4
  paths-few i l = go (split i)
    where
      go : (i < t.masters) ⊎ (t.masters ≤ i) → (entry_of t i).count ≤ 4
      go (inl m) = omega (arith, (ok.master i m).none)
      go (inr m) = (ok.variable i m l).few

  -- the linkage fields of every path to the master set n lie in its records
  pub path_link-inside : (n i : ℕ) → n < t.masters → i < set_count t → LinkInside (entry_of t n) n (entry_of t i)
  path_link-inside n i k l j c e = go (split i)
    where
      go : (i < t.masters) ⊎ (t.masters ≤ i) → (path_of (entry_of t i) j).link + 8 ≤ (entry_of t n).size
      go (inl m) = absurd (omega (arith, (ok.master i m).none))
      go (inr m) = omega (arith, rw e at (ok.path i j (m, l, c)).link-inside, (ok.set n (omega arith)).sized)

-- the answer for all sets
pub points-are : (t : Schema) (b : List ℕ) (n r : ℕ) (e : Entry) → e ≡ entry_of t n → not (all_below (λ i. empty_in b e n r (entry_of t i)) (set_count t)) ≡ has_points t b n r
unfolding has_points
points-are t b n r e h = rw h
