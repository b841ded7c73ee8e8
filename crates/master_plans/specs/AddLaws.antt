-- ADD-M: what its tests and its plans come to, in the shape in which the code makes them.
use Rattle.std.specs.Prelude.{ℕ, ◌≤◌, ◌<◌, ◌≡◌, refl, Bool, true, false, cond, not, ◌&&◌, ◌||◌, List, [], ◌++◌, eqb, length, Some}
use Rattle.std.proofs.Common.{sym, ap, ◌∙◌, append-nil, arith}
use borrow.Author.Tests.{lt-ltb, le-ltb}
use Rattle.terms.specs.declared.Status.TheVariants.{Done, Full, Damg}
use Rattle.terms.specs.declared.RecordNo.{RecordNo}
use Rattle.schema.specs.declared.Entry.{Entry}
use Rattle.schema.specs.Numbers.{record_up_to, some_record}
use Rattle.schema.specs.Place.{InSet, LiesIn}
use Rattle.schema.specs.Guarantee.{MasterOk}
use Rattle.records.specs.Records.{is_live, root_next, root_prior}
use Rattle.plans.specs.declared.Head.TheVariants.{Master, Stranger}
use Rattle.plans.specs.declared.Plan.{Plan}
use Rattle.plans.specs.Plan.{Store}
use Rattle.scan.specs.Scan.{lowest_free}
use Rattle.masters.specs.Find.{own_home, held_by_own, tail_from}
use Rattle.scan.specs.ScanLaws.{lowest_free_in, lowest_free_free}
use Rattle.masters.specs.Root.{bad_root, root_prior_side, root_next_side, add_at_home, add_synonym, add_for_stranger, add_master_full, add_master_damaged, add_master_stores}
use Rattle.master_plans.specs.Status.{add_master_status}
use Rattle.master_plans.specs.Shape.{Shaped, StandsFor, stranger_damaged, beside_status, add_beside}
use Rattle.master_plans.specs.ShapeLaws.{shaped_stores, shaped_ok, fit_append, fit_side}
use Rattle.master_plans.specs.TestLaws.{not_bad}
use Rattle.octets.specs.TestLaws.{neither}

module _ (b : List ℕ) (e : Entry) (ok : LiesIn e (length b)) (m : MasterOk e) where
  pub home-stands : {p : Plan} (h : ℕ) → InSet e h → Shaped p 0 Master h h 0 [] 0 → StandsFor b e p (add_at_home e h)
  home-stands h i s = record { stores = λ area. shaped_stores b e area s; ok = shaped_ok s (omega arith) (i, m.kind) tt (omega arith) }

  pub synonym_stands : {p : Plan} (f l : ℕ) → InSet e f → InSet e l → Shaped p 1 Master f f l (root_prior_side e l f) 0 → StandsFor b e p (add_synonym e f l)
  synonym_stands f l i j s =
      record {
        stores = λ area. shaped_stores b e area s ∙ (rw (append-nil (root_prior_side e l f)) refl);
        ok = shaped_ok s (omega arith) (i, m.kind) (fit_side l 4 f ok j.1 (omega arith)) (omega arith);
      }

  pub stranger-stands : {p : Plan} (h f : ℕ) → InSet e h → InSet e f → (h ≡ f → ⊥) → root_prior b e h ≤ e.records → root_next b e h ≤ e.records
      → Shaped p 2 Stranger h f 0 (root_prior_side e (root_prior b e h) f ++ root_next_side e (root_next b e h) f) 0 → StandsFor b e p (add_for_stranger b e h f)
  stranger-stands h f i j d x y s =
      record {
        stores = λ area. shaped_stores b e area s ∙ (rw (append-nil (root_prior_side e (root_prior b e h) f ++ root_next_side e (root_next b e h) f)) refl);
        ok =
            shaped_ok s (omega arith) (i, j, d, m.kind)
            (fit_append _ (root_prior_side e (root_prior b e h) f) _ (fit_side (root_prior b e h) 4 f ok x (omega arith)) (fit_side (root_next b e h) 8 f ok y (omega arith)))
            (omega arith);
      }

-- the stranger's tests, made on what was read
pub stranger-tests : (b : List ℕ) (e : Entry) (h : ℕ) {pr nx : ℕ} {bf af t : Bool} → pr ≡ root_prior b e h → nx ≡ root_next b e h → bf ≡ bad_root b e pr → af ≡ bad_root b e nx
    → (eqb pr 0 || bf || af) ≡ t → stranger_damaged b e h ≡ t
stranger-tests b e h p n q r k = rw (q, r, p, n) at k

pub stranger_near : (b : List ℕ) (e : Entry) (h : ℕ) → stranger_damaged b e h ≡ false → (root_prior b e h ≤ e.records) × (root_next b e h ≤ e.records)
stranger_near b e h k =
    let o = neither (eqb (root_prior b e h) 0 || bad_root b e (root_prior b e h)) (bad_root b e (root_next b e h)) k in
    let q = neither (eqb (root_prior b e h) 0) (bad_root b e (root_prior b e h)) o.0 in
    (not_bad b e (root_prior b e h) q.1, not_bad b e (root_next b e h) o.1)

-- the record that is free, where there is one
pub free_least : (b : List ℕ) (e : Entry) {n : RecordNo} → Some n ≡ record_up_to e.records (lowest_free b e) → (n.0 ≡ lowest_free b e) × (lowest_free b e ≤ e.records)
free_least b e s = let w = some_record e.records (lowest_free b e) s in (w.0, rw w.0 at w.1)

-- the home is live, and the set has a free record
own_or_stranger : (o d : Bool) → cond (not o && d) Damg Done ≡ cond o Done (cond d Damg Done)
own_or_stranger true d = refl
own_or_stranger false d = refl

tail-by : (o : Bool) {l z : ℕ} (f : ℕ → List Store) (xs : List Store) → (o ≡ true → l ≡ z) → cond o (f l) xs ≡ cond o (f z) xs
tail-by true f xs h = ap f (h refl)
tail-by false f xs h = refl

module _ (b : List ℕ) (e : Entry) (h f l : ℕ) where
  pub beside-own : held_by_own b e h ≡ true → (area : List ℕ) → add_synonym e f l area ≡ add_beside b e h f l area
  beside-own o area = rw o

  pub beside-stranger : held_by_own b e h ≡ false → (area : List ℕ) → add_for_stranger b e h f area ≡ add_beside b e h f l area
  beside-stranger o area = rw o

module _ (b : List ℕ) (e : Entry) (h : ℕ) where
  pub add-home-status : is_live b e h ≡ false → Done ≡ add_master_status b e h
  unfolding add_master_status add_master_full add_master_damaged
  add-home-status l = rw l

  pub add-home-stores : is_live b e h ≡ false → (area : List ℕ) → add_at_home e h area ≡ add_master_stores b e h area
  unfolding add_master_stores
  add-home-stores l area = rw l

  module _ (l : is_live b e h ≡ true) where
    pub add-full : e.records < lowest_free b e → Full ≡ add_master_status b e h
    unfolding add_master_status add_master_full
    add-full f = rw (l, lt-ltb e.records (lowest_free b e) f)

    module _ (f : lowest_free b e ≤ e.records) where
      pub add-beside-status : beside_status b e h ≡ add_master_status b e h
      unfolding add_master_status add_master_full add_master_damaged
      add-beside-status = rw (l, le-ltb e.records (lowest_free b e) f) (sym (own_or_stranger (eqb (own_home b e h) h) (stranger_damaged b e h)))

      pub add-beside-stores : (last : ℕ) → (held_by_own b e h ≡ true → last ≡ tail_from e.records b e h) → (area : List ℕ)
          → add_beside b e h (lowest_free b e) last area ≡ add_master_stores b e h area
      unfolding add_master_stores
      add-beside-stores last t area = tail-by (held_by_own b e h) (λ z. add_synonym e (lowest_free b e) z area) (add_for_stranger b e h (lowest_free b e) area) t ∙ (rw l)

      pub free_in : InSet e (lowest_free b e)
      free_in = lowest_free_in b e (le-ltb e.records (lowest_free b e) f)

      -- the home is live and the free record is not
      pub free_apart : h ≡ lowest_free b e → ⊥
      free_apart q =
          let z = lowest_free_free b e (le-ltb e.records (lowest_free b e) f) in
          let w : ◌≡◌ {A = ℕ} 0 1 = cc (ap (is_live b e) q) in
          omega arith
