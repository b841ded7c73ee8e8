-- DEL-M: what its tests and its plans come to, in the shape in which the code makes them.
use Rattle.std.specs.Prelude.{ℕ, ◌≤◌, ◌≡◌, refl, Bool, true, false, cond, not, ◌&&◌, ◌||◌, List, [], ◌∷◌, ◌++◌, eqb, length}
use Rattle.std.proofs.Common.{◌∙◌, append_assoc, arith, ne_eqb}
use Rattle.std.proofs.Math.Bool.{and-eq-true_iff}
use Rattle.std.proofs.lemmas.Bool.{eqb-false, not-true}
use Rattle.terms.specs.declared.Status.TheVariants.{Done, Imdl, Damg}
use Rattle.schema.specs.declared.Entry.{Entry}
use Rattle.schema.specs.declared.Schema.{Schema}
use Rattle.schema.specs.Place.{InSet, LiesIn}
use Rattle.schema.specs.Guarantee.{MasterOk}
use Rattle.records.specs.Records.{root_next, root_prior}
use Rattle.plans.specs.declared.Head.TheVariants.{Nothing, Synonym}
use Rattle.plans.specs.declared.Plan.{Plan}
use Rattle.plans.specs.Plan.{wipe_record}
use Rattle.masters.specs.Root.{bad_root, root_prior_side, root_next_side, synonym_moves, del_master_damaged, del_by_move, del_by_unlink, del_master_stores}
use Rattle.points.specs.Chains.{has_points}
use Rattle.master_plans.specs.Status.{del_master_status}
use Rattle.master_plans.specs.Shape.{Shaped, StandsFor, neighbours_damaged}
use Rattle.master_plans.specs.ShapeLaws.{shaped_stores, shaped_ok, fit_append, fit_side}
use Rattle.master_plans.specs.TestLaws.{not_bad}
use Rattle.octets.specs.TestLaws.{either_left, neither}

-- ---- the plans

module _ (b : List ℕ) (e : Entry) (ok : LiesIn e (length b)) (m : MasterOk e) where
  pub move_stands : {p : Plan} (h s : ℕ) → InSet e h → InSet e s → root_next b e s ≤ e.records → Shaped p 1 Synonym h s 0 (root_next_side e (root_next b e s) h) s
      → StandsFor b e p (λ _. del_by_move b e h s)
  move_stands h s i j x d =
      record {
        stores = λ area. shaped_stores b e area d ∙ (rw (ne_eqb s 0 (λ z. omega arith)) refl);
        ok = shaped_ok d (omega arith) (i, j, m.kind) (fit_side (root_next b e s) 8 h ok x (omega arith)) j.1;
      }

  pub unlink-stands : {p : Plan} (r : ℕ) → InSet e r → root_prior b e r ≤ e.records → root_next b e r ≤ e.records
      → Shaped p 2 Nothing r r 0 (root_prior_side e (root_prior b e r) (root_next b e r) ++ root_next_side e (root_next b e r) (root_prior b e r)) r
      → StandsFor b e p (λ _. del_by_unlink b e r)
  unlink-stands r i x y d =
      record {
        stores = λ area. shaped_stores b e area d ∙ (rw (ne_eqb r 0 (λ z. omega arith)) (append_assoc (root_prior_side e (root_prior b e r) (root_next b e r)) (root_next_side e (root_next b e r) (root_prior b e r)) (wipe_record e r ∷ [])));
        ok =
            shaped_ok d (omega arith) tt
            (fit_append _ (root_prior_side e (root_prior b e r) (root_next b e r)) _ (fit_side (root_prior b e r) 4 (root_next b e r) ok x (omega arith)) (fit_side (root_next b e r) 8 (root_prior b e r) ok y (omega arith)))
            i.1;
      }

-- ---- the final 16

by-second : (s m x : Bool) → s ≡ false → m ≡ true → (s || m && x) ≡ x
by-second s m x h k = rw (h, k)

by-none : (s m x : Bool) → s ≡ false → m ≡ false → (s || m && x) ≡ false
by-none s m x h k = rw (h, k)

module _ (b : List ℕ) (e : Entry) (h r : ℕ) where
  -- the tests, made on what was read
  pub neighbours_tested : {pr nx : ℕ} {bf af t : Bool} → pr ≡ root_prior b e r → nx ≡ root_next b e r → bf ≡ bad_root b e pr → af ≡ bad_root b e nx
      → (not (eqb r h) && eqb pr 0 || bf || af) ≡ t → neighbours_damaged b e h r ≡ t
  neighbours_tested p n q s k = rw (q, s, p, n) at k

  pub move_test : {nx : ℕ} {t : Bool} → nx ≡ root_next b e r → (eqb r h && not (eqb nx 0)) ≡ t → synonym_moves b e h r ≡ t
  move_test n k = rw n at k

  pub del_damaged_lem : neighbours_damaged b e h r ≡ true → del_master_damaged b e h r ≡ true
  unfolding del_master_damaged
  del_damaged_lem d = either_left (neighbours_damaged b e h r) _ d

  module _ (d : neighbours_damaged b e h r ≡ false) where
    pub del_near : (root_prior b e r ≤ e.records) × (root_next b e r ≤ e.records)
    del_near =
        let o = neither (not (eqb r h) && eqb (root_prior b e r) 0 || bad_root b e (root_prior b e r)) (bad_root b e (root_next b e r)) d in
        let q = neither (not (eqb r h) && eqb (root_prior b e r) 0) (bad_root b e (root_prior b e r)) o.0 in
        (not_bad b e (root_prior b e r) q.1, not_bad b e (root_next b e r) o.1)

    -- the synonym that moves is a record of the set
    pub move_in : synonym_moves b e h r ≡ true → InSet e (root_next b e r)
    move_in m =
        let t = (and-eq-true_iff (eqb r h) (not (eqb (root_next b e r) 0))).0 m in
        let z = eqb-false (root_next b e r) 0 (not-true _ t.1) in
        (omega arith, del_near.1)

    pub move_damaged : synonym_moves b e h r ≡ true → del_master_damaged b e h r ≡ bad_root b e (root_next b e (root_next b e r))
    unfolding del_master_damaged
    move_damaged m = by-second (neighbours_damaged b e h r) (synonym_moves b e h r) _ d m

    pub unlink-sound : synonym_moves b e h r ≡ false → del_master_damaged b e h r ≡ false
    unfolding del_master_damaged
    unlink-sound m = by-none (neighbours_damaged b e h r) (synonym_moves b e h r) _ d m

  pub move_stores : synonym_moves b e h r ≡ true → (area : List ℕ) → del_by_move b e h (root_next b e r) ≡ del_master_stores b e h r
  unfolding del_master_stores
  move_stores m area = rw m

  pub unlink-stores : synonym_moves b e h r ≡ false → (area : List ℕ) → del_by_unlink b e r ≡ del_master_stores b e h r
  unfolding del_master_stores
  unlink-stores m area = rw m

  -- ---- 14 comes first
  module _ (t : Schema) (n : ℕ) where
    pub del_points : has_points t b n r ≡ true → Imdl ≡ del_master_status t b n e h r
    unfolding del_master_status
    del_points p = rw p

    pub del_no_points : has_points t b n r ≡ false → cond (del_master_damaged b e h r) Damg Done ≡ del_master_status t b n e h r
    unfolding del_master_status
    del_no_points p = rw p
