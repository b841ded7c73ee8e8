-- No call says DAMG on a data base that stands for rows: each test that would say so passes, once the tests in front of it have passed. So a
-- search finds its key or misses it, neighbours are on the chain, and every block stored into has a true check.
use Rattle.std.specs.Prelude.{ℕ, ◌<◌, ◌≡◌, refl, ◌≢◌, Bool, false, cond, List, [], ◌∷◌, ◌++◌, eqb}
use Rattle.std.proofs.Common.{sym, inl, inr, arith, lit<}
use Rattle.std.proofs.Math.Path.{ap}
use Rattle.std.proofs.Math.Bool.{true, not}
use Rattle.octets.specs.Below.{concat_below}
use Rattle.terms.specs.declared.Status.TheVariants.{Damg}
use Rattle.terms.specs.declared.Operation.{Operation}
use Rattle.terms.specs.declared.Operation.TheVariants.{Sinon, AddM, DelM, Writm, Readv, Readr, Writv, Delvd}
use Rattle.terms.specs.Operation.{operation_of}
use Rattle.terms.specs.Laws.{home_in_set}
use Rattle.schema.specs.declared.Entry.{Entry}
use Rattle.schema.specs.declared.Schema.{Schema}
use Rattle.schema.specs.Decode.{entry_of, path_of, schema_of}
use Rattle.schema.specs.Guarantee.{IsPathOf}
use Rattle.records.specs.Records.{key_on}
use Rattle.records.specs.Areas.{area_key_on}
use Rattle.blocks.specs.declared.Check.{Check}
use Rattle.blocks.specs.Blocks.{check_by}
use Rattle.plans.specs.Plan.{Store, blocks_sealed}
use Rattle.masters.specs.declared.Found.{Found}
use Rattle.masters.specs.declared.Found.TheVariants.{At, Missing, Damaged}
use Rattle.masters.specs.Find.{find, home_in, own_home, record_found, is_at, is_missing, is_damaged}
use Rattle.masters.specs.Root.{add_master_damaged, del_master_damaged}
use Rattle.points.specs.Points.{find_on, add_damaged, del_damaged}
use Rattle.calls.specs.Call.{Call, one_of, adds}
use Rattle.calls.specs.Scene.{Scene, scene_under}
use Rattle.calls.specs.Ladder.{way_damaged, finders, general_rungs, added_rungs, own_rungs, other_rungs, final_rungs, ladder, refuses}
use Rattle.calls.specs.Ladder.Rung.{NoPoints, MasterRoom, PointRoom}
use Rattle.calls.proofs.OperationLaws.{one_of_lem}
use Rattle.calls.proofs.LadderLaws.{Passes}
use Rattle.calls.specs.Outcome.{outcome}
use Rattle.calls.proofs.Theorems.{status_of_ladder}
use Rattle.calls.specs.Reply.{full_area, master_in, home_of_key, forward, backward, spot_of, stores_of}
use Rattle.kept_state.specs.Tests.{AddTests}
use Rattle.master_steps.specs.FindLaws.{find-quiet, found-live}
use Rattle.master_steps.specs.QuietLaws.{add-master-quiet, del_master-quiet}
use Rattle.master_steps.specs.MasterSteps.{add-master-storable, del_master-storable, write_master-storable}
use Rattle.point_steps.specs.Neighbours.{add-quiet, del_quiet, own-found}
use Rattle.point_steps.specs.Standing.{represents_sound}
use Rattle.point_steps.specs.AddSteps.{add-storable}
use Rattle.point_steps.specs.DelSteps.{del_storable}
use Rattle.point_steps.specs.WriteSteps.{write_storable}
use Rattle.condition3.specs.Plain.{set_in, entry_in, path_in}
use Rattle.condition3.specs.Shown.{Ready}
use Rattle.condition3.proofs.Calm.{Calm, calm_test, calm_refusal, calm_append, calm_below, mild, others_calm, if_asked}
use Rattle.condition3.proofs.Operations.{Kinds, kinds, some-add}
use Rattle.condition3.proofs.Outcomes.{parameter_rungs, found_rungs}
use Rattle.condition3.proofs.Passed.{of_masters, on-points}
use Rattle.condition3.proofs.CallTests.{found-master, found-point, add-master-tests, del_master-tests, write_master-tests, del_tests, write_tests, add-tests}
use Rattle.condition3.proofs.QuietReads.{forward-quiet, backward-quiet}

not_missing : (f : Found) → is_at f ≡ true → is_missing f ≡ false
not_missing (At r) h = refl
not_missing Missing h = sym h
not_missing Damaged h = refl

-- every block stored into has a true check, as a fact that names its stores; and one row of the table of stores
record Storable (k : Check) (b : List ℕ) (xs : List Store) : Type 0 where
  each : blocks_sealed k b xs ≡ true

fits : {k : Check} {b : List ℕ} {xs : List Store} → blocks_sealed k b xs ≡ true → Storable k b xs
fits h = record { each = h }

row : {k : Check} {b : List ℕ} (a : Bool) {xs ys : List Store} → (a ≡ true → Storable k b xs) → Storable k b ys → Storable k b (cond a xs ys)
row true f k = f refl
row false f k = k

-- ---- the call

module _ (c : Call) (rows : ℕ → ℕ → List ℕ → List ℕ) (g : Ready c.schema c.base rows) where
  abbrev t : Schema
  t = schema_of c.schema

  abbrev b : List ℕ
  b = c.base

  abbrev x : Scene
  x = scene_under t c

  abbrev o : Operation
  o = operation_of c.operation

  abbrev n : ℕ
  n = set_in c

  abbrev e : Entry
  e = entry_in c

  abbrev j : ℕ
  j = path_in c

  -- a search in a set of masters
  seek-quiet : (k : ℕ) (key : List ℕ) → k < t.masters → is_damaged (find b (entry_of t k) key) ≡ false
  seek-quiet k key l = find-quiet b (entry_of t k) (g.world.ok.set k (omega arith)).some (g.stands.masters k l) key

  path_quiet : (i k : ℕ) (key : List ℕ) → IsPathOf t i k → is_damaged (find_on b t (entry_of t i) k key) ≡ false
  path_quiet i k key l = seek-quiet (path_of (entry_of t i) k).master.0 key (g.world.ok.path i k l).master

  module _ (p : Passes x c parameter_rungs) where
    found-quiet : one_of o finders ≡ true → is_damaged x.found ≡ false
    found-quiet q = by (kinds o q)
      where
        by : Kinds o → is_damaged x.found ≡ false
        by (inl k) = rw (found-point t g.world.ok c k.0) (path_quiet n j c.key (on-points t g.world.ok c p k.2 k.0).0)
        by (inr k) = rw (found-master t g.world.ok c k.0) (seek-quiet n c.key (of_masters t g.world.ok c p k.2 k.1).0)

    calm_found : Calm x c found_rungs
    unfolding scene_under
    calm_found =
        calm_test (inr (if_asked (one_of o finders) (is_damaged x.found) found-quiet)) (λ d.
        calm_test (mild _ _ (lit< tt)) (λ d.
        calm_test (mild _ _ (lit< tt)) (λ d.
        calm_test (mild _ _ (lit< tt)) (λ d.
        calm_test (mild _ _ (lit< tt)) (λ d.
        calm_test (mild _ _ (lit< tt)) (λ d. tt))))))

    -- the other paths' masters: those of an add are found or not, those of a live record are found
    adds_calm : Calm x c (concat_below added_rungs e.count)
    unfolding scene_under
    adds_calm =
        calm_below x c added_rungs e.count (λ k l.
        calm_test (inr (if_asked (one_of o adds) _ (λ q. if_asked (not (eqb k j)) _ (λ d. path_quiet n k (area_key_on e (full_area x c) k) (add-path q k l))))) (λ d.
        calm_test (mild _ _ (lit< tt)) (λ d. tt)))
      where
        add-path : one_of o adds ≡ true → (k : ℕ) → k < e.count → IsPathOf t n k
        add-path q k l = let a = some-add o q in let m = (on-points t g.world.ok c p a.on-set a.of_points).0 in (m.0, m.1, l)

    own_calm : Passes x c found_rungs → Calm x c (concat_below own_rungs e.count)
    unfolding scene_under
    own_calm f =
        calm_below x c own_rungs e.count (λ k l.
        calm_test (inr (if_asked (one_of o (Delvd ∷ [])) _ (λ q. if_asked (not (eqb k j)) _ (λ d. path_quiet n k (key_on b e c.reference (path_of e k)) (del_path q k l))))) (λ d.
        calm_test (inr (if_asked (one_of o (Delvd ∷ [])) _ (λ q. if_asked (not (eqb k j)) _ (λ d. not_missing (find_on b t e k (key_on b e c.reference (path_of e k))) (at q k l))))) (λ d. tt)))
      where
        del_path : one_of o (Delvd ∷ []) ≡ true → (k : ℕ) → k < e.count → IsPathOf t n k
        del_path q k l = let u = one_of_lem o Delvd q in let m = (on-points t g.world.ok c p (rw u refl) (rw u refl)).0 in (m.0, m.1, l)

        at : one_of o (Delvd ∷ []) ≡ true → (k : ℕ) → k < e.count → is_at (find_on b t e k (key_on b e c.reference (path_of e k))) ≡ true
        at q k l = own-found t g.world b rows g.stands n c.reference (del_tests t g.world.ok c p f (one_of_lem o Delvd q)) k l

    calm_others : Passes x c found_rungs → Calm x c (other_rungs x.entry.count)
    unfolding scene_under
    calm_others f = calm_append x c (concat_below added_rungs e.count) (concat_below own_rungs e.count) adds_calm (λ d. own_calm f)

    module _ (f : Passes x c found_rungs) (h : Passes x c (other_rungs x.entry.count)) where
      readv-quiet : one_of o (Readv ∷ []) ≡ true → way_damaged x c (forward x c) ≡ false
      readv-quiet q = let u = one_of_lem o Readv q in forward-quiet c rows g p f (rw u refl) (rw u refl) (rw u refl) (rw u refl) (rw u refl)

      readr-quiet : one_of o (Readr ∷ []) ≡ true → way_damaged x c (backward x c) ≡ false
      readr-quiet q = let u = one_of_lem o Readr q in backward-quiet c rows g p f (rw u refl) (rw u refl) (rw u refl) (rw u refl) (rw u refl)

      addm-quiet : one_of o (AddM ∷ []) ≡ true → add_master_damaged b x.entry (home_of_key x c) ≡ false
      unfolding scene_under
      addm-quiet q =
          let u = one_of_lem o AddM q in
          let m = (of_masters t g.world.ok c p (rw u refl) (rw u refl)).0 in
          let s = (g.world.ok.set n (omega arith)).some in
          rw u (add-master-quiet b e s (g.stands.masters n m) (home_in e c.key) (home_in_set e.records c.key s))

      delm-quiet : one_of o (DelM ∷ []) ≡ true → refuses x c NoPoints ≡ false
          → del_master_damaged b x.entry (home_of_key x c) (master_in x) ≡ false
      unfolding scene_under
      delm-quiet q i =
          let u = one_of_lem o DelM q in
          let d = del_master-tests t g.world.ok c p f u i in
          let s = (g.world.ok.set n (omega (arith, d.set))).some in
          let ms = g.stands.masters n d.set in
          let a = found-live b e s ms c.key d.found in
          let k : home_in e c.key ≡ own_home b e (record_found (find b e c.key)) = ap (home_in e) (sym a.1) in
          rw u (rw k (del_master-quiet b e s ms (record_found (find b e c.key)) a.0))

      add-points : one_of o adds ≡ true → refuses x c PointRoom ≡ false → AddTests t b n j (full_area x c) (spot_of o c.reference)
      add-points q r = add-tests t g.world.ok c p f o refl q h r

      adds-quiet : one_of o adds ≡ true → refuses x c PointRoom ≡ false
          → add_damaged b x.schema x.entry (full_area x c) (spot_of x.operation c.reference) x.on ≡ false
      unfolding scene_under
      adds-quiet q r = add-quiet t g.world b rows g.stands n j (full_area x c) (spot_of o c.reference) (add-points q r)

      delvd-quiet : one_of o (Delvd ∷ []) ≡ true → del_damaged b x.schema x.entry c.reference ≡ false
      unfolding scene_under
      delvd-quiet q = del_quiet t g.world b rows g.stands n c.reference (del_tests t g.world.ok c p f (one_of_lem o Delvd q))

      -- every block stored into has a true check
      module _ (im : refuses x c NoPoints ≡ false)
          (fm : refuses x c MasterRoom ≡ false)
          (fa : refuses x c PointRoom ≡ false) where
        sealed : Storable (check_by t.edition) b (stores_of x c)
        unfolding scene_under stores_of blocks_sealed
        sealed =
            row (one_of o (AddM ∷ [])) (λ q. let u = one_of_lem o AddM q in fits (rw u (add-master-storable t g.world b rows g.stands n c.key (full_area x c) (add-master-tests t g.world.ok c p f u fm))))
            (row (one_of o (DelM ∷ [])) (λ q. let u = one_of_lem o DelM q in fits (rw u (del_master-storable t g.world b rows g.stands n c.key (del_master-tests t g.world.ok c p f u im))))
            (row (one_of o (Writm ∷ [])) (λ q. let u = one_of_lem o Writm q in fits (rw u (write_master-storable t g.world b rows g.stands n c.key (full_area x c) (write_master-tests t g.world.ok c p f u))))
            (row (one_of o (Writv ∷ [])) (λ q. fits (write_storable t g.world b rows g.stands n c.reference (full_area x c) (write_tests t g.world.ok c p f (one_of_lem o Writv q))))
            (row (one_of o adds) (λ q. fits (add-storable t g.world b rows g.stands n j (full_area x c) (spot_of o c.reference) (add-points q fa)))
            (row (one_of o (Delvd ∷ [])) (λ q. fits (del_storable t g.world b rows g.stands n c.reference (del_tests t g.world.ok c p f (one_of_lem o Delvd q)))) (fits refl))))))

      calm_final : Calm x c final_rungs
      unfolding scene_under
      calm_final =
          calm_test (mild _ _ (lit< tt)) (λ im.
          calm_test (mild _ _ (lit< tt)) (λ fm.
          calm_test (mild _ _ (lit< tt)) (λ fa.
          calm_test (inr (if_asked (one_of o (Sinon ∷ [])) _ (λ q. ap not (represents_sound t b rows g.world g.stands)))) (λ d.
          calm_test (inr (if_asked (one_of o (Readv ∷ [])) _ readv-quiet)) (λ d.
          calm_test (inr (if_asked (one_of o (Readr ∷ [])) _ readr-quiet)) (λ d.
          calm_test (inr (if_asked (one_of o (AddM ∷ [])) _ addm-quiet)) (λ d.
          calm_test (inr (if_asked (one_of o (DelM ∷ [])) _ (λ q. delm-quiet q im))) (λ d.
          calm_test (inr (if_asked (one_of o adds) _ (λ q. adds-quiet q fa))) (λ d.
          calm_test (inr (if_asked (one_of o (Delvd ∷ [])) _ delvd-quiet)) (λ d.
          calm_test (inr (ap not (sealed im fm fa).each)) (λ d. tt)))))))))))

  calm_ladder : Calm x c (ladder x)
  unfolding ladder
  calm_ladder =
      let others = other_rungs x.entry.count in
      calm_append x c general_rungs (parameter_rungs ++ (found_rungs ++ (others ++ final_rungs))) (others_calm x c general_rungs (search (tt, lit<))) (λ d.
      calm_append x c parameter_rungs (found_rungs ++ (others ++ final_rungs)) (others_calm x c parameter_rungs (search (tt, lit<))) (λ p.
      calm_append x c found_rungs (others ++ final_rungs) (calm_found p) (λ f.
      calm_append x c others final_rungs (calm_others p f) (λ h. calm_final p f h))))

  -- no call says DAMG
  pub never_damaged : (outcome c).status ≢ Damg
  never_damaged = rw (status_of_ladder c) (calm_refusal x c (ladder x) calm_ladder)
