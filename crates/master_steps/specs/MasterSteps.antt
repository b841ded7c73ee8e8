-- ADD-M, DEL-M and WRITM keep the state: the set of masters is sound afterwards, its masters are those of before (but for one that came or went
-- without points), every check is true, every record is clean, and everything outside the set is as it was: the records of other sets have the
-- bytes that they had, and so the other masters, the heads of paths to them, the points of every path, and the areas of the variable sets.
use Rattle.std.specs.Prelude.{ℕ, ◌≤◌, ◌<◌, ◌≡◌, refl, ◌≢◌, true, false, List, [], ◌∷◌}
use Rattle.std.proofs.Common.{sym, ◌∙◌, ⊎_elim, arith}
use Rattle.octets.specs.Octets.{all_zero}
use Rattle.octets.specs.SpliceLaws.{length_run}
use Rattle.octets.specs.BelowLaws.{same?}
use Rattle.schema.specs.declared.Schema.{Schema}
use Rattle.schema.specs.Decode.{entry_of, path_of, set_count}
use Rattle.schema.specs.Place.{InSet, record_of}
use Rattle.schema.specs.Guarantee.{IsPathOf}
use Rattle.records.specs.Records.{is_live, master_key}
use Rattle.records.specs.Address.{Field, root-next, root-prior, own_key, body, key, prior, next, first, last, size_of, HasField, get_run, get_word, address}
use Rattle.records.proofs.KindLaws.{is_variable}
use Rattle.records.specs.Areas.{area_of, area_keys, area_body}
use Rattle.blocks.specs.Blocks.{check_by}
use Rattle.plans.specs.Plan.{Store, store_run, blocks_sealed, committed}
use Rattle.masters.specs.Find.{find, home_in, record_found, is_at}
use Rattle.masters.specs.Root.{add_master_stores, del_master_stores}
use Rattle.sound.specs.Sound.{set_clean}
use Rattle.sound.specs.Sets.{Live}
use Rattle.kept_state.specs.AreaMade.{area_same}
use Rattle.kept_state.specs.Deeds.{Deed, after}
use Rattle.kept_state.specs.Frames.{SameMasters, SameHeads, SamePoints}
use Rattle.kept_state.specs.Rows.{World, Represents}
use Rattle.kept_state.specs.Tests.{AddMasterTests, DelMasterTests, WriteMasterTests}
use Rattle.kept_state.specs.DeedLaws.{record_missed, length-after}
use Rattle.kept_state.specs.SettleLaws.{free_zero, deeds-storable, sealed-after, clean_after}
use Rattle.master_steps.specs.FindLaws.{found-live}
use Rattle.master_steps.specs.CallDeeds.{MastersKnown, Within, some, CallDeeds, write_deeds}
use Rattle.kept_state.specs.HeldLaws.{live-is, run_is, word_is}
use Rattle.master_steps.specs.AddStores.{add-deeds}
use Rattle.master_steps.specs.DelStores.{del_deeds}
use Rattle.master_steps.specs.MasterStep.{MasterStep}

module _ {t : Schema} (w : World t) {b : List ℕ} {n : ℕ} (known : MastersKnown t b n) {ts : List ℕ} {ds : List Deed} (within : Within t b n ts ds) where
  -- ---- a record of another set

  module _ (k : ℕ) (l : k < set_count t) (d : k ≢ n) (r : ℕ) (i : InSet (entry_of t k) r) where
    same : record_of (after t b ds) (entry_of t k) r ≡ record_of b (entry_of t k) r
    same = record_missed w.ok b known.sized ds k r within.valid l i (within.off k r (λ z. absurd (d z)))

    same_live : is_live (after t b ds) (entry_of t k) r ≡ is_live b (entry_of t k) r
    same_live = live-is w.ok (after t b ds) k r _ l same ∙ sym (live-is w.ok b k r _ l refl)

    same_run : (f : Field) → HasField t k f → get_run t (after t b ds) (address k r f) ≡ get_run t b (address k r f)
    same_run f h = run_is w.ok (after t b ds) k r _ l same f h ∙ sym (run_is w.ok b k r _ l refl f h)

    same_word : (f : Field) → HasField t k f → size_of t (entry_of t k) f ≡ 4 → get_word t (after t b ds) (address k r f) ≡ get_word t b (address k r f)
    same_word f h s = word_is w.ok (after t b ds) k r _ l same f h s ∙ sym (word_is w.ok b k r _ l refl f h s)

    -- a free one is empty
    other_empty : set_clean b (entry_of t k) ≡ true → is_live (after t b ds) (entry_of t k) r ≡ false → all_zero (record_of (after t b ds) (entry_of t k) r) ≡ true
    other_empty clean dead = rw same (free_zero w.ok b known.sized k r l i clean (sym same_live ∙ dead))

    -- its area is made of its keys and its D bytes
    other_area : t.masters ≤ k → area_of (after t b ds) (entry_of t k) r ≡ area_of b (entry_of t k) r
    other_area v =
        area_same b (after t b ds) (entry_of t k) r (w.fields k l) (is_variable t w.ok k v l) (λ j h. same_run (key j) (v, l, h)) (same_run body l)

  -- ---- masters, heads and points

  other_masters_lem : (k : ℕ) → k < t.masters → k ≢ n → SameMasters t b (after t b ds) k
  other_masters_lem k m d =
      let l : k < set_count t = omega arith in
      record {
        live = λ r i. same_live k l d r i;
        key = λ r i. same_run k l d r i own_key m;
        next = λ r i. same_word k l d r i root-next m refl;
        prior = λ r i. same_word k l d r i root-prior m refl;
      }

  other_heads : (i j : ℕ) → IsPathOf t i j → (path_of (entry_of t i) j).master.0 ≢ n → SameHeads t b (after t b ds) i j
  other_heads i j p d =
      let k = (path_of (entry_of t i) j).master.0 in
      let m = (w.ok.path i j p).master in
      let l : (path_of (entry_of t i) j).master.0 < set_count t = omega arith in
      record { first = λ r h. same_word k l d r h (first i j) (p, refl) refl; last = λ r h. same_word k l d r h (last i j) (p, refl) refl }

  other_points : (i j : ℕ) → IsPathOf t i j → SamePoints t b (after t b ds) i j
  other_points i j p =
      let m = known.set in
      let d : i ≢ n = λ z. omega arith in
      record {
        live = λ r h. same_live i p.1 d r h;
        key = λ r h. same_run i p.1 d r h (key j) p;
        prior = λ r h. same_word i p.1 d r h (prior j) p refl;
        next = λ r h. same_word i p.1 d r h (next j) p refl;
      }

-- ---- the calls

module _ (t : Schema) (w : World t) (b : List ℕ) (rows : ℕ → ℕ → List ℕ → List ℕ) (g : Represents t b rows) (n : ℕ) where
  knows : n < t.masters → MastersKnown t b n
  knows m = record { ok = w.ok; sized = g.sized; set = m; clean = g.clean n (omega arith); sound = g.masters n m }

  step : (xs : List Store) → n < t.masters → CallDeeds t b n xs → MasterStep t b (committed (check_by t.edition) b xs) n
  step xs m d =
      rw d.are (record {
        sized = length-after w.ok b g.sized d.deeds ∙ g.sized;
        sealed = sealed-after w.ok b g.sized d.deeds d.within.valid g.sealed;
        clean = clean_after w.ok b g.sized d.deeds d.within.valid d.within.zeroed g.clean
            (λ k r l i dead. ⊎_elim (λ z. rw z (d.empty r (rw z at i) (rw z at dead))) (λ o. other_empty w (knows m) d.within k l o r i (g.clean k l) dead) (same? k n));
        masters = d.masters;
        others = other_masters_lem w (knows m) d.within;
        moved = d.moved;
        heads = other_heads w (knows m) d.within;
        points = other_points w (knows m) d.within;
        areas = λ i r a l h. other_area w (knows m) d.within i l (λ z. omega arith) r h a;
      })

  fits : (xs : List Store) → CallDeeds t b n xs → blocks_sealed (check_by t.edition) b xs ≡ true
  fits xs d = rw d.are (deeds-storable w.ok b g.sized d.deeds d.within.valid g.sealed)

  -- the master that was found
  found : (sought : List ℕ) → n < t.masters → is_at (find b (entry_of t n) sought) ≡ true
      → Live b (entry_of t n) (record_found (find b (entry_of t n) sought)) × (master_key b (entry_of t n) (record_found (find b (entry_of t n) sought)) ≡ sought)
  found sought m h = found-live b (entry_of t n) (some (knows m)) (g.masters n m) sought h

  pub add-master-step : (key area : List ℕ) → AddMasterTests t b n key area
      → MasterStep t b (committed (check_by t.edition) b (add_master_stores b (entry_of t n) (home_in (entry_of t n) key) area)) n
  add-master-step sought area tests = step _ tests.set (add-deeds (knows tests.set) tests)

  pub add-master-storable : (key area : List ℕ) → AddMasterTests t b n key area → blocks_sealed (check_by t.edition) b (add_master_stores b (entry_of t n) (home_in (entry_of t n) key) area) ≡ true
  add-master-storable sought area tests = fits _ (add-deeds (knows tests.set) tests)

  deleted : (key : List ℕ) → DelMasterTests t b n key
      → CallDeeds t b n (del_master_stores b (entry_of t n) (home_in (entry_of t n) key) (record_found (find b (entry_of t n) key)))
  deleted sought tests =
      let f = found sought tests.set tests.found in
      rw f.1 at (del_deeds (knows tests.set) (record_found (find b (entry_of t n) sought)) f.0 tests.no_points)

  pub del_master-step : (key : List ℕ) → DelMasterTests t b n key
      → MasterStep t b (committed (check_by t.edition) b (del_master_stores b (entry_of t n) (home_in (entry_of t n) key) (record_found (find b (entry_of t n) key)))) n
  del_master-step sought tests = step _ tests.set (deleted sought tests)

  pub del_master-storable : (key : List ℕ) → DelMasterTests t b n key
      → blocks_sealed (check_by t.edition) b (del_master_stores b (entry_of t n) (home_in (entry_of t n) key) (record_found (find b (entry_of t n) key))) ≡ true
  del_master-storable sought tests = fits _ (deleted sought tests)

  written : (key area : List ℕ) → WriteMasterTests t b n key area
      → CallDeeds t b n (store_run (entry_of t n) (record_found (find b (entry_of t n) key)) (entry_of t n).body (area_body (entry_of t n) area) ∷ [])
  written sought area tests =
      write_deeds (knows tests.set) (record_found (find b (entry_of t n) sought)) (area_body (entry_of t n) area) (found sought tests.set tests.found).0
      (length_run area (area_keys (entry_of t n)) (entry_of t n).room (omega (arith, tests.area-length)))

  pub write_master-step : (key area : List ℕ) → WriteMasterTests t b n key area
      → MasterStep t b (committed (check_by t.edition) b (store_run (entry_of t n) (record_found (find b (entry_of t n) key)) (entry_of t n).body (area_body (entry_of t n) area) ∷ [])) n
  write_master-step sought area tests = step _ tests.set (written sought area tests)

  pub write_master-storable : (key area : List ℕ) → WriteMasterTests t b n key area
      → blocks_sealed (check_by t.edition) b (store_run (entry_of t n) (record_found (find b (entry_of t n) key)) (entry_of t n).body (area_body (entry_of t n) area) ∷ []) ≡ true
  write_master-storable sought area tests = fits _ (written sought area tests)
