-- DELVD of record r of the variable set i: its stores are the deeds of a linkage, path by path its neighbours become each other's, then the record
-- is wiped. So the data base after it stands for the rows without r.
use Rattle.std.specs.Prelude.{ℕ, ◌+◌, ◌<◌, ◌≡◌, refl, ◌≢◌, true, false, cond, eqb, length}
use Rattle.std.proofs.Math.Path.{sym, ap}
use Rattle.std.proofs.Common.{◌∙◌, ⊎_elim, arith, eq-eqb, ne_eqb}
use mathlib.Core.List.{List, [], ◌∷◌, ◌++◌}
use Rattle.std.proofs.lemmas.List.{length-replicate}
use Rattle.octets.specs.Octets.{run, zeros}
use Rattle.octets.specs.SpliceLaws.{length_run, get_d_zeros}
use Rattle.octets.specs.TestLaws.{never_both}
use Rattle.octets.specs.RunLaws.{all_zero-zeros, all_zero_eq, eq_same_bytes, ne_same_bytes}
use Rattle.schema.specs.declared.Schema.{Schema}
use Rattle.schema.specs.Decode.{entry_of}
use Rattle.records.proofs.KindLaws.{is_variable}
use Rattle.records.proofs.AreaLaws.{head_inside}
use Rattle.blocks.specs.Blocks.{check_by}
use Rattle.plans.specs.Plan.{Store, wipe_record, blocks_sealed, committed}
use Rattle.points.specs.Points.{del_stores}
use Rattle.chains.specs.Members.{all_map}
use Rattle.kept_state.specs.Deeds.{whole, stores_for}
use Rattle.kept_state.specs.DeedLaws.{stores_for_append}
use Rattle.kept_state.specs.SettleLaws.{zero_run}
use Rattle.kept_state.specs.Rows.{World, Represents, Mine, without}
use Rattle.kept_state.specs.Tests.{DelTests}
use Rattle.point_steps.specs.PointSteps.{PointStep}
use Rattle.point_steps.specs.RowChange.{Linkage, row_at, key?}
use Rattle.point_steps.specs.Neighbours.{without-fresh, del_linkage, del_place}
use Rattle.point_steps.specs.Sides.{sides, link_deeds, sides-stores, Linking, linked-storable, linked-step, side_set, linked-keeps}

module _ (t : Schema) (w : World t) (b : List ℕ) (rows : ℕ → ℕ → List ℕ → List ℕ) (g : Represents t b rows) (i r : ℕ) (ok : DelTests t b i r) where
  -- the call and its stores
  abbrev call : Linkage
  call = del_linkage t b rows i r

  del_stores_lem : del_stores b t (entry_of t i) r ≡ stores_for t (link_deeds t call)
  unfolding del_stores
  del_stores_lem =
      ap (λ (xs : List Store). xs ++ (wipe_record (entry_of t i) r ∷ [])) (sides-stores t call)
      ∙ sym (stores_for_append t (sides t call) (whole i r (zeros (entry_of t i).size) ∷ []))

  deleting : Linking t b rows call
  deleting =
      let s = (w.ok.set i ok.set.1).sized in
      let n : length call.bytes ≡ (entry_of t i).size = length-replicate (entry_of t i).size 0 in
      let f = head_inside (entry_of t i) (w.fields i ok.set.1) (is_variable t w.ok i ok.set.0 ok.set.1) in
      record {
        world = w;
        state = g;
        set = ok.set;
        number = ok.live.0;
        place = del_place t w b rows g i r ok;
        long = n;
        zeroed =
            all_zero_eq (run call.bytes 1 3) (zero_run call.bytes 1 3 (λ k l. get_d_zeros (entry_of t i).size (1 + k)))
            ∙ ap zeros (length_run call.bytes 1 3 (omega arith));
        live = ap (λ (z : ℕ). eqb z 1) (get_d_zeros (entry_of t i).size 0);
        wiped = λ z. all_zero-zeros (entry_of t i).size;
      }

  -- the row of another key has no r
  taken : (j : ℕ) → j < (entry_of t i).count → (q : List ℕ) → without r (rows i j q) ≡ row_at (rows i j) (call.key j) (without r (rows i j (call.key j))) q
  taken j l q =
      ⊎_elim (λ e. rw (eq_same_bytes q (call.key j) e) (ap (λ k. without r (rows i j k)) e))
      (λ n.
      rw (ne_same_bytes q (call.key j) n)
      (without-fresh r (rows i j q) (all_map (Mine t b i j q) (λ a. r ≢ a) (λ a m e. n (sym m.1 ∙ (rw (← e) refl))) (rows i j q) ((g.paths i j (ok.set.0, ok.set.1, l)).mine q))))
      (key? q (call.key j))

  pub del_storable : blocks_sealed (check_by t.edition) b (del_stores b t (entry_of t i) r) ≡ true
  del_storable = rw del_stores_lem (linked-storable deleting)

  pub del_point-step : PointStep t b (committed (check_by t.edition) b (del_stores b t (entry_of t i) r)) i r
  del_point-step = rw del_stores_lem (linked-step deleting)

  pub del_keeps : Represents t (committed (check_by t.edition) b (del_stores b t (entry_of t i) r)) (λ k j key. cond (eqb k i) (without r (rows k j key)) (rows k j key))
  del_keeps =
      rw del_stores_lem
      (linked-keeps deleting (λ k j key. cond (eqb k i) (without r (rows k j key)) (rows k j key)) (λ k j key d. rw (ne_eqb k i d) refl)
      (λ j l key. rw (eq-eqb i i refl) (taken j l key)) (λ j l. (side_set deleting j l true, side_set deleting j l false))
      (λ j l s. absurd (never_both false s refl)))
