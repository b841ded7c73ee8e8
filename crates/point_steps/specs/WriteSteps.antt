-- WRITV: the D bytes of record r of the variable set i become those of the area. Its store is one deed, which no field but the D bytes looks at, so
-- the rows are as they were; and the record reads into the area, whose keys it has.
use Rattle.std.specs.Prelude.{ℕ, ◌≡◌, refl, true, List, [], ◌∷◌}
use Rattle.std.proofs.Common.{sym, ◌∙◌, arith}
use Rattle.octets.specs.SpliceLaws.{length_run}
use Rattle.octets.specs.TestLaws.{never_both}
use Rattle.schema.specs.declared.Schema.{Schema}
use Rattle.schema.specs.Decode.{entry_of}
use Rattle.schema.specs.Guarantee.{IsPathOf}
use Rattle.records.specs.Records.{is_live}
use Rattle.records.specs.Areas.{area_keys, area_body, area_of}
use Rattle.records.proofs.KindLaws.{is_variable}
use Rattle.records.specs.Address.{body, key, address}
use Rattle.records.proofs.AddressLaws.{other_kind}
use Rattle.blocks.specs.Blocks.{check_by}
use Rattle.plans.specs.Plan.{store_run, blocks_sealed, committed}
use Rattle.kept_state.specs.Deeds.{Deed, fill, after, AllValid}
use Rattle.kept_state.specs.DeedLaws.{run_missed, run_filled, live-missed}
use Rattle.kept_state.specs.SettleLaws.{deeds-storable}
use Rattle.kept_state.specs.Rows.{World, Represents}
use Rattle.kept_state.specs.Tests.{WriteTests}
use Rattle.point_steps.specs.RowFacts.{path_numbered}
use Rattle.point_steps.specs.FollowLaws.{path_frame}
use Rattle.point_steps.specs.Nodes.{plain-apart}
use Rattle.kept_state.specs.AreaMade.{area-made}
use Rattle.point_steps.specs.PointSteps.{PointStep, point-step-keeps, path_same, deeds-step}

module _ (t : Schema) (w : World t) (b : List ℕ) (rows : ℕ → ℕ → List ℕ → List ℕ) (g : Represents t b rows) (i r : ℕ) (area : List ℕ) (ok : WriteTests t b i r area) where
  -- the deed, and the data base after it
  abbrev fills : List Deed
  fills = fill i r (area_body (entry_of t i) area) ∷ []

  abbrev written : List ℕ
  written = after t b fills

  valid : AllValid t fills
  valid = (((ok.set.1, ok.live.0, ok.set.1), length_run area (area_keys (entry_of t i)) (entry_of t i).room (omega (arith, ok.area-length))), tt)

  pub write_storable : blocks_sealed (check_by t.edition) b (store_run (entry_of t i) r (entry_of t i).body (area_body (entry_of t i) area) ∷ []) ≡ true
  write_storable = deeds-storable w.ok b g.sized fills valid g.sealed

  pub write_point-step : PointStep t b (committed (check_by t.edition) b (store_run (entry_of t i) r (entry_of t i).body (area_body (entry_of t i) area) ∷ [])) i r
  write_point-step =
      deeds-step t w b rows g i r ok.set.0 fills ((valid.0, tt, (refl, refl)), tt)
      (λ f. absurd (never_both (is_live b (entry_of t i) r) ok.live.1 (sym (live-missed w.ok b g.sized fills i r valid ok.set.1 ok.live.0 (tt, tt)) ∙ f)))

  pub write_keeps : Represents t (committed (check_by t.edition) b (store_run (entry_of t i) r (entry_of t i).body (area_body (entry_of t i) area) ∷ [])) rows
  write_keeps =
      point-step-keeps t w b written rows rows i r g write_point-step (λ k j key n. refl) (λ j l.
      let p : IsPathOf t i j = (ok.set.0, ok.set.1, l) in
      let same = path_same t w b rows g fills valid i j p (λ q. (tt, tt)) (λ q. (other_kind i i q r (key j) body refl, tt))
      (λ way m a. (λ e. plain-apart t way i r body i j m a refl (sym e), tt)) in
      path_frame t b written i j (rows i j) p same.0 same.1
      (write_point-step.masters (path_numbered t i j).master.0 (w.ok.path i j p).master) (g.paths i j p))

  pub write_area : area_of (committed (check_by t.edition) b (store_run (entry_of t i) r (entry_of t i).body (area_body (entry_of t i) area) ∷ [])) (entry_of t i) r ≡ area
  write_area =
      area-made written (entry_of t i) r area (w.fields i ok.set.1) (is_variable t w.ok i ok.set.0 ok.set.1) ok.area-length
      (λ k l.
      run_missed w.ok b g.sized fills (address i r (key k)) valid (ok.set.1, ok.live.0, (ok.set.0, ok.set.1, l)) (other_kind i i r r (key k) body refl, tt) ∙ sym (ok.same_keys k l))
      (run_filled w.ok b g.sized [] i r (area_body (entry_of t i) area) [] valid tt)
