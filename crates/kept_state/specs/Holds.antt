-- What is true of a data base and stays true through the commit of a list of deeds: it is enough that each deed and each sealing keeps it.
-- DeedLaws and SettleLaws apply this to what stands at an address, to whole records, and to the bytes that are no field.
use Rattle.std.specs.Prelude.{ℕ, ◌*◌, ◌≡◌, refl, length}
use Rattle.std.proofs.Common.{◌∙◌}
use mathlib.Core.List.{List, [], ◌∷◌, ◌++◌}
use Rattle.octets.specs.Octets.{splice}
use Rattle.octets.specs.SpliceLaws.{length-splice}
use Rattle.blocks.specs.Blocks.{check_by, seal}
use Rattle.schema.specs.declared.Schema.{Schema}
use Rattle.plans.specs.Plan.{Store, store_all, seal_all, committed}
use Rattle.kept_state.specs.Deeds.{Deed, store_of, stores_for, after, Valid, AllValid}

-- the data base with one deed done, no check set
abbrev pub deed_done : Schema → List ℕ → Deed → List ℕ
deed_done t b d = splice b (store_of t d).at (store_of t d).bytes

-- what is known of a deed in the middle
pub valid-at : (t : Schema) (us : List Deed) (d : Deed) (vs : List Deed) → AllValid t (us ++ d ∷ vs) → Valid t d × AllValid t vs
valid-at t [] d vs h = h
valid-at t (u ∷ us) d vs h = valid-at t us d vs h.1

-- R says S of each deed of a list
module _ (t : Schema) (S : Deed → Type 0) (R : List Deed → Type 0) (parts : (d : Deed) (ds : List Deed) → R (d ∷ ds) → S d × R ds) where
  -- I is kept by sealing and by each deed of which S is true, in data bases that are as long as the schema says
  module _ (I : List ℕ → Type 0) (sealing : (c : List ℕ) (k : ℕ) → I c → I (seal (check_by t.edition) c k))
      (step : (d : Deed) (c : List ℕ) → Valid t d → S d → length c ≡ 512 * t.blocks → I c → I (deed_done t c d)) where
    all_sealed_lem : (xs : List Store) (c : List ℕ) → I c → I (seal_all (check_by t.edition) c xs)
    unfolding seal_all
    all_sealed_lem [] c h = h
    all_sealed_lem (x ∷ xs) c h = all_sealed_lem xs (seal (check_by t.edition) c _) (sealing c _ h)

    all_stored : (ds : List Deed) (c : List ℕ) → length c ≡ 512 * t.blocks → AllValid t ds → R ds → I c → I (store_all c (stores_for t ds))
    unfolding store_all
    all_stored [] c e v q h = h
    all_stored (d ∷ ds) c e v q h =
        all_stored ds (deed_done t c d) (length-splice c _ (store_of t d).bytes ∙ e) v.1 (parts d ds q).1 (step d c v.0 (parts d ds q).0 e h)

    stored-from : (us : List Deed) (d : Deed) (vs : List Deed) (c : List ℕ) → length c ≡ 512 * t.blocks → AllValid t vs → R vs
        → ((c : List ℕ) → length c ≡ 512 * t.blocks → I (deed_done t c d)) → I (store_all c (stores_for t (us ++ d ∷ vs)))
    unfolding store_all
    stored-from [] d vs c e v q h = all_stored vs (deed_done t c d) (length-splice c _ (store_of t d).bytes ∙ e) v q (h c e)
    stored-from (u ∷ us) d vs c e v q h = stored-from us d vs (deed_done t c u) (length-splice c _ (store_of t u).bytes ∙ e) v q h

    pub holds : (b : List ℕ) (ds : List Deed) → length b ≡ 512 * t.blocks → AllValid t ds → R ds → I b → I (after t b ds)
    unfolding committed
    holds b ds e v q h = all_sealed_lem (stores_for t ds) (store_all b (stores_for t ds)) (all_stored ds b e v q h)

    -- the same where one of the deeds makes it true
    holds-from : (b : List ℕ) (us : List Deed) (d : Deed) (vs : List Deed) → length b ≡ 512 * t.blocks → AllValid t (us ++ d ∷ vs) → R vs
        → ((c : List ℕ) → length c ≡ 512 * t.blocks → I (deed_done t c d)) → I (after t b (us ++ d ∷ vs))
    unfolding committed
    holds-from b us d vs e v q h =
        all_sealed_lem (stores_for t (us ++ d ∷ vs)) (store_all b (stores_for t (us ++ d ∷ vs))) (stored-from us d vs b e (valid-at t us d vs v).1 q h)

  -- a reading that neither sealing nor any deed of which S is true changes
  module _ {X : Type 0} (g : List ℕ → X) (sealing : (c : List ℕ) (k : ℕ) → g (seal (check_by t.edition) c k) ≡ g c)
      (step : (d : Deed) (c : List ℕ) → Valid t d → S d → g (deed_done t c d) ≡ g c) where
    pub kept : (b : List ℕ) (ds : List Deed) → length b ≡ 512 * t.blocks → AllValid t ds → R ds → g (after t b ds) ≡ g b
    kept b ds e v q = holds (λ c. g c ≡ g b) (λ c k h. sealing c k ∙ h) (λ d c w s l h. step d c w s ∙ h) b ds e v q refl

    pub put : (b : List ℕ) (us : List Deed) (d : Deed) (vs : List Deed) (x : X) → length b ≡ 512 * t.blocks → AllValid t (us ++ d ∷ vs) → R vs
        → ((c : List ℕ) → length c ≡ 512 * t.blocks → g (deed_done t c d) ≡ x) → g (after t b (us ++ d ∷ vs)) ≡ x
    put b us d vs x e v q h = holds-from (λ c. g c ≡ x) (λ c k h. sealing c k ∙ h) (λ d c w s l h. step d c w s ∙ h) b us d vs e v q h
