-- A sound set of masters finds its keys: a live master by its key, and a key that no live master has is missing; the search meets no damage.
-- The home of such a key is not held by its own, or the home's chain is searched to its end.
use Rattle.std.specs.Prelude.{ℕ, zero, suc, ◌≤◌, ◌≡◌, refl, ◌≢◌, ◌⊎◌, Bool, true, false, List, [], ◌∷◌, length}
use Rattle.std.proofs.Common.{sym, ◌∙◌, inl, inr, ⊎_elim, arith, eq-eqb, ne_eqb}
use Rattle.octets.specs.TestLaws.{never_both}
use Rattle.octets.specs.RunLaws.{ne_same_bytes}
use Rattle.schema.specs.declared.Entry.{Entry}
use Rattle.records.specs.Records.{root_next, root_prior, master_key}
use Rattle.masters.specs.declared.Found.TheVariants.{At, Missing}
use Rattle.masters.specs.Find.{home_in, held_by_own, seek, find, is_at, is_missing, is_damaged, record_found}
use Rattle.masters.proofs.WalkLaws.{find-not-held, find-held}
use Rattle.terms.specs.Laws.{home_in_set}
use Rattle.chains.specs.Members.{All, all_map}
use Rattle.sound.specs.Sound.{home_list, has_master}
use Rattle.sound.proofs.ListLaws.{in_set_test}
use Rattle.sound.specs.Sets.{Live, MasterSet}
use Rattle.sound.proofs.HomeLaws.{OfHome}
use Rattle.sound.proofs.MasterLaws.{sound_placed}
use Rattle.sound.proofs.PathLaws.{has_master_says, has_master-holds}
use Rattle.master_steps.specs.LinkedLists.{Chained}
use Rattle.master_steps.specs.RowLaws.{held-list, row-short, rows_of}

-- along a chain of live records of other keys the search comes to the end
seek-none : (n : ℕ) (b : List ℕ) (e : Entry) (key : List ℕ) (p q : ℕ) (rs : List ℕ) → Chained (root_next b e) (root_prior b e) p (q ∷ rs) 0
    → All (λ r. Live b e r × (master_key b e r ≢ key)) (q ∷ rs) → length (q ∷ rs) ≤ n → seek n b e key q ≡ Missing
unfolding seek
seek-none zero b e key p q rs c l s = absurd (omega arith)
seek-none (suc n) b e key p q [] c l s =
    rw (in_set_test e q l.0.0.0, l.0.0.1, ne_same_bytes _ key l.0.1, eq-eqb (root_next b e q) 0 c.1) refl
seek-none (suc n) b e key p q (r ∷ rs) c l s =
    let z : r ≢ 0 = λ t. omega arith in
    rw (in_set_test e q l.0.0.0, l.0.0.1, ne_same_bytes _ key l.0.1, c.1, ne_eqb r 0 z)
    (seek-none n b e key q r rs c.2 l.1 (omega arith))

module _ (b : List ℕ) (e : Entry) (some : 1 ≤ e.records) (ms : MasterSet b e) where
  pub find-live : (m : ℕ) (key : List ℕ) → Live b e m → master_key b e m ≡ key → find b e key ≡ At (record { 0 = m })
  find-live m key l k = rw k at (sound_placed b e some ms m l).found

  pub find_none : (key : List ℕ) → ((m : ℕ) → Live b e m → master_key b e m ≢ key) → find b e key ≡ Missing
  find_none key f = by (held_by_own b e (home_in e key)) refl
    where
      by : (t : Bool) → held_by_own b e (home_in e key) ≡ t → find b e key ≡ Missing
      by true t =
          let h : ℕ = home_in e key in
          let i = home_in_set e.records key some in
          let row = (rows_of b e some ms).row h i in
          let w = held-list b e h (home_list b e h) row i t in
          let a = all_map (OfHome b e h) (λ r. Live b e r × (master_key b e r ≢ key)) (λ r o. (o.0, f r o.0)) (home_list b e h) row.only in
          sym (find-held b e key t)
          ∙ seek-none e.records b e key 0 h w.0 (rw w.1 at row.chain) (rw w.1 at a) (rw w.1 at (row-short b e h (home_list b e h) row))
      by false t = sym (find-not-held b e key t)

  -- so the search tells whether a live master has the key
  pub found_or_not : (key : List ℕ) → ((m : ℕ) × Live b e m × (master_key b e m ≡ key)) ⊎ ((m : ℕ) → Live b e m → master_key b e m ≢ key)
  found_or_not key = by (has_master b e key) refl
    where
      by : (t : Bool) → has_master b e key ≡ t → ((m : ℕ) × Live b e m × (master_key b e m ≡ key)) ⊎ ((m : ℕ) → Live b e m → master_key b e m ≢ key)
      by true t = inl (has_master_says b e key t)
      by false t = inr (λ m l k. never_both _ (has_master-holds b e key m l k) t)

  pub find-quiet : (key : List ℕ) → is_damaged (find b e key) ≡ false
  find-quiet key = ⊎_elim (λ t. rw (find-live t.0 key t.1 t.2) refl) (λ f. rw (find_none key f) refl) (found_or_not key)

  pub found-live : (key : List ℕ) → is_at (find b e key) ≡ true → Live b e (record_found (find b e key)) × (master_key b e (record_found (find b e key)) ≡ key)
  found-live key h =
      ⊎_elim (λ t. rw (find-live t.0 key t.1 t.2) (t.1, t.2)) (λ f. absurd (never_both _ h (rw (find_none key f) refl))) (found_or_not key)

  pub find_missing : (key : List ℕ) → is_missing (find b e key) ≡ true → (m : ℕ) → Live b e m → master_key b e m ≢ key
  find_missing key h m l k = never_both _ h (rw (find-live m key l k) refl)
