-- Sign-on's judgement is document 01's: what the code computes in one pass, `in_place`, is `sound`. Set by set: a set of masters by
-- MasterLaws; a variable set path by path, by CountLaws, since the masters of its paths stand in earlier entries and are sound if either
-- judgement is passed.
use Rattle.std.specs.Prelude.{ℕ, ◌≤◌, ◌<◌, ◌≡◌, refl, Bool, ◌&&◌, List}
use Rattle.std.proofs.Math.Path.{sym, ap}
use Rattle.std.proofs.Common.{◌∙◌, arith}
use Rattle.std.proofs.Math.Bool.{true, false, cond, and-eq-true_iff}
use Rattle.octets.specs.Below.{all_below}
use Rattle.octets.specs.BelowLaws.{all_below-at, all_below-same}
use Rattle.octets.specs.RunLaws.{tests_eq}
use Rattle.schema.specs.declared.Schema.{Schema}
use Rattle.schema.specs.Decode.{entry_of, path_of, set_count}
use Rattle.schema.specs.Guarantee.{SchemaOk}
use Rattle.records.specs.Areas.{is_master}
use Rattle.records.proofs.KindLaws.{is_master_lem, behind-masters}
use Rattle.sound.specs.Sound.{checks_true, set_clean, master_set_sound, variable_set_sound, variable_path_sound, set_sound, sound}
use Rattle.sound.specs.Linear.{masters_in_place, path_in_place, paths_in_place, set_in_place, in_place}
use Rattle.sound.proofs.KeyLaws.{master_set_says}
use Rattle.sound.proofs.MasterLaws.{masters_in_place-sound}
use Rattle.sound.proofs.CountLaws.{path_in_place-sound}

-- a set's second test, where it is a set of masters
master-part : (c k m v : Bool) → k ≡ true → (c && cond k m v) ≡ true → m ≡ true
master-part c k m v q h = ((and-eq-true_iff c m).0 (rw q at h)).1

module _ (t : Schema) (b : List ℕ) (ok : SchemaOk t) where
  -- every set of masters is sound
  abbrev MastersSound : Type 0
  MastersSound = (i : ℕ) → i < t.masters → master_set_sound b (entry_of t i) ≡ true

  masters-same : (i : ℕ) → i < set_count t → masters_in_place b (entry_of t i) ≡ master_set_sound b (entry_of t i)
  masters-same i l = masters_in_place-sound b (entry_of t i) (ok.set i l).some

  -- then the two judgements agree on every set
  paths-same : MastersSound → (i : ℕ) → i < set_count t → t.masters ≤ i → paths_in_place t b (entry_of t i) ≡ variable_set_sound t b (entry_of t i)
  unfolding paths_in_place variable_set_sound
  paths-same ms i l v =
      let e = entry_of t i in
      all_below-same (λ j. path_in_place b e (path_of e j) (entry_of t (path_of e j).master.0)) (λ j. variable_path_sound b e (path_of e j) (entry_of t (path_of e j).master.0)) e.count
      (λ j k. path_in_place-sound b e (path_of e j) (entry_of t (path_of e j).master.0) (master_set_says b _ (ms (path_of e j).master.0 (ok.path i j (v, l, k)).master)))

  sets_same : MastersSound → (i : ℕ) → i < set_count t → set_in_place t b (entry_of t i) ≡ set_sound t b (entry_of t i)
  unfolding set_in_place set_sound
  sets_same ms i l = ap (λ (z : Bool). set_clean b (entry_of t i) && z) (by (is_master (entry_of t i)) refl)
    where
      by : (k : Bool) → is_master (entry_of t i) ≡ k
          → cond k (masters_in_place b (entry_of t i)) (paths_in_place t b (entry_of t i)) ≡ cond k (master_set_sound b (entry_of t i)) (variable_set_sound t b (entry_of t i))
      by true k = masters-same i l
      by false k = paths-same ms i l (behind-masters t ok i k)

  -- and either judgement has the masters sound
  abbrev all_in_place : Bool
  all_in_place = all_below (λ i. set_in_place t b (entry_of t i)) (set_count t)

  abbrev all_sound : Bool
  all_sound = all_below (λ i. set_sound t b (entry_of t i)) (set_count t)

  masters_in_place_lem : all_in_place ≡ true → MastersSound
  unfolding set_in_place
  masters_in_place_lem h i l =
      sym (masters-same i (omega arith))
      ∙ master-part (set_clean b (entry_of t i)) (is_master (entry_of t i)) (masters_in_place b (entry_of t i)) (paths_in_place t b (entry_of t i)) (is_master_lem t ok i l)
      (all_below-at (λ i. set_in_place t b (entry_of t i)) (set_count t) i h (omega arith))

  masters-sound : all_sound ≡ true → MastersSound
  unfolding set_sound
  masters-sound h i l =
      master-part (set_clean b (entry_of t i)) (is_master (entry_of t i)) (master_set_sound b (entry_of t i)) (variable_set_sound t b (entry_of t i)) (is_master_lem t ok i l)
      (all_below-at (λ i. set_sound t b (entry_of t i)) (set_count t) i h (omega arith))

  all_same : MastersSound → all_in_place ≡ all_sound
  all_same ms = all_below-same (λ i. set_in_place t b (entry_of t i)) (λ i. set_sound t b (entry_of t i)) (set_count t) (sets_same ms)

-- The judgement of sign-on is `sound`, for every schema that is decoded and every data base, whatever its bytes and its length
pub in_place-sound : (t : Schema) (b : List ℕ) → SchemaOk t → in_place t b ≡ sound t b
unfolding in_place sound
in_place-sound t b ok =
    ap (λ (z : Bool). checks_true t b && z)
    (tests_eq (all_in_place t b ok) (all_sound t b ok) (λ h. sym (all_same t b ok (masters_in_place_lem t b ok h)) ∙ h) (λ h. all_same t b ok (masters-sound t b ok h) ∙ h))
