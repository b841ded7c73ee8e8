-- What a sound set of masters is, in the words of a proof: no blank key, no key twice, and the chain of each home. Test and words say the
-- same; sets of points need only the first two of them.
use Rattle.std.specs.Prelude.{ℕ, ◌<◌, ◌≡◌, ◌⊎◌, Bool, ◌&&◌, ◌||◌, List}
use Rattle.std.proofs.Math.Path.{refl}
use Rattle.std.proofs.Common.{sym, inl, inr}
use Rattle.std.proofs.Math.Bool.{true, false, not, and-eq-true_iff}
use native.Mathlib.Omega.{arith}
use Rattle.std.proofs.Math.Dec.{leb}
use borrow.Author.Tests.{leb-true, le-leb, not-true}
use Rattle.octets.specs.Octets.{all_blank, same_bytes}
use Rattle.octets.specs.BelowLaws.{same?}
use Rattle.octets.specs.TestLaws.{never_both, either, either_left, either-right}
use Rattle.octets.specs.RunLaws.{eq_same_bytes, same_bytes_eq}
use Rattle.schema.specs.declared.Entry.{Entry}
use Rattle.schema.specs.Place.{InSet}
use Rattle.records.specs.Records.{is_live, master_key}
use Rattle.sound.specs.Sound.{each_record, keys_distinct, home_sound, master_set_sound}
use Rattle.sound.specs.Sets.{Live, MasterSet}
use Rattle.sound.proofs.SoundLaws.{each_record-at}
use Rattle.sound.proofs.ListLaws.{not_and, and_not, each_record-all}

module _ (b : List ℕ) (e : Entry) where
  -- both are live and have one key
  abbrev twins : ℕ → ℕ → Bool
  twins q r = is_live b e q && is_live b e r && same_bytes (master_key b e q) (master_key b e r)

  twins-are : (q r : ℕ) → is_live b e q ≡ true → is_live b e r ≡ true → master_key b e q ≡ master_key b e r → twins q r ≡ true
  twins-are q r p s k = rw (p, s) (eq_same_bytes _ _ k)

  keys_apart : keys_distinct b e ≡ true → (q r : ℕ) → Live b e q → Live b e r → q < r → master_key b e q ≡ master_key b e r → ⊥
  unfolding keys_distinct
  keys_apart h q r lq lr l k =
      by (either (leb r q) (not (twins q r))
      (each_record-at e (λ q. leb r q || not (twins q r)) q (each_record-at e (λ r. each_record e (λ q. leb r q || not (twins q r))) r h lr.0) lq.0))
    where
      by : (leb r q ≡ true) ⊎ (not (twins q r) ≡ true) → ⊥
      by (inl t) = omega (arith, leb-true r q t)
      by (inr t) = never_both (twins q r) (twins-are q r lq.1 lr.1 k) (not-true _ t)

  pub master_set_says : master_set_sound b e ≡ true → MasterSet b e
  unfolding master_set_sound
  master_set_says h =
      let a = (and-eq-true_iff (each_record e (λ r. not (is_live b e r && all_blank (master_key b e r))) && keys_distinct b e) (each_record e (home_sound b e))).0 h in
      let c = (and-eq-true_iff (each_record e (λ r. not (is_live b e r && all_blank (master_key b e r)))) (keys_distinct b e)).0 a.0 in
      record {
        no_blank = λ r l. not_and (is_live b e r) (all_blank (master_key b e r)) (each_record-at e (λ r. not (is_live b e r && all_blank (master_key b e r))) r c.0 l.0) l.1;
        one = λ q r lq lr k. by q r (same? q r) (λ l. keys_apart c.1 q r lq lr l k) (λ l. keys_apart c.1 r q lr lq l (sym k));
        homes = λ r l. each_record-at e (home_sound b e) r a.1 l;
      }
    where
      by : (q r : ℕ) → (q ≡ r) ⊎ (q ≡ r → ⊥) → (q < r → ⊥) → (r < q → ⊥) → q ≡ r
      by q r (inl s) f g = s
      by q r (inr n) f g = omega arith

  keys_distinct_lem : ((q r : ℕ) → Live b e q → Live b e r → master_key b e q ≡ master_key b e r → q ≡ r) → keys_distinct b e ≡ true
  unfolding keys_distinct
  keys_distinct_lem one =
      each_record-all e (λ r. each_record e (λ q. leb r q || not (twins q r)))
      (λ r ir. each_record-all e (λ q. leb r q || not (twins q r)) (λ q iq. by q r iq ir (twins q r) refl))
    where
      by : (q r : ℕ) → InSet e q → InSet e r → (t : Bool) → twins q r ≡ t → (leb r q || not t) ≡ true
      by q r iq ir true t =
          let a = (and-eq-true_iff (is_live b e q && is_live b e r) (same_bytes (master_key b e q) (master_key b e r))).0 t in
          let c = (and-eq-true_iff (is_live b e q) (is_live b e r)).0 a.0 in
          let s : q ≡ r = one q r (iq, c.0) (ir, c.1) (same_bytes_eq _ _ a.1) in
          either_left (leb r q) false (le-leb r q (omega arith))
      by q r iq ir false t = either-right (leb r q) true refl

  pub master_set_holds : MasterSet b e → master_set_sound b e ≡ true
  unfolding master_set_sound
  master_set_holds s =
      (and-eq-true_iff (each_record e (λ r. not (is_live b e r && all_blank (master_key b e r))) && keys_distinct b e) (each_record e (home_sound b e))).1 (
        (and-eq-true_iff (each_record e (λ r. not (is_live b e r && all_blank (master_key b e r)))) (keys_distinct b e)).1 (
          each_record-all e (λ r. not (is_live b e r && all_blank (master_key b e r))) (λ r i. and_not (is_live b e r) (all_blank (master_key b e r)) (λ l. s.no_blank r (i, l))),
          keys_distinct_lem s.one,
        ),
        each_record-all e (home_sound b e) s.homes,
      )
