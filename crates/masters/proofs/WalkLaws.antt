-- The walk, step by step, is the search: what each step leaves to find, and where the chain ends.
use Prim.Native.Nat.{ℕ, zero, suc, ◌+◌, ◌-◌, ◌≤◌, ◌<◌}
use Rattle.std.specs.Prelude.{◌≡◌, Bool, ◌&&◌, List, eqb, ltb}
use Rattle.std.proofs.Math.Path.{refl}
use Rattle.std.proofs.Common.{sym, ap, ◌∙◌}
use Rattle.std.proofs.Math.Bool.{true, false, cond}
use native.Mathlib.Omega.{arith}
use Rattle.std.proofs.Math.Numerals.{add-one}
use borrow.Author.Tests.{ltb-true, lt-ltb, le-ltb, le-leb, lt-leb, eq-eqb, ne_eqb}
use Rattle.octets.specs.Octets.{run, same_bytes}
use Rattle.octets.specs.RunLaws.{same_bytes_comm}
use Rattle.terms.specs.declared.RecordNo.{RecordNo}
use Rattle.schema.specs.declared.Entry.{Entry}
use Rattle.schema.specs.Place.{InSet, in_set, place_of}
use Rattle.records.specs.Records.{is_live, root_next, master_key}
use Rattle.masters.specs.declared.Found.{Found}
use Rattle.masters.specs.declared.Found.TheVariants as F
use Rattle.masters.specs.declared.walk.Walk.{Walk}
use Rattle.masters.specs.declared.walk.Step.{Step}
use Rattle.masters.specs.declared.walk.Step.TheVariants as S
use Rattle.masters.specs.Find.{home_in, held_by_own, seek, find, tail_from}
use Rattle.masters.proofs.FindLaws.{seek-tail}
use Rattle.masters.specs.Walks.{decide_of, step_of, resolve, last_sought}

-- ---- what a step does, by the tests that the code makes

module _ (b : List ℕ) (e : Entry) (key : List ℕ) (w : Walk) where
  pub step_over : e.records ≤ w.visited → S.Damaged ≡ step_of b e key w
  unfolding step_of
  step_over h = rw (le-ltb _ _ h)

  outside : in_set e w.at ≡ false → S.Damaged ≡ step_of b e key w
  unfolding step_of
  outside h = go (ltb w.visited e.records)
    where
      go : (t : Bool) → S.Damaged ≡ cond t (cond (in_set e w.at) (decide_of w (is_live b e w.at) (same_bytes (master_key b e w.at) key) (root_next b e w.at)) S.Damaged) S.Damaged
      go true = rw h
      go false = refl

  pub step-none : w.at ≡ 0 → S.Damaged ≡ step_of b e key w
  step-none h = outside (rw (lt-leb 1 w.at (omega arith)))

  pub step-above : 1 ≤ w.at → e.records < w.at → S.Damaged ≡ step_of b e key w
  step-above l h = outside (rw (le-leb _ _ l, lt-leb _ _ h))

  pub step-look : w.visited < e.records → InSet e w.at
      → decide_of w (is_live b e w.at) (same_bytes (master_key b e w.at) key) (root_next b e w.at) ≡ step_of b e key w
  unfolding step_of
  step-look v i = rw (lt-ltb _ _ v, le-leb _ _ i.0, le-leb _ _ i.1)

  -- by what is read of the record: live or not, and then its key, which the code compares with the k bytes sought, and its ROOT next
  module _ (v : w.visited < e.records) (i : InSet e w.at) {l : Bool} (el : l ≡ is_live b e w.at) where
    pub step_free : l ≡ false → S.Damaged ≡ step_of b e key w
    unfolding decide_of
    step_free h = (rw (sym el ∙ h) refl) ∙ step-look v i

    module _ (live : l ≡ true) {k : ℕ} (sized : k ≡ e.key) {s : Bool} (same : s ≡ same_bytes key (run b (place_of e w.at + 12) k)) where
      keyed : same_bytes (master_key b e w.at) key ≡ s
      keyed = sym (same ∙ (rw sized (same_bytes_comm key (master_key b e w.at))))

      pub step_here : s ≡ true → S.Found (record { 0 = w.at }) ≡ step_of b e key w
      unfolding decide_of
      step_here h = (rw (sym el ∙ live, keyed ∙ h) refl) ∙ step-look v i

      module _ (other : s ≡ false) {next : ℕ} (en : next ≡ root_next b e w.at) where
        pub step_end : next ≡ 0 → S.Absent ≡ step_of b e key w
        unfolding decide_of
        step_end h = (rw (sym el ∙ live, keyed ∙ other, ← en, eq-eqb next 0 h) refl) ∙ step-look v i

        pub step_on : (next ≡ 0 → ⊥) → S.Next (record { at = next; visited = w.visited + 1 }) ≡ step_of b e key w
        unfolding decide_of
        step_on h = (rw (sym el ∙ live, keyed ∙ other, ← en, ne_eqb next 0 h) refl) ∙ step-look v i

-- ---- a step of the walk is a turn of the search

-- the tests of a step: a, fewer than R are visited; i, the pointer is a record of the set; l, it is live; s, it has the key; z, its
-- ROOT next is 0
tests : Bool → Bool → Bool → Bool → Bool → RecordNo → Walk → Step
tests a i l s z r u = cond a (cond i (cond l (cond s (S.Found r) (cond z S.Absent (S.Next u))) S.Damaged) S.Damaged) S.Damaged

found-by : (i l s z : Bool) (r : RecordNo) (u : Walk) (f : Walk → Found)
    → cond (i && l) (cond s (F.At r) (cond z F.Missing (f u))) F.Damaged ≡ resolve f (tests true i l s z r u)
unfolding tests
found-by false l s z r u f = refl
found-by true false s z r u f = refl
found-by true true true z r u f = refl
found-by true true false true r u f = refl
found-by true true false false r u f = refl

absent_by : (a i l s z : Bool) (r : RecordNo) (u : Walk) → tests a i l s z r u ≡ S.Absent → (a ≡ true) × (z ≡ true)
unfolding tests
absent_by false i l s z r u h = absurd (let k : ◌≡◌ {A = ℕ} 0 1 = cc in omega arith)
absent_by true false l s z r u h = absurd (let k : ◌≡◌ {A = ℕ} 0 1 = cc in omega arith)
absent_by true true false s z r u h = absurd (let k : ◌≡◌ {A = ℕ} 0 1 = cc in omega arith)
absent_by true true true true z r u h = absurd (let k : ◌≡◌ {A = ℕ} 0 1 = cc in omega arith)
absent_by true true true false true r u h = (refl, refl)
absent_by true true true false false r u h = absurd (let k : ◌≡◌ {A = ℕ} 0 1 = cc in omega arith)

next_by : (a i l s z : Bool) (r : RecordNo) (u v : Walk) → tests a i l s z r u ≡ S.Next v → (a ≡ true) × (z ≡ false) × (u ≡ v)
unfolding tests
next_by false i l s z r u v h = absurd (let k : ◌≡◌ {A = ℕ} 0 1 = cc in omega arith)
next_by true false l s z r u v h = absurd (let k : ◌≡◌ {A = ℕ} 0 1 = cc in omega arith)
next_by true true false s z r u v h = absurd (let k : ◌≡◌ {A = ℕ} 0 1 = cc in omega arith)
next_by true true true true z r u v h = absurd (let k : ◌≡◌ {A = ℕ} 0 1 = cc in omega arith)
next_by true true true false true r u v h = absurd (let k : ◌≡◌ {A = ℕ} 0 1 = cc in omega arith)
next_by true true true false false r u v h = (refl, refl, cc)

-- what is left to find from where the walk stands, and the end of the chain from there
abbrev pub seek_on : List ℕ → Entry → List ℕ → Walk → Found
seek_on b e key w = seek (e.records - w.visited) b e key w.at

abbrev pub tail_on : List ℕ → Entry → Walk → ℕ
tail_on b e w = tail_from (e.records - w.visited) b e w.at

-- where a step goes on: one more record is visited, and the end of the chain is the same
pub record Onward (b : List ℕ) (e : Entry) (w v : Walk) : Type 0 where
  pub below : w.visited < e.records
  pub counted : v.visited ≡ w.visited + 1
  pub tail : tail_on b e w ≡ tail_on b e v

module _ (b : List ℕ) (e : Entry) (key : List ℕ) (w : Walk) where
  ahead : Walk
  ahead = record { at = root_next b e w.at; visited = w.visited + 1 }

  by_tests : step_of b e key w
      ≡ tests (ltb w.visited e.records) (in_set e w.at) (is_live b e w.at) (same_bytes (master_key b e w.at) key) (eqb (root_next b e w.at) 0) (record { 0 = w.at }) ahead
  unfolding step_of decide_of tests ahead
  by_tests = refl

  turn_of : (n : ℕ) → n ≡ e.records - w.visited → seek n b e key w.at ≡ resolve (seek_on b e key) (step_of b e key w)
  unfolding seek ahead tests
  turn_of zero h = rw (by_tests, le-ltb w.visited e.records (omega arith))
  turn_of (suc n) h =
      let m : n ≡ e.records - (w.visited + 1) = omega arith in
      rw (by_tests, lt-ltb w.visited e.records (omega arith), m)
      (found-by (in_set e w.at) (is_live b e w.at) (same_bytes (master_key b e w.at) key) (eqb (root_next b e w.at) 0) (record { 0 = w.at }) ahead (seek_on b e key))

  pub walk_turn : seek_on b e key w ≡ resolve (seek_on b e key) (step_of b e key w)
  walk_turn = turn_of (e.records - w.visited) refl

  tail_of : (n : ℕ) (t : Bool) → e.records - w.visited ≡ n + 1 → eqb (root_next b e w.at) 0 ≡ t
      → tail_on b e w ≡ cond t w.at (tail_from n b e (root_next b e w.at))
  unfolding tail_from
  tail_of n t h z = rw (h, add-one n, z)

  pub walk_ends : step_of b e key w ≡ S.Absent → tail_on b e w ≡ w.at
  walk_ends h =
      let t = absent_by _ _ _ _ _ _ _ (sym by_tests ∙ h) in
      let v = ltb-true w.visited e.records t.0 in
      tail_of (e.records - (w.visited + 1)) true (omega arith) t.1

  pub walk_goes : (v : Walk) → step_of b e key w ≡ S.Next v → Onward b e w v
  unfolding ahead
  walk_goes v h =
      let t = next_by _ _ _ _ _ _ _ v (sym by_tests ∙ h) in
      let l = ltb-true w.visited e.records t.0 in
      rw (← t.2) (record { below = l; counted = refl; tail = tail_of (e.records - (w.visited + 1)) false (omega arith) t.1 })

-- ---- a turn of the search without the cursor: from record r on, with some visited

module _ (b : List ℕ) (e : Entry) (key : List ℕ) (r seen : ℕ) where
  here : Walk
  here = record { at = r; visited = seen }

  by-step : {s : Step} → s ≡ step_of b e key here → resolve (seek_on b e key) s ≡ seek (e.records - seen) b e key r
  unfolding here
  by-step h = ap (resolve (seek_on b e key)) h ∙ sym (walk_turn b e key here)

  pub seek_out : e.records ≤ seen → F.Damaged ≡ seek (e.records - seen) b e key r
  unfolding here
  seek_out h = by-step (step_over b e key here h)

  module _ (more : seen < e.records) where
    pub seek-no_record : r ≡ 0 → F.Damaged ≡ seek (e.records - seen) b e key r
    unfolding here
    seek-no_record h = by-step (step-none b e key here h)

    pub seek-above : e.records < r → F.Damaged ≡ seek (e.records - seen) b e key r
    unfolding here
    seek-above h = by-step (step-above b e key here (omega arith) h)

    module _ (some : r ≡ 0 → ⊥) (most : r ≤ e.records) {l : Bool} (el : l ≡ is_live b e r) where
      inside : InSet e r
      inside = (omega arith, most)

      pub seek_free : l ≡ false → F.Damaged ≡ seek (e.records - seen) b e key r
      unfolding here
      seek_free h = by-step (step_free b e key here more inside el h)

      -- a live record; the code compares its key with the k bytes sought
      module _ (live : l ≡ true) {k : ℕ} (sized : k ≡ e.key) {s : Bool} (same : s ≡ same_bytes key (run b (place_of e r + 12) k)) where
        pub seek_here : s ≡ true → F.At (record { 0 = r }) ≡ seek (e.records - seen) b e key r
        unfolding here
        seek_here h = by-step (step_here b e key here more inside el live sized same h)

        module _ (other : s ≡ false) {next : ℕ} (en : next ≡ root_next b e r) where
          pub seek_end : next ≡ 0 → (F.Missing ≡ seek (e.records - seen) b e key r) × (r ≡ tail_from (e.records - seen) b e r)
          unfolding here
          seek_end h =
              let a = step_end b e key here more inside el live sized same other en h in
              (by-step a, sym (walk_ends b e key here (sym a)))

          pub seek_next : (next ≡ 0 → ⊥) → (seek (e.records - (seen + 1)) b e key next ≡ seek (e.records - seen) b e key r)
              × (tail_from (e.records - (seen + 1)) b e next ≡ tail_from (e.records - seen) b e r)
          unfolding here
          seek_next h =
              let a = step_on b e key here more inside el live sized same other en h in
              (by-step a, sym ((walk_goes b e key here (record { at = next; visited = seen + 1 }) (sym a)).tail))

-- ---- the search from the home

module _ (b : List ℕ) (e : Entry) (key : List ℕ) where
  pub find-not-held : held_by_own b e (home_in e key) ≡ false → F.Missing ≡ find b e key
  unfolding find
  find-not-held h = rw h

  pub find-held : held_by_own b e (home_in e key) ≡ true → seek e.records b e key (home_in e key) ≡ find b e key
  unfolding find
  find-held h = rw h

  -- behind the record where the search ends a synonym is linked
  pub synonym_last : find b e key ≡ F.Missing → held_by_own b e (home_in e key) ≡ true
      → (last_sought b e key ≡ tail_from e.records b e (home_in e key)) × InSet e (last_sought b e key)
  synonym_last f h =
      let t = seek-tail e.records b e key (home_in e key) (find-held h ∙ f) in
      (rw (h, f) refl, rw (h, f) t)
