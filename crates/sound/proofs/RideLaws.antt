-- A ride along a chain is in order exactly if it goes along a two-way chain of good records that ends at 0; the number of records that it met
-- and the last of them are those of that chain. So a path's ride for a master is in order exactly if the list that `next` leads to is
-- the master's chain: linked both ways from first to last, all of it live records with the master's key.
use Prim.Native.Nat.{ℕ, zero, suc, ◌+◌, ◌≤◌}
use Rattle.std.specs.Prelude.{◌≡◌, Bool, cond, ◌&&◌}
use Rattle.std.proofs.Math.Path.{refl, sym, ap}
use Rattle.std.proofs.Common.{◌∙◌}
use Rattle.std.proofs.Math.Bool.{true, false, and-eq-true_iff}
use mathlib.Core.List.{List, [], ◌∷◌}
use native.Mathlib.Omega.{arith}
use Rattle.std.proofs.Math.Dec.{eqb}
use Rattle.std.proofs.Math.ListN.{length}
use borrow.Author.Tests.{eqb-true, eqb-false, eq-eqb, ne_eqb}
use Rattle.octets.specs.TestLaws.{never_both}
use Rattle.schema.specs.declared.Path.{Path}
use Rattle.schema.specs.declared.Entry.{Entry}
use Rattle.schema.specs.Place.{InSet, in_set}
use Rattle.records.specs.Records.{master_key, first_on, last_on, prior_on, next_on}
use Rattle.masters.proofs.FindLaws.{in_set_true}
use Rattle.points.specs.Chains.{is_point_of}
use Rattle.chains.specs.Members.{All, NoDup, all_map, pigeonhole}
use Rattle.chains.specs.Segments.{last_or}
use Rattle.sound.specs.Sound.{path_list}
use Rattle.sound.specs.Linear.{Ride, ride, path_ride, ride_ends}
use Rattle.sound.proofs.SoundLaws.{Linked}
use Rattle.sound.proofs.ListLaws.{in_set_test, linked-nodup, follow-linked}

-- ---- any ride

module _ (good : ℕ → Bool) (next prior : ℕ → ℕ) where
  abbrev Good : ℕ → Type 0
  Good r = (1 ≤ r) × (good r ≡ true)

  -- the records that a ride in order meets
  abbrev Met : ℕ → ℕ → ℕ → Type 0
  Met fuel p r = (xs : List ℕ) × Linked next prior p r xs × All Good xs × (length xs ≤ fuel)

  pub ride-ok : (fuel n p r : ℕ) → (ride fuel good next prior n p r).ok ≡ true → Met fuel p r
  unfolding ride
  ride-ok zero n p r h = ([], eqb-true r 0 h, tt, omega arith)
  ride-ok (suc fuel) n p r h = by (eqb r 0) (good r && eqb (prior r) p) refl refl h (λ k. ride-ok fuel (n + 1) r (next r) k)
    where
      by : (z g : Bool) → eqb r 0 ≡ z → (good r && eqb (prior r) p) ≡ g
          → (cond z (record { ok = true; count = n; last = p }) (cond g (ride fuel good next prior (n + 1) r (next r)) (record { ok = false; count = n; last = p }))).ok ≡ true
          → ((ride fuel good next prior (n + 1) r (next r)).ok ≡ true → Met fuel r (next r)) → Met (suc fuel) p r
      by true g z q h more = ([], eqb-true r 0 z, tt, omega arith)
      by false true z q h more =
          let a = (and-eq-true_iff (good r) (eqb (prior r) p)).0 q in
          let w = more h in
          let n : r ≡ 0 → ⊥ = eqb-false r 0 z in
          (r ∷ w.0, (refl, eqb-true (prior r) p a.1, w.1), ((omega arith, a.0), w.2), omega arith)
      by false false z q h more = absurd (never_both false h refl)

  -- and the ride along such a chain
  pub ride-linked : (fuel n p r : ℕ) (xs : List ℕ) → Linked next prior p r xs → All Good xs → length xs ≤ fuel
      → ride fuel good next prior n p r ≡ record { ok = true; count = n + length xs; last = last_or p xs }
  unfolding ride
  ride-linked zero n p r [] h g l = let e : n + 0 ≡ n = omega arith in rw (eq-eqb r 0 h, e) refl
  ride-linked zero n p r (x ∷ xs) h g l = absurd (omega arith)
  ride-linked (suc fuel) n p r [] h g l = let e : n + 0 ≡ n = omega arith in rw (eq-eqb r 0 h, e) refl
  ride-linked (suc fuel) n p r (x ∷ xs) h g l =
      let z : x ≡ 0 → ⊥ = λ q. omega arith in
      let e : n + 1 + length xs ≡ n + suc (length xs) = omega arith in
      rw (h.0, ne_eqb x 0 z, g.0.1, eq-eqb (prior x) p h.1) (rw e at (ride-linked fuel (n + 1) x (next x) xs h.2 g.1 (omega arith)))

-- ---- the ride of path p of set e for the master in record m of set x

module _ (b : List ℕ) (e : Entry) (p : Path) (x : Entry) where
  -- the record r stands on the master's chain
  abbrev pub PointOf : ℕ → ℕ → Type 0
  PointOf m r = InSet e r × (is_point_of b e p (master_key b x m) r ≡ true)

-- the list is the chain of the master in record m
pub record IsChainOf (b : List ℕ) (e : Entry) (p : Path) (x : Entry) (m : ℕ) (rs : List ℕ) : Type 0 where
  pub linked : Linked (λ r. next_on b e r p) (λ r. prior_on b e r p) 0 (first_on b x m p) rs
  pub last : last_on b x m p ≡ last_or 0 rs
  pub points : All (PointOf b e p x m) rs

module _ (b : List ℕ) (e : Entry) (p : Path) (x : Entry) (m : ℕ) where
  pub chain-nodup : (rs : List ℕ) → IsChainOf b e p x m rs → NoDup rs
  chain-nodup rs c = linked-nodup _ _ 0 (first_on b x m p) rs c.linked (all_map (PointOf b e p x m) (λ r. 1 ≤ r) (λ r h. h.0.0) rs c.points)

  chain-short : (rs : List ℕ) → IsChainOf b e p x m rs → length rs ≤ e.records
  chain-short rs c = pigeonhole e.records rs (chain-nodup rs c) (all_map (PointOf b e p x m) _ (λ r h. h.0) rs c.points)

  -- it is the list that `next` leads to
  pub chain-is : (rs : List ℕ) → IsChainOf b e p x m rs → path_list b e p x m ≡ rs
  unfolding path_list
  chain-is rs c = follow-linked _ _ e.records e 0 (first_on b x m p) rs c.linked (all_map (PointOf b e p x m) (InSet e) (λ r h. h.0) rs c.points) (chain-short rs c)

  abbrev good : ℕ → Bool
  good r = in_set e r && is_point_of b e p (master_key b x m) r

  good-point : (r : ℕ) → good r ≡ true → PointOf b e p x m r
  good-point r h = let t = (and-eq-true_iff (in_set e r) (is_point_of b e p (master_key b x m) r)).0 h in (in_set_true e r t.0, t.1)

  point-good : (r : ℕ) → PointOf b e p x m r → (1 ≤ r) × (good r ≡ true)
  point-good r h = (h.0.0, (and-eq-true_iff (in_set e r) (is_point_of b e p (master_key b x m) r)).1 (in_set_test e r h.0, h.1))

  -- the ride along it
  pub ride-is : (rs : List ℕ) → IsChainOf b e p x m rs → path_ride b e p x m ≡ record { ok = true; count = length rs; last = last_or 0 rs }
  unfolding path_ride
  ride-is rs c =
      let z : 0 + length rs ≡ length rs = omega arith in
      rw z at (ride-linked good (λ r. next_on b e r p) (λ r. prior_on b e r p) e.records 0 0 (first_on b x m p) rs c.linked (all_map (PointOf b e p x m) _ point-good rs c.points) (chain-short rs c))

  pub chain_rides : (rs : List ℕ) → IsChainOf b e p x m rs → ride_ends b e p x m ≡ true
  unfolding ride_ends
  chain_rides rs c = rw (ride-is rs c) (eq-eqb (last_or 0 rs) (last_on b x m p) (sym c.last))

  rode : (path_ride b e p x m).ok ≡ true → (path_ride b e p x m).last ≡ last_on b x m p → (rs : List ℕ) × IsChainOf b e p x m rs
  unfolding path_ride
  rode h l =
      let nx : ℕ → ℕ = λ r. next_on b e r p in
      let pv : ℕ → ℕ = λ r. prior_on b e r p in
      let w = ride-ok good nx pv e.records 0 0 (first_on b x m p) h in
      let q = ap (λ (z : Ride). z.last) (ride-linked good nx pv e.records 0 0 (first_on b x m p) w.0 w.1 w.2 w.3) in
      (w.0, record { linked = w.1; last = sym l ∙ q; points = all_map _ (PointOf b e p x m) (λ r g. good-point r g.1) w.0 w.2 })

  pub rides_chain : ride_ends b e p x m ≡ true → IsChainOf b e p x m (path_list b e p x m)
  unfolding ride_ends
  rides_chain h =
      let t = (and-eq-true_iff (path_ride b e p x m).ok (eqb (path_ride b e p x m).last (last_on b x m p))).0 h in
      let w = rode t.0 (eqb-true _ _ t.1) in
      rw (chain-is w.0 w.1) w.1
