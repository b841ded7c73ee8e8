-- The ride along a chain, as the code makes it: a turn, the ways out and the end; and the sums that the chains of a path make.
use Prim.Native.Nat.{ℕ, zero, suc, ◌+◌, ◌≤◌, ◌<◌}
use Rattle.std.specs.Prelude.{◌≡◌, Bool, cond, List, eqb, Some, None, not, ◌&&◌}
use Rattle.std.proofs.Math.Path.{refl}
use Rattle.std.proofs.Common.{sym, ap, ◌∙◌}
use Rattle.std.proofs.Math.Bool.{true, false, and-eq-true_iff}
use native.Mathlib.Omega.{arith}
use Rattle.std.proofs.Math.Numerals.{add-one}
use borrow.Author.Tests.{eq-eqb, ne_eqb, le-leb, lt-leb, not-true, not-false}
use Rattle.octets.specs.Octets.{run, same_bytes}
use Rattle.octets.specs.RunLaws.{same_bytes_comm}
use Rattle.octets.specs.Below.{all_below, sum_below, count_below}
use Rattle.octets.specs.BelowLaws.{all_below-fails, sum_below-turn, count_below_hit, count_below_miss}
use Rattle.schema.specs.declared.Path.{Path}
use Rattle.schema.specs.declared.Entry.{Entry}
use Rattle.schema.specs.Place.{place_of, InSet, in_set}
use Rattle.records.specs.Records.{is_live, master_key, first_on, last_on, key_on, prior_on, next_on}
use Rattle.sound.specs.Linear.{Ride, ride, path_ride, ride_ends, points_on, live_count, path_in_place}
use Rattle.signon.specs.declared.on_points.Ridden.{Ridden}
use Rattle.signon.specs.Judged.{ridden_of, in_order, ride_from, chain_ends, chain_count, chain_points, path_points}
use Rattle.masters.proofs.FindLaws.{in_set_true}
use Rattle.points.specs.Chains.{is_point_of}

-- ---- one record

module _ (b : List ℕ) (e : Entry) (p : Path) (key : List ℕ) (q r : ℕ) (some : 1 ≤ r) where
  pub order_above : e.records < r → false ≡ in_order b e p key q r
  order_above h = rw (le-leb 1 r some, lt-leb r e.records h) refl

  module _ (most : r ≤ e.records) {l : Bool} (el : l ≡ is_live b e r) where
    pub order_free : l ≡ false → false ≡ in_order b e p key q r
    order_free h = rw (le-leb 1 r some, le-leb r e.records most, ← el, h) refl

    module _ (live : l ≡ true) {n : ℕ} (len : n ≡ p.len) {s : Bool} (es : s ≡ same_bytes key (run b (place_of e r + p.at) n)) where
      same : s ≡ same_bytes (key_on b e r p) key
      same = es ∙ (rw len (same_bytes_comm key (key_on b e r p)))

      pub order_other : s ≡ false → s ≡ in_order b e p key q r
      order_other h = rw (le-leb 1 r some, le-leb r e.records most, ← el, live, ← same, h) refl

      pub order_last : s ≡ true → {w : ℕ} → w ≡ prior_on b e r p → eqb w q ≡ in_order b e p key q r
      order_last h d = rw (le-leb 1 r some, le-leb r e.records most, ← el, live, ← same, h, d) refl

-- ---- the ride

module _ (b : List ℕ) (e : Entry) (p : Path) (key : List ℕ) where
  pub ride-done : (fuel n q r : ℕ) → r ≡ 0 → ride_from fuel b e p key n q r ≡ record { ok = true; count = n; last = q }
  unfolding ride_from ride
  ride-done zero n q r h = rw (eq-eqb r 0 h) refl
  ride-done (suc fuel) n q r h = rw (eq-eqb r 0 h) refl

  module _ (fuel left n q r : ℕ) (more : fuel ≡ left + 1) (some : r ≡ 0 → ⊥) {o : Bool} (eo : o ≡ in_order b e p key q r) where
    pub ride-breaks : o ≡ false → ride_from fuel b e p key n q r ≡ record { ok = false; count = n; last = q }
    unfolding ride_from ride
    ride-breaks h = rw (more, add-one left, ne_eqb r 0 some, ← eo, h) refl

    pub ride-turn : o ≡ true → {w : ℕ} → w ≡ next_on b e r p → ride_from fuel b e p key n q r ≡ ride_from left b e p key (n + 1) r w
    unfolding ride_from ride
    ride-turn h d = rw (more, add-one left, ne_eqb r 0 some, ← eo, h, d) refl

  pub ride-circle : (fuel n q r : ℕ) → fuel ≡ 0 → (r ≡ 0 → ⊥) → ride_from fuel b e p key n q r ≡ record { ok = false; count = n; last = q }
  unfolding ride_from ride
  ride-circle fuel n q r h some = rw (h, ne_eqb r 0 some) refl

  -- it meets no more records than it may
  pub ride-count : (fuel n q r : ℕ) → (ride_from fuel b e p key n q r).count ≤ n + fuel
  unfolding ride_from ride
  ride-count zero n q r = omega arith
  ride-count (suc fuel) n q r = by (eqb r 0) (in_order b e p key q r) _ (ride-count fuel (n + 1) r (next_on b e r p))
    where
      by : (z o : Bool) (w : Ride) → w.count ≤ n + 1 + fuel
          → (cond z (record { ok = true; count = n; last = q }) (cond o w (record { ok = false; count = n; last = q }))).count ≤ n + suc fuel
      by true o w h = omega arith
      by false true w h = omega arith
      by false false w h = omega arith

-- ---- how many live records there are

abbrev pub live_at : List ℕ → Entry → ℕ → Bool
live_at b e k = is_live b e (k + 1)

module _ (b : List ℕ) (e : Entry) (k : ℕ) {l : Bool} {n after : ℕ} (el : l ≡ live_at b e k) (en : n ≡ count_below (live_at b e) k) where
  pub live_hit : l ≡ true → after ≡ n + 1 → after ≡ count_below (live_at b e) (k + 1)
  live_hit h d = rw (count_below_hit (live_at b e) k (sym el ∙ h), ← en) d

  pub live_miss : l ≡ false → after ≡ n → after ≡ count_below (live_at b e) (k + 1)
  live_miss h d = rw (count_below_miss (live_at b e) k (sym el ∙ h), ← en) d

pub live_end : (b : List ℕ) (e : Entry) (k : ℕ) {n : ℕ} → k ≤ e.records → e.records ≤ k → n ≡ count_below (live_at b e) k → n ≡ live_count b e
unfolding live_count
live_end b e k a z en = let q : k ≡ e.records = omega arith in rw q at en

-- ---- the chain of a master

module _ (b : List ℕ) (e : Entry) (p : Path) (x : Entry) (m : ℕ) where
  pub path_ride-is : {key : List ℕ} {first : ℕ} → key ≡ master_key b x m → first ≡ first_on b x m p → ride_from e.records b e p key 0 0 first ≡ path_ride b e p x m
  unfolding ride_from path_ride
  path_ride-is ek ef = rw (ek, ef) refl

  path_ride-count : (path_ride b e p x m).count ≤ e.records
  path_ride-count = rw (sym (path_ride-is refl refl)) (omega (arith, ride-count b e p (master_key b x m) e.records 0 0 (first_on b x m p)))

  pub chain-count : chain_count b e p x m ≤ e.records
  chain-count = by (is_live b x m)
    where
      by : (l : Bool) → cond l (path_ride b e p x m).count 0 ≤ e.records
      by true = path_ride-count
      by false = omega arith

-- an answer that is there only where a test holds
pub some_if : {A : Type 0} (t : Bool) {x y : A} → cond t (Some x) None ≡ Some y → (t ≡ true) × (x ≡ y)
some_if true h = (refl, cc)
some_if false h = cc

pub none_if : {A : Type 0} (t : Bool) (x : A) → cond t (Some x) None ≡ None → t ≡ false
none_if true x h = cc
none_if false x h = refl

module _ (b : List ℕ) (e : Entry) (p : Path) (x : Entry) (m : ℕ) {l : Bool} (el : l ≡ is_live b x m) (live : l ≡ true) where
  pub chain_broken : ridden_of (path_ride b e p x m) ≡ None → None ≡ chain_points b e p x m
  unfolding ride_ends
  chain_broken h = rw (sym el ∙ live, none_if (path_ride b e p x m).ok _ h) refl

  module _ {r : Ridden} (h : ridden_of (path_ride b e p x m) ≡ Some r) {z : ℕ} (ez : z ≡ last_on b x m p) where
    pub chain_whole : r.last ≡ z → Some r.count ≡ chain_points b e p x m
    unfolding ride_ends
    chain_whole w =
        let t = some_if (path_ride b e p x m).ok h in
        rw (sym el ∙ live, t.0, ap (λ (q : Ridden). q.last) t.1, ← ez, eq-eqb r.last z w) (ap (λ (q : Ridden). Some q.count) (sym t.1))

    pub chain_short : (r.last ≡ z → ⊥) → None ≡ chain_points b e p x m
    unfolding ride_ends
    chain_short w =
        let t = some_if (path_ride b e p x m).ok h in
        rw (sym el ∙ live, t.0, ap (λ (q : Ridden). q.last) t.1, ← ez, ne_eqb r.last z w) refl

-- ---- the chains of a path

module _ (b : List ℕ) (e : Entry) (p : Path) (x : Entry) where
  abbrev pub ends_at : ℕ → Bool
  ends_at k = chain_ends b e p x (k + 1)

  pub points_none : points_on b e p x 0 ≡ 0
  unfolding points_on sum_below
  points_none = refl

  pub points-turn : (k : ℕ) {met c : ℕ} → met ≡ points_on b e p x k → c ≡ chain_count b e p x (k + 1) → met + c ≡ points_on b e p x (k + 1)
  unfolding points_on
  points-turn k em ec = rw (em, ec) (sym (sum_below-turn (λ j. chain_count b e p x (j + 1)) k))

  pub path_breaks : (k : ℕ) → k < x.records → chain_points b e p x (k + 1) ≡ None → None ≡ path_points b e p x
  path_breaks k l h = rw (all_below-fails ends_at x.records k l (none_if (ends_at k) _ h)) refl

  pub path_ends : (k : ℕ) {met : ℕ} → k ≤ x.records → x.records ≤ k → all_below ends_at k ≡ true → met ≡ points_on b e p x k
      → Some met ≡ path_points b e p x
  path_ends k a z h em =
      let q : k ≡ x.records = omega arith in
      rw (em, q, rw q at h) refl

  pub path_none : path_points b e p x ≡ None → false ≡ path_in_place b e p x
  unfolding path_in_place
  path_none h = rw (none_if (all_below ends_at x.records) _ h) refl

  pub path_sum : {met live : ℕ} → path_points b e p x ≡ Some met → live ≡ live_count b e → eqb met live ≡ path_in_place b e p x
  unfolding path_in_place
  path_sum h el =
      let t = some_if (all_below ends_at x.records) h in
      rw (t.0, el, ← t.1) refl

-- ---- by a test and its converse, as a loop is told them

module _ (b : List ℕ) (e : Entry) (p : Path) (key : List ℕ) where
  -- a record in order is one of the set
  pub order_in : (q r : ℕ) {o : Bool} → o ≡ in_order b e p key q r → not o ≡ false → InSet e r
  order_in q r {o} eo h =
      let t = ((and-eq-true_iff (in_set e r && is_point_of b e p key r) (eqb (prior_on b e r p) q)).0 (sym eo ∙ not-false o h)).0 in
      in_set_true e r ((and-eq-true_iff (in_set e r) (is_point_of b e p key r)).0 t).0

  pub ride_out : (fuel n q r : ℕ) → fuel ≡ 0 → ride_from fuel b e p key n q r ≡ record { ok = eqb r 0; count = n; last = q }
  unfolding ride_from ride
  ride_out fuel n q r h = rw h refl

pub chain-none : (b : List ℕ) (e : Entry) (p : Path) (x : Entry) (m : ℕ) {l : Bool} → l ≡ is_live b x m → not l ≡ true
    → (true ≡ chain_ends b e p x m) × (0 ≡ chain_count b e p x m)
chain-none b e p x m {l} el h = rw (← el, not-true l h) (refl, refl)
