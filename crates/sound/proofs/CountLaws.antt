-- A path that is in place is a sound path. The chains of different masters have different keys, so no record is on two of them; together
-- they have as many records as the set has live ones, so every live record is on one of them, the chain of its key.
use Rattle.std.specs.Prelude.{ℕ, ◌+◌, ◌-◌, ◌<◌, ◌≡◌, Bool, not, ◌||◌, List, [], eqb}
use Rattle.std.proofs.Math.Path.{refl, sym, ap}
use Rattle.std.proofs.Common.{◌∙◌}
use Rattle.std.proofs.Math.Bool.{true, false, cond, and-eq-true_iff}
use native.Mathlib.Omega.{arith}
use Rattle.std.proofs.Math.ListN.{length}
use borrow.Author.Tests.{eqb-true, eq-eqb}
use Rattle.octets.specs.Below.{concat_below}
use Rattle.octets.specs.BelowLaws.{sum_below-same}
use Rattle.octets.specs.RunLaws.{tests_eq}
use Rattle.schema.specs.declared.Path.{Path}
use Rattle.schema.specs.declared.Entry.{Entry}
use Rattle.records.specs.Records.{is_live, master_key, key_on}
use Rattle.chains.specs.Members.{In, NoDup, all_in, length-within, counting, in_gathered, gathered_in, length_gathered, nodup_gathered}
use Rattle.sound.specs.Sound.{each_record, records_with, path_list, variable_path_sound}
use Rattle.sound.specs.Linear.{Ride, path_ride, ride_ends, points_on, live_count, path_in_place}
use Rattle.sound.proofs.SoundLaws.{each_record-at}
use Rattle.sound.proofs.ListLaws.{where_holds, holds_where, each_record-all, records_with_in, in_records_with, nodup-records_with, length-records_with}
use Rattle.sound.specs.Sets.{Live, MasterSet}
use Rattle.sound.proofs.RideLaws.{PointOf, IsChainOf, chain-nodup, ride-is, chain_rides, rides_chain}
use Rattle.sound.proofs.PathLaws.{PathSet, path_set_says, path_set_holds, point-live, live-point}

-- ---- all chains of a path

-- the chains of the live masters
abbrev row : List ℕ → Entry → Path → Entry → ℕ → List ℕ
row b e p x k = cond (is_live b x (k + 1)) (path_list b e p x (k + 1)) []

abbrev on_chains : List ℕ → Entry → Path → Entry → List ℕ
on_chains b e p x = concat_below (row b e p x) x.records

abbrev lives : List ℕ → Entry → List ℕ
lives b e = records_with e (is_live b e)

abbrev Chains : List ℕ → Entry → Path → Entry → Type 0
Chains b e p x = (m : ℕ) → Live b x m → IsChainOf b e p x m (path_list b e p x m)

-- a record on the chains is on the chain of a master that has its key
abbrev OnSomeChain : List ℕ → Entry → Path → Entry → ℕ → Type 0
OnSomeChain b e p x r = (m : ℕ) × Live b x m × In r (path_list b e p x m) × PointOf b e p x m r

module _ (b : List ℕ) (e : Entry) (p : Path) (x : Entry) (c : Chains b e p x) where
  row-live : (k r : ℕ) → k < x.records → In r (row b e p x k) → Live b x (k + 1) × In r (path_list b e p x (k + 1))
  row-live k r l m = by (is_live b x (k + 1)) refl m
    where
      by : (t : Bool) → is_live b x (k + 1) ≡ t → In r (cond t (path_list b e p x (k + 1)) []) → Live b x (k + 1) × In r (path_list b e p x (k + 1))
      by true q m = (((omega arith, omega arith), q), m)
      by false q m = absurd m

  chained : (r : ℕ) → In r (on_chains b e p x) → OnSomeChain b e p x r
  chained r i =
      let t = gathered_in (row b e p x) x.records r i in
      let l = row-live t.0 r t.1 t.2 in
      (t.0 + 1, l.0, l.1, all_in (PointOf b e p x (t.0 + 1)) r (path_list b e p x (t.0 + 1)) (c (t.0 + 1) l.0).points l.1)

  chains_live : (r : ℕ) → In r (on_chains b e p x) → In r (lives b e)
  chains_live r i = let t = chained r i in let l = (point-live b e p x t.0 r t.3).0 in in_records_with e (is_live b e) r l.0 l.1

  chains_nodup : MasterSet b x → NoDup (on_chains b e p x)
  chains_nodup ms =
      nodup_gathered (row b e p x) x.records (λ k l. each k l (is_live b x (k + 1)) refl)
      (λ j k r l m s t.
      let u = row-live j r (omega arith) s in
      let v = row-live k r m t in
      let same : j + 1 ≡ k + 1 = ms.one (j + 1) (k + 1) u.0 v.0 (sym (keyed (j + 1) r u.0 u.1) ∙ keyed (k + 1) r v.0 v.1) in
      omega arith)
    where
      each : (k : ℕ) → k < x.records → (t : Bool) → is_live b x (k + 1) ≡ t → NoDup (cond t (path_list b e p x (k + 1)) [])
      each k l true q = chain-nodup b e p x (k + 1) (path_list b e p x (k + 1)) (c (k + 1) ((omega arith, omega arith), q))
      each k l false q = tt

      keyed : (m r : ℕ) → Live b x m → In r (path_list b e p x m) → key_on b e r p ≡ master_key b x m
      keyed m r l i = (point-live b e p x m r (all_in (PointOf b e p x m) r (path_list b e p x m) (c m l).points i)).1

  -- the number of points that the rides met
  chains_length : points_on b e p x x.records ≡ length (on_chains b e p x)
  unfolding points_on
  chains_length =
      sum_below-same (λ k. cond (is_live b x (k + 1)) (path_ride b e p x (k + 1)).count 0) (λ k. length (row b e p x k)) x.records
      (λ k l. each k l (is_live b x (k + 1)) refl) ∙ sym (length_gathered (row b e p x) x.records)
    where
      each : (k : ℕ) → k < x.records → (t : Bool) → is_live b x (k + 1) ≡ t
          → cond t (path_ride b e p x (k + 1)).count 0 ≡ length (cond t (path_list b e p x (k + 1)) [])
      each k l true q = ap (λ (z : Ride). z.count) (ride-is b e p x (k + 1) (path_list b e p x (k + 1)) (c (k + 1) ((omega arith, omega arith), q)))
      each k l false q = refl

-- and a record on a live master's chain is on the chains
row_in : (b : List ℕ) (e : Entry) (p : Path) (x : Entry) (m r : ℕ) → Live b x m → In r (path_list b e p x m) → In r (on_chains b e p x)
row_in b e p x m r l i =
    let q : m - 1 + 1 ≡ m = omega arith in
    let t : is_live b x (m - 1 + 1) ≡ true = rw q l.1 in
    in_gathered (row b e p x) x.records (m - 1) r (omega arith) (rw (t, q) i)

-- ---- in place and sound

module _ (b : List ℕ) (e : Entry) (p : Path) (x : Entry) (ms : MasterSet b x) where
  abbrev rides? : ℕ → Bool
  rides? m = not (is_live b x m) || ride_ends b e p x m

  abbrev many? : Bool
  many? = eqb (points_on b e p x x.records) (live_count b e)

  -- with all live records on the chains, the path is sound
  full-sound : Chains b e p x → ((r : ℕ) → Live b e r → In r (on_chains b e p x)) → PathSet b e p x
  full-sound c f =
      let on : (r : ℕ) → Live b e r → OnSomeChain b e p x r = λ r l. chained b e p x c r (f r l) in
      record {
        no_blank = λ r l. let t = on r l in rw (point-live b e p x t.0 r t.3).1 (ms.no_blank t.0 t.1);
        master = λ r l. let t = on r l in (t.0, t.1, sym (point-live b e p x t.0 r t.3).1);
        chain = c;
        full = λ m l r h. own m r l (point-live b e p x m r h).1 (on r (point-live b e p x m r h).0);
      }
    where
      own : (m r : ℕ) → Live b x m → key_on b e r p ≡ master_key b x m → OnSomeChain b e p x r → In r (path_list b e p x m)
      own m r l k t =
          let s : t.0 ≡ m = ms.one t.0 m t.1 l (sym (point-live b e p x t.0 r t.3).1 ∙ k) in
          rw s at t.2

  in_place-path : path_in_place b e p x ≡ true → PathSet b e p x
  unfolding path_in_place live_count
  in_place-path h =
      let a = (and-eq-true_iff (each_record x rides?) many?).0 h in
      let c : Chains b e p x = λ m l. rides_chain b e p x m (where_holds (is_live b x m) _ (each_record-at x rides? m a.0 l.0) l.1) in
      let n : length (on_chains b e p x) ≡ length (lives b e) = sym (chains_length b e p x c) ∙ eqb-true _ _ a.1 ∙ sym (length-records_with e (is_live b e)) in
      full-sound c (λ r l.
      counting (on_chains b e p x) (lives b e) (chains_nodup b e p x c ms) (chains_live b e p x c) (omega arith) r (in_records_with e (is_live b e) r l.0 l.1))

  path_in_place_lem : PathSet b e p x → path_in_place b e p x ≡ true
  unfolding path_in_place live_count
  path_in_place_lem s =
      let c = s.chain in
      let up = length-within (on_chains b e p x) (lives b e) (chains_nodup b e p x c ms) (chains_live b e p x c) in
      let down = length-within (lives b e) (on_chains b e p x) (nodup-records_with e (is_live b e)) (λ r i. on r (records_with_in e (is_live b e) r i)) in
      (and-eq-true_iff (each_record x rides?) many?).1 (
        each_record-all x rides? (λ m i. holds_where (is_live b x m) _ (λ l. chain_rides b e p x m (path_list b e p x m) (c m (i, l)))),
        eq-eqb (points_on b e p x x.records) (live_count b e) (omega (arith, chains_length b e p x c, length-records_with e (is_live b e))),
      )
    where
      on : (r : ℕ) → Live b e r → In r (on_chains b e p x)
      on r l = let t = s.master r l in row_in b e p x t.0 r t.1 (s.full t.0 t.1 r (live-point b e p x t.0 r l (sym t.2)))

  -- sign-on's test of a path, whose masters are sound, is document 01's
  pub path_in_place-sound : path_in_place b e p x ≡ variable_path_sound b e p x
  path_in_place-sound = tests_eq _ _ (λ h. path_set_holds b e p x (in_place-path h)) (λ h. path_in_place_lem (path_set_says b e p x h))
