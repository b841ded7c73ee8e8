-- Where a record stands, or is to stand, in its path's row: the row is cut there, and the pointers that a call uses are the ends of the two
-- pieces. So adds and DELVD have a place on each path of their set, and no neighbour there is damaged, nor are the ends that a master keeps.
use Rattle.std.specs.Prelude.{ℕ, ◌≤◌, ◌<◌, ◌≡◌, ◌≢◌, ◌⊎◌, Bool, true, false, cond, not, ◌||◌, eqb}
use Rattle.std.proofs.Math.Path.{refl, sym, ap}
use Rattle.std.proofs.Common.{◌∙◌, inl, inr, arith, eqb-true, eq-eqb, ne_eqb}
use Rattle.std.proofs.Math.Logic.{⊎_map}
use Rattle.std.proofs.Math.Bool.{xor, and-false}
use mathlib.Core.List.{List, [], ◌∷◌, ◌++◌, append-nil, append_assoc}
use Rattle.octets.specs.Octets.{zeros}
use Rattle.octets.specs.Below.{all_below, upto}
use Rattle.octets.specs.BelowLaws.{all_below-all}
use Rattle.octets.specs.TestLaws.{never_both}
use Rattle.octets.specs.RunLaws.{eq_same_bytes}
use Rattle.schema.specs.declared.Schema.{Schema}
use Rattle.schema.specs.Decode.{entry_of, path_of}
use Rattle.schema.specs.Guarantee.{IsPathOf}
use Rattle.records.specs.declared.Link.{Link}
use Rattle.records.specs.Records.{is_live, master_key, last_on, key_on, prior_on, next_on}
use Rattle.records.specs.Areas.{area_key_on, new_variable}
use Rattle.masters.specs.Find.{is_at}
use Rattle.points.specs.declared.Spot.{Spot}
use Rattle.points.specs.declared.Spot.TheVariants.{Last, After, Before}
use Rattle.points.specs.Chains.{bad_neighbour, uneven_ends, read_damaged}
use Rattle.points.specs.PlaceLaws.{new_place_free}
use Rattle.points.specs.Points.{find_on, master_on, spot_on, neighbours_at, add_master, add_link, add_place, add_damaged, own_key, own_master, own_link, del_damaged}
use Rattle.chains.specs.Members.{In, Fresh, all_in, all_map, all_append, all_left, all_right, split_in, nodup-without}
use Rattle.chains.specs.Segments.{NoZero, last_or, head_or, last_snoc, all_last, at_ends, at_node}
use Rattle.sound.proofs.ListLaws.{in_set_test}
use Rattle.sound.specs.Sets.{Live, MasterSet}
use Rattle.kept_state.specs.Rows.{World, Represents, next_node, prior_node, Mine, PathRows, put_after, put_before, inserted, without}
use Rattle.kept_state.specs.Tests.{SpotOk, AddTests, DelTests}
use Rattle.master_steps.specs.FindLaws.{find-live, found-live}
use Rattle.point_steps.specs.RowFacts.{path_numbered, masters_at, next_node_at, prior_node_at, row_nozero, row-chain, row-nodup}
use Rattle.point_steps.specs.RowChange.{Linkage, side_of, RowPlace, side-beside}

-- ---- a list of numbers, cut at a number that stands in it once

after-cut : (q r : ℕ) (us vs : List ℕ) → Fresh q us → put_after q r (us ++ (q ∷ vs)) ≡ us ++ (q ∷ r ∷ vs)
unfolding put_after
after-cut q r [] vs f = rw (eq-eqb q q refl) refl
after-cut q r (u ∷ us) vs f = rw (ne_eqb u q (λ e. f.0 (sym e))) (ap (λ zs. u ∷ zs) (after-cut q r us vs f.1))

before-cut : (q r : ℕ) (us vs : List ℕ) → Fresh q us → put_before q r (us ++ (q ∷ vs)) ≡ us ++ (r ∷ q ∷ vs)
unfolding put_before
before-cut q r [] vs f = rw (eq-eqb q q refl) refl
before-cut q r (u ∷ us) vs f = rw (ne_eqb u q (λ e. f.0 (sym e))) (ap (λ zs. u ∷ zs) (before-cut q r us vs f.1))

pub without-fresh : (r : ℕ) (xs : List ℕ) → Fresh r xs → without r xs ≡ xs
unfolding without
without-fresh r [] f = refl
without-fresh r (x ∷ xs) f = rw (ne_eqb x r (λ e. f.0 (sym e))) (ap (λ zs. x ∷ zs) (without-fresh r xs f.1))

without-cut : (r : ℕ) (us vs : List ℕ) → Fresh r us → Fresh r vs → without r (us ++ (r ∷ vs)) ≡ us ++ vs
unfolding without
without-cut r [] vs f g = rw (eq-eqb r r refl) (without-fresh r vs g)
without-cut r (u ∷ us) vs f g = rw (ne_eqb u r (λ e. f.0 (sym e))) (ap (λ zs. u ∷ zs) (without-cut r us vs f.1 g))

-- ---- a row, cut at a record of it, or where a spot puts the record r

pub point-cut : (t : Schema) (b : List ℕ) (i j : ℕ) (rows : List ℕ → List ℕ) (m : ℕ) (key : List ℕ) (r : ℕ) → PathRows t b i j rows
    → Live b (masters_at t i j) m → master_key b (masters_at t i j) m ≡ key → Mine t b i j key r
    → (us : List ℕ) × (vs : List ℕ) × (rows key ≡ us ++ (r ∷ vs)) × (prior_on b (entry_of t i) r (path_numbered t i j) ≡ last_or 0 us) × (next_on b (entry_of t i) r (path_numbered t i j) ≡ head_or 0 vs)
    × Fresh r us × Fresh r vs
point-cut t b i j rows m key r p l k h =
    let c = split_in r (rows key) (rw h.1 at (p.full r h.0)) in
    let n = at_node (next_node t b i j m) (prior_node t b i j m) 0 c.0 r c.1 0 (rw c.2 at (row-chain t b i j rows key p m l k)) in
    let f = (nodup-without c.0 r c.1 (rw c.2 at (row-nodup t b i j rows key p))).1 in
    let z = h.0.0.0 in
    (c.0, c.1, c.2, sym (prior_node_at t b i j m r z) ∙ n.1, sym (next_node_at t b i j m r z) ∙ n.0, all_left (λ y. r ≢ y) c.0 c.1 f, all_right (λ y. r ≢ y) c.0 c.1 f)

module _ (t : Schema) (b : List ℕ) (i j : ℕ) (rows : List ℕ → List ℕ) (m : ℕ) (area : List ℕ) (r : ℕ) where
  abbrev keyed : List ℕ
  keyed = area_key_on (entry_of t i) area j

  abbrev gap : Spot → Link
  gap spot = neighbours_at b (entry_of t i) (path_numbered t i j) (last_on b (masters_at t i j) m (path_numbered t i j)) spot

  spot_cut : (spot : Spot) → PathRows t b i j rows → Live b (masters_at t i j) m → master_key b (masters_at t i j) m ≡ keyed → SpotOk t b i j area spot
      → (us : List ℕ) × (vs : List ℕ) × (rows keyed ≡ us ++ vs) × (inserted spot r (rows keyed) ≡ us ++ (r ∷ vs)) × ((gap spot).prior ≡ last_or 0 us) × ((gap spot).next ≡ head_or 0 vs)
  unfolding neighbours_at
  spot_cut Last p l k h =
      (rows keyed, [], sym (append-nil (rows keyed)), refl, (at_ends (next_node t b i j m) (prior_node t b i j m) 0 (rows keyed) 0 (row-chain t b i j rows keyed p m l k)).1, refl)
  spot_cut (After q) p l k h =
      let c = point-cut t b i j rows m keyed q.0 p l k h in (
        c.0 ++ (q.0 ∷ []),
        c.1,
        c.2 ∙ sym (append_assoc c.0 (q.0 ∷ []) c.1),
        ap (inserted (After q) r) c.2 ∙ after-cut q.0 r c.0 c.1 c.5 ∙ sym (append_assoc c.0 (q.0 ∷ []) (r ∷ c.1)),
        sym (last_snoc 0 c.0 q.0),
        c.4,
      )
  spot_cut (Before q) p l k h =
      let c = point-cut t b i j rows m keyed q.0 p l k h in
      (c.0, q.0 ∷ c.1, c.2, ap (inserted (Before q) r) c.2 ∙ before-cut q.0 r c.0 c.1 c.5, c.3, refl)

-- ---- nothing is damaged

-- first and last of a list of records are both 0 or both not
even : (xs : List ℕ) (first last : ℕ) → NoZero xs → first ≡ head_or 0 xs → last ≡ last_or 0 xs → xor (eqb first 0) (eqb last 0) ≡ false
unfolding xor
even [] first last z p q = rw (p, q) refl
even (x ∷ xs) first last z p q =
    let l : 1 ≤ last_or x xs = all_last (λ y. 1 ≤ y) x xs z.0 z.1 in
    rw (ne_eqb first 0 (λ e. omega arith), ne_eqb last 0 (λ e. omega arith)) refl

even-ends : (t : Schema) (b : List ℕ) (i j : ℕ) (rows : List ℕ → List ℕ) (m : ℕ) → PathRows t b i j rows → Live b (masters_at t i j) m
    → uneven_ends b (masters_at t i j) m (path_numbered t i j) ≡ false
even-ends t b i j rows m p l =
    let key = master_key b (masters_at t i j) m in
    let n = at_ends (next_node t b i j m) (prior_node t b i j m) 0 (rows key) 0 (p.chain m l) in
    even (rows key) _ _ (row_nozero t b i j rows key p) n.0 n.1

good_neighbour : (t : Schema) (b : List ℕ) (i j : ℕ) (key : List ℕ) (n : ℕ) → (n ≡ 0) ⊎ Mine t b i j key n → bad_neighbour b (entry_of t i) (path_numbered t i j) key n ≡ false
good_neighbour t b i j key n (inl e) = rw e refl
good_neighbour t b i j key n (inr w) = rw (ne_eqb n 0 (λ e. omega arith), in_set_test (entry_of t i) n w.0.0, w.0.1, eq_same_bytes _ _ w.1) refl

pub read-quiet : (t : Schema) (b : List ℕ) (i j : ℕ) (rows : List ℕ → List ℕ) (m : ℕ) (key : List ℕ) (linked : Bool) (n : ℕ) → PathRows t b i j rows
    → Live b (masters_at t i j) m → master_key b (masters_at t i j) m ≡ key → (n ≡ 0) ⊎ In n (rows key)
    → read_damaged b (entry_of t i) (path_numbered t i j) (masters_at t i j) m key linked n ≡ false
unfolding read_damaged
read-quiet t b i j rows m key linked n p l k h =
    let mine = ⊎_map (λ e. e) (all_in (Mine t b i j key) n (rows key) (p.mine key)) h in
    rw (even-ends t b i j rows m p l, good_neighbour t b i j key n mine, and-false linked) refl

-- of a call: on each path the ends that the master keeps, and the neighbours
linkage_quiet : (t : Schema) (b : List ℕ) (rows : ℕ → ℕ → List ℕ → List ℕ) (x : Linkage) → ((k : ℕ) → k < (entry_of t x.set).count → PathRows t b x.set k (rows x.set k))
    → ((k : ℕ) → k < (entry_of t x.set).count → RowPlace t b rows x k)
    → not (all_below (λ k. not (uneven_ends b (masters_at t x.set k) (x.master k) (path_numbered t x.set k)
    || bad_neighbour b (entry_of t x.set) (path_numbered t x.set k) (x.key k) (x.link k).prior
    || bad_neighbour b (entry_of t x.set) (path_numbered t x.set k) (x.key k) (x.link k).next)) (entry_of t x.set).count) ≡ false
linkage_quiet t b rows x p h =
    ap not (all_below-all _ (entry_of t x.set).count (λ k l. rw (even-ends t b x.set k (rows x.set k) (x.master k) (p k l) (h k l).master.0, good k l true, good k l false) refl))
  where
    good : (k : ℕ) → k < (entry_of t x.set).count → (way : Bool) → bad_neighbour b (entry_of t x.set) (path_numbered t x.set k) (x.key k) (side_of way (x.link k)) ≡ false
    good k l way = good_neighbour t b x.set k (x.key k) (side_of way (x.link k)) (⊎_map (λ e. e) (λ w. w.0) (side-beside t b rows x k (p k l) (h k l) way))

-- ---- the adds and DELVD

abbrev pub add_linkage : Schema → List ℕ → (ℕ → ℕ → List ℕ → List ℕ) → ℕ → ℕ → List ℕ → Spot → Linkage
add_linkage t b rows i named area spot =
    record {
      set = i;
      at = add_place b t (entry_of t i) area spot named;
      bytes = new_variable (entry_of t i) (upto (add_link b t (entry_of t i) area spot named) (entry_of t i).count) area;
      adds = true;
      master = add_master b t (entry_of t i) area spot named;
      key = area_key_on (entry_of t i) area;
      link = add_link b t (entry_of t i) area spot named;
      row = λ k. inserted (spot_on spot named k) (add_place b t (entry_of t i) area spot named) (rows i k (area_key_on (entry_of t i) area k));
    }

abbrev pub del_linkage : Schema → List ℕ → (ℕ → ℕ → List ℕ → List ℕ) → ℕ → ℕ → Linkage
del_linkage t b rows i r =
    record {
      set = i;
      at = r;
      bytes = zeros (entry_of t i).size;
      adds = false;
      master = own_master b t (entry_of t i) r;
      key = own_key b t (entry_of t i) r;
      link = own_link b t (entry_of t i) r;
      row = λ k. without r (rows i k (own_key b t (entry_of t i) r k));
    }

module _ (t : Schema) (w : World t) (b : List ℕ) (rows : ℕ → ℕ → List ℕ → List ℕ) (g : Represents t b rows) (i : ℕ) where
  -- the masters of a path are a sound set with room, and the one that it finds has the key
  path_masters : (k : ℕ) → IsPathOf t i k → (1 ≤ (masters_at t i k).records) × MasterSet b (masters_at t i k)
  path_masters k h = let l = (w.ok.path i k h).master in ((w.ok.set (path_numbered t i k).master.0 (omega arith)).some, g.masters (path_numbered t i k).master.0 l)

  found-on : (k : ℕ) (key : List ℕ) → IsPathOf t i k → is_at (find_on b t (entry_of t i) k key) ≡ true
      → Live b (masters_at t i k) (master_on b t (entry_of t i) k key) × (master_key b (masters_at t i k) (master_on b t (entry_of t i) k key) ≡ key)
  found-on k key h f = let s = path_masters k h in found-live b (masters_at t i k) s.0 s.1 key f

  pub add-place : (named : ℕ) (area : List ℕ) (spot : Spot) → AddTests t b i named area spot → (k : ℕ) → k < (entry_of t i).count
      → RowPlace t b rows (add_linkage t b rows i named area spot) k
  add-place named area spot a k l =
      let h : IsPathOf t i k = (a.path.0, a.path.1, l) in
      let r = add_place b t (entry_of t i) area spot named in
      let key = area_key_on (entry_of t i) area k in
      let m = found-on k key h (a.found k l) in
      let free = new_place_free b (entry_of t i) _ a.room in
      let c = spot_cut t b i k (rows i k) (add_master b t (entry_of t i) area spot named k) area r (spot_on spot named k) (g.paths i k h) m.0 m.1 (by (eqb k named) refl) in
      record {
        master = m;
        no_blank = a.no_blank k l;
        split = c;
        fresh = rw c.2 at (all_map (Mine t b i k key) (λ y. r ≢ y) (λ y n q. never_both (is_live b (entry_of t i) r) (rw q n.0.1) free) (rows i k key) ((g.paths i k h).mine key));
        own_key = λ n. absurd (never_both (is_live b (entry_of t i) r) n free);
      }
    where
      by : (s : Bool) → eqb k named ≡ s → SpotOk t b i k area (cond s spot Last)
      by true q = rw (eqb-true k named q) a.spot_ok
      by false q = tt

  pub add-quiet : (named : ℕ) (area : List ℕ) (spot : Spot) → AddTests t b i named area spot → add_damaged b t (entry_of t i) area spot named ≡ false
  unfolding add_damaged
  add-quiet named area spot a = linkage_quiet t b rows (add_linkage t b rows i named area spot) (λ k l. g.paths i k (a.path.0, a.path.1, l)) (add-place named area spot a)

  pub own-found : (r : ℕ) → DelTests t b i r → (k : ℕ) → k < (entry_of t i).count → is_at (find_on b t (entry_of t i) k (key_on b (entry_of t i) r (path_of (entry_of t i) k))) ≡ true
  own-found r d k l =
      let h : IsPathOf t i k = (d.set.0, d.set.1, l) in
      let s = path_masters k h in
      let o = (g.paths i k h).owned r d.live in
      rw (find-live b (masters_at t i k) s.0 s.1 o.0 (key_on b (entry_of t i) r (path_numbered t i k)) o.1 o.2) refl

  pub del_place : (r : ℕ) → DelTests t b i r → (k : ℕ) → k < (entry_of t i).count → RowPlace t b rows (del_linkage t b rows i r) k
  del_place r d k l =
      let h : IsPathOf t i k = (d.set.0, d.set.1, l) in
      let m = found-on k (own_key b t (entry_of t i) r k) h (own-found r d k l) in
      let c = point-cut t b i k (rows i k) (own_master b t (entry_of t i) r k) (own_key b t (entry_of t i) r k) r (g.paths i k h) m.0 m.1 (d.live, refl) in
      record {
        master = m;
        no_blank = (g.paths i k h).no_blank r d.live;
        split = (c.0, c.1, c.2, ap (without r) c.2 ∙ without-cut r c.0 c.1 c.5 c.6, c.3, c.4);
        fresh = all_append (λ y. r ≢ y) c.0 c.1 c.5 c.6;
        own_key = λ n. refl;
      }

  pub del_quiet : (r : ℕ) → DelTests t b i r → del_damaged b t (entry_of t i) r ≡ false
  unfolding del_damaged
  del_quiet r d = linkage_quiet t b rows (del_linkage t b rows i r) (λ k l. g.paths i k (d.set.0, d.set.1, l)) (del_place r d)
