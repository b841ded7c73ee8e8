-- A sound data base stands for its own lists, and a data base that stands for lists is sound: what every call keeps and what sign-on judges
-- are the same. Set by set: masters by KeyLaws; a path by PathLaws, whose chain of a master is the row of the master's key.
use Prim.Native.Nat.{ℕ, ◌*◌, ◌≤◌, ◌<◌}
use Rattle.std.specs.Prelude.{◌≡◌, ◌≢◌, true, false, cond, List, [], ltb, length}
use Rattle.std.proofs.Math.Path.{refl}
use Rattle.std.proofs.Common.{sym, ◌∙◌, ⊎_elim, arith, ltb-true, ltb-false}
use Rattle.std.proofs.Math.Bool.{Bool, and-eq-true_iff}
use Rattle.octets.specs.Below.{all_below}
use Rattle.octets.specs.BelowLaws.{all_below-at, all_below-all}
use Rattle.blocks.specs.Blocks.{check_by, is_sealed}
use Rattle.schema.specs.declared.Entry.{Entry}
use Rattle.schema.specs.declared.Schema.{Schema}
use Rattle.schema.specs.Decode.{entry_of, path_of, set_count, masters_on}
use Rattle.records.specs.Records.{master_key, first_on, last_on, key_on, prior_on, next_on}
use Rattle.records.specs.Areas.{is_master}
use Rattle.records.proofs.KindLaws.{is_master_lem, is_variable}
use Rattle.masters.specs.Find.{is_at, record_found}
use Rattle.points.specs.Points.{find_on}
use Rattle.chains.specs.Members.{all_map}
use Rattle.sound.specs.Sound.{checks_true, set_clean, master_set_sound, path_list, variable_path_sound, variable_set_sound, set_sound, sound}
use Rattle.sound.proofs.SoundLaws.{sound-sealed, sound-set}
use Rattle.sound.proofs.ListLaws.{linked-seg, seg-linked}
use Rattle.sound.specs.Sets.{Live, MasterSet}
use Rattle.sound.proofs.KeyLaws.{master_set_says, master_set_holds}
use Rattle.sound.proofs.RideLaws.{PointOf, IsChainOf, chain-is}
use Rattle.sound.proofs.PathLaws.{point-live, live-point, PathSet, path_set_says, path_set_holds}
use Rattle.kept_state.specs.Rows.{World, Mine, PathRows, Represents}
use Rattle.master_steps.specs.FindLaws.{find-live, find_none, found_or_not}
use Rattle.point_steps.specs.RowFacts.{path_numbered, masters_at, row_nozero}

-- the rows of a base: the list from first on, of the master that the key has
unfoldable pub rows_in : Schema → List ℕ → ℕ → ℕ → List ℕ → List ℕ
rows_in t b i j key =
    cond (is_at (find_on b t (entry_of t i) j key))
    (path_list b (entry_of t i) (path_of (entry_of t i) j) (masters_on t (entry_of t i) j) (record_found (find_on b t (entry_of t i) j key)))
    []

-- ---- one path

module _ (t : Schema) (b : List ℕ) (i j : ℕ) where
  -- the list of the master in record m, and its points
  abbrev list : ℕ → List ℕ
  list m = path_list b (entry_of t i) (path_numbered t i j) (masters_at t i j) m

  abbrev PointHere : ℕ → ℕ → Type 0
  PointHere m r = PointOf b (entry_of t i) (path_numbered t i j) (masters_at t i j) m r

  module _ (some : 1 ≤ (masters_at t i j).records) (ms : MasterSet b (masters_at t i j)) (ps : PathSet b (entry_of t i) (path_numbered t i j) (masters_at t i j)) where
    -- the row of a key that a master has, and of one that none has
    row_of : (m : ℕ) (key : List ℕ) → Live b (masters_at t i j) m → master_key b (masters_at t i j) m ≡ key → rows_in t b i j key ≡ list m
    unfolding rows_in
    row_of m key l k = rw (find-live b (masters_at t i j) some ms m key l k) refl

    row_missing : (key : List ℕ) → ((m : ℕ) → Live b (masters_at t i j) m → master_key b (masters_at t i j) m ≢ key) → rows_in t b i j key ≡ []
    unfolding rows_in
    row_missing key n = rw (find_none b (masters_at t i j) some ms key n) refl

    set_rows : PathRows t b i j (rows_in t b i j)
    set_rows =
        record {
          no_blank = ps.no_blank;
          owned = ps.master;
          chain = λ m l.
              let c = ps.chain m l in
              rw (row_of m (master_key b (masters_at t i j) m) l refl)
              (linked-seg (λ r. next_on b (entry_of t i) r (path_numbered t i j)) (λ r. prior_on b (entry_of t i) r (path_numbered t i j)) (first_on b (masters_at t i j) m (path_numbered t i j))
              (last_on b (masters_at t i j) m (path_numbered t i j)) (list m) c.linked c.last (all_map (PointHere m) (λ r. 1 ≤ r) (λ r h. h.0.0) (list m) c.points));
          mine = λ key.
              ⊎_elim (λ h. rw (row_of h.0 key h.1 h.2) (all_map (PointHere h.0) (Mine t b i j key)
              (λ r o. let q = point-live b (entry_of t i) (path_numbered t i j) (masters_at t i j) h.0 r o in (q.0, q.1 ∙ h.2)) (list h.0) (ps.chain h.0 h.1).points))
              (λ n. rw (row_missing key n) tt) (found_or_not b (masters_at t i j) some ms key);
          full = λ r l.
              let o = ps.master r l in
              rw (row_of o.0 (key_on b (entry_of t i) r (path_numbered t i j)) o.1 o.2)
              (ps.full o.0 o.1 r (live-point b (entry_of t i) (path_numbered t i j) (masters_at t i j) o.0 r l (sym o.2)));
        }

  module _ (rows : List ℕ → List ℕ) (pr : PathRows t b i j rows) where
    row-chain_of : (m : ℕ) → Live b (masters_at t i j) m → IsChainOf b (entry_of t i) (path_numbered t i j) (masters_at t i j) m (rows (master_key b (masters_at t i j) m))
    row-chain_of m l =
        let key = master_key b (masters_at t i j) m in
        let s = seg-linked (λ r. next_on b (entry_of t i) r (path_numbered t i j)) (λ r. prior_on b (entry_of t i) r (path_numbered t i j)) (first_on b (masters_at t i j) m (path_numbered t i j))
        (last_on b (masters_at t i j) m (path_numbered t i j)) (rows key) (pr.chain m l) (row_nozero t b i j rows key pr) in
        record {
          linked = s.0;
          last = s.1;
          points = all_map (Mine t b i j key) (PointHere m) (λ r h. live-point b (entry_of t i) (path_numbered t i j) (masters_at t i j) m r h.0 h.1) (rows key) (pr.mine key);
        }

    rows-set : PathSet b (entry_of t i) (path_numbered t i j) (masters_at t i j)
    rows-set =
        record {
          no_blank = pr.no_blank;
          master = pr.owned;
          chain = λ m l. let c = row-chain_of m l in rw (chain-is b (entry_of t i) (path_numbered t i j) (masters_at t i j) m _ c) c;
          full = λ m l r h.
              let q = point-live b (entry_of t i) (path_numbered t i j) (masters_at t i j) m r h in
              rw (chain-is b (entry_of t i) (path_numbered t i j) (masters_at t i j) m _ (row-chain_of m l)) (rw q.1 at (pr.full r q.0));
        }

-- ---- the tests: of a set of either kind, of a set's paths, of the data base

module _ (t : Schema) (b : List ℕ) where
  set_is : (e : Entry) (k : Bool) → is_master e ≡ k
      → (set_sound t b e ≡ true → (set_clean b e ≡ true) × (cond k (master_set_sound b e) (variable_set_sound t b e) ≡ true))
      × ((set_clean b e ≡ true) × (cond k (master_set_sound b e) (variable_set_sound t b e) ≡ true) → set_sound t b e ≡ true)
  unfolding set_sound
  set_is e k q = rw q (and-eq-true_iff (set_clean b e) (cond k (master_set_sound b e) (variable_set_sound t b e)))

  paths-are : (i : ℕ)
      → (variable_set_sound t b (entry_of t i) ≡ true → (j : ℕ) → j < (entry_of t i).count → PathSet b (entry_of t i) (path_numbered t i j) (masters_at t i j))
      × (((j : ℕ) → j < (entry_of t i).count → PathSet b (entry_of t i) (path_numbered t i j) (masters_at t i j)) → variable_set_sound t b (entry_of t i) ≡ true)
  unfolding variable_set_sound
  paths-are i =
      let f : ℕ → Bool = λ j. variable_path_sound b (entry_of t i) (path_numbered t i j) (masters_at t i j) in (
        λ h j l. path_set_says b (entry_of t i) (path_numbered t i j) (masters_at t i j) (all_below-at f (entry_of t i).count j h l),
        λ g. all_below-all f (entry_of t i).count (λ j l. path_set_holds b (entry_of t i) (path_numbered t i j) (masters_at t i j) (g j l)),
      )

  sound-holds : ((k : ℕ) → k < t.blocks → is_sealed (check_by t.edition) b k ≡ true) → ((n : ℕ) → n < set_count t → set_sound t b (entry_of t n) ≡ true) → sound t b ≡ true
  unfolding sound checks_true
  sound-holds f g =
      (and-eq-true_iff (all_below (is_sealed (check_by t.edition) b) t.blocks) (all_below (λ n. set_sound t b (entry_of t n)) (set_count t))).1
      (all_below-all (is_sealed (check_by t.edition) b) t.blocks f, all_below-all (λ n. set_sound t b (entry_of t n)) (set_count t) g)

-- ---- the data base

pub sound_represents : (t : Schema) (b : List ℕ) → World t → length b ≡ 512 * t.blocks → sound t b ≡ true → Represents t b (rows_in t b)
sound_represents t b w size h =
    let masters : (n : ℕ) → n < t.masters → MasterSet b (entry_of t n) =
    λ n l. master_set_says b (entry_of t n) ((set_is t b (entry_of t n) true (is_master_lem t w.ok n l)).0 (sound-set t b h n (omega arith))).1 in
    record {
      sized = size;
      sealed = sound-sealed t b h;
      clean = λ n l. ((set_is t b (entry_of t n) (is_master (entry_of t n)) refl).0 (sound-set t b h n l)).0;
      masters = masters;
      paths = λ i j p.
          let led = (w.ok.path i j p).master in
          set_rows t b i j (w.ok.set (path_numbered t i j).master.0 (omega arith)).some (masters (path_numbered t i j).master.0 led)
          ((paths-are t b i).0 ((set_is t b (entry_of t i) false (is_variable t w.ok i p.0 p.1)).0 (sound-set t b h i p.1)).1 j p.2);
    }

pub represents_sound : (t : Schema) (b : List ℕ) (rows : ℕ → ℕ → List ℕ → List ℕ) → World t → Represents t b rows → sound t b ≡ true
represents_sound t b rows w g = sound-holds t b g.sealed (λ n l. by n l (ltb n t.masters) refl)
  where
    by : (n : ℕ) → n < set_count t → (k : Bool) → ltb n t.masters ≡ k → set_sound t b (entry_of t n) ≡ true
    by n l true k =
        let m = ltb-true n t.masters k in
        (set_is t b (entry_of t n) true (is_master_lem t w.ok n m)).1 (g.clean n l, master_set_holds b (entry_of t n) (g.masters n m))
    by n l false k =
        let m = ltb-false n t.masters k in
        (set_is t b (entry_of t n) false (is_variable t w.ok n m l)).1 (g.clean n l, (paths-are t b n).1 (λ j c. rows-set t b n j (rows n j) (g.paths n j (m, l, c))))
