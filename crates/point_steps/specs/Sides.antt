-- A linkage by deeds: on each path of the set the nodes on both sides of the place are pointed to the new record, or to each other, and the record
-- is put whole, a new one before that, a wiped one after it. All of it is on points, so everything else is as it was; the record is what was put,
-- the two nodes of each path point where they should, and every other node is missed. So the state follows, with a new row on each path.
use Rattle.std.specs.Prelude.{ℕ, ◌*◌, ◌≤◌, ◌<◌, ◌≡◌, refl, ◌≢◌, ◌⊎◌, Bool, true, false, cond, not, List, [], ◌∷◌, ◌++◌, eqb, length}
use Rattle.std.proofs.Common.{sym, ap, ◌∙◌, ⊎_elim, append_assoc, arith}
use Rattle.octets.specs.Octets.{byte_at, run, word_at, zeros, all_zero}
use Rattle.octets.specs.Below.{concat_below}
use Rattle.octets.specs.BelowLaws.{concat_below-same}
use Rattle.octets.specs.TestLaws.{never_both}
use Rattle.schema.specs.declared.Schema.{Schema}
use Rattle.schema.specs.Decode.{entry_of, set_count}
use Rattle.schema.specs.Place.{InSet, record_of}
use Rattle.schema.specs.Guarantee.{SchemaOk, IsPathOf}
use Rattle.records.specs.Records.{is_live, key_on}
use Rattle.records.specs.Address.{Field, key, Address, offset_of, size_of, HasField, get_run, get_word, address}
use Rattle.records.specs.WholeRecords.{Elsewhere}
use Rattle.blocks.specs.Blocks.{check_by}
use Rattle.plans.specs.Plan.{blocks_sealed}
use Rattle.points.specs.Chains.{prior_side, next_side}
use Rattle.points.specs.SideLaws.{prior_side-is, next_side-is}
use Rattle.chains.specs.Segments.{Seg}
use Rattle.sound.specs.Sets.{Live}
use Rattle.kept_state.specs.Deeds.{Deed, point, whole, stores_for, after, Valid, AllValid, Miss, Misses, AllOff, Zeroed}
use Rattle.kept_state.specs.DeedLaws.{each_append, each_below, misses_append, misses-below, misses-but, off-below, stores_for-below, word_pointed, record_whole}
use Rattle.kept_state.specs.HeldLaws.{live-is, run_is, word_is}
use Rattle.kept_state.specs.SettleLaws.{deeds-storable}
use Rattle.kept_state.specs.Rows.{World, Represents, Mine, next_node, prior_node}
use Rattle.point_steps.specs.RowFacts.{path_numbered, masters_at, rows_same}
use Rattle.point_steps.specs.Nodes.{pointer, node, node-is, pointer_word, pointer-at, pointer-elsewhere, pointers_apart}
use Rattle.point_steps.specs.PointSteps.{PointStep, point-step-keeps, OnPoint, node-missed, AllOnPoint, on-valid, run_kept, live-kept, deeds-step}
use Rattle.point_steps.specs.RowChange.{Linkage, only, side_of, RowPlace, side-beside, row_at, row_changed}

-- ---- the deeds

-- what the node on the side of path k is to point to: the new record, or the node on the other side
abbrev target : Linkage → ℕ → Bool → ℕ
target x k way = cond x.adds x.at (side_of (not way) (x.link k))

abbrev side : Schema → Linkage → ℕ → Bool → Deed
side t x k way = point (pointer t way x.set k (x.master k) (side_of way (x.link k))) (target x k way)

abbrev sides_on : Schema → Linkage → ℕ → List Deed
sides_on t x k = side t x k true ∷ side t x k false ∷ []

abbrev pub sides : Schema → Linkage → List Deed
sides t x = concat_below (sides_on t x) (entry_of t x.set).count

-- the deeds, if they are done, and none of them
abbrev when : Bool → List Deed → List Deed
when true ds = ds
when false ds = []

abbrev pub link_deeds : Schema → Linkage → List Deed
link_deeds t x = when (not x.adds) (sides t x) ++ (whole x.set x.at x.bytes ∷ when x.adds (sides t x))

-- the stores of the pointers
pub sides-stores : (t : Schema) (x : Linkage)
    → concat_below (λ k. prior_side (entry_of t x.set) (path_numbered t x.set k) (masters_at t x.set k) (x.master k) (x.link k).prior (target x k true)
    ∷ next_side (entry_of t x.set) (path_numbered t x.set k) (masters_at t x.set k) (x.master k) (x.link k).next (target x k false) ∷ []) (entry_of t x.set).count
    ≡ stores_for t (sides t x)
sides-stores t x =
    concat_below-same _ (λ k. stores_for t (sides_on t x k)) (entry_of t x.set).count
    (λ k l. rw (prior_side-is t x.set k (x.master k) (x.link k).prior (target x k true), next_side-is t x.set k (x.master k) (x.link k).next (target x k false)) refl)
    ∙ sym (stores_for-below t (sides_on t x) (entry_of t x.set).count)

-- what is known of a linkage: its place on each path, and what is put
pub record Linking (t : Schema) (b : List ℕ) (rows : ℕ → ℕ → List ℕ → List ℕ) (x : Linkage) : Type 0 where
  pub world : World t
  pub state : Represents t b rows
  pub set : (t.masters ≤ x.set) × (x.set < set_count t)
  pub number : InSet (entry_of t x.set) x.at
  pub place : (k : ℕ) → k < (entry_of t x.set).count → RowPlace t b rows x k
  pub long : length x.bytes ≡ (entry_of t x.set).size
  pub zeroed : run x.bytes 1 3 ≡ zeros 3
  pub live : eqb (byte_at x.bytes 0) 1 ≡ x.adds
  pub wiped : x.adds ≡ false → all_zero x.bytes ≡ true

-- ---- lists of deeds

when-has : (Q : List Deed → Type 0) → Q [] → (s : Bool) (ds : List Deed) → Q ds → Q (when s ds)
when-has Q none true ds h = h
when-has Q none false ds h = none

module _ (t : Schema) (b : List ℕ) (i r : ℕ) where
  on_append : (us vs : List Deed) → AllOnPoint t b i r us → AllOnPoint t b i r vs → AllOnPoint t b i r (us ++ vs)
  on_append = each_append (λ d. Valid t d × Zeroed d × OnPoint t b i r d) (AllOnPoint t b i r) tt (λ d ds p q. (p, q)) (λ d ds h. h)

  on_below : (f : ℕ → List Deed) (n : ℕ) → ((k : ℕ) → k < n → AllOnPoint t b i r (f k)) → AllOnPoint t b i r (concat_below f n)
  on_below = each_below (λ d. Valid t d × Zeroed d × OnPoint t b i r d) (AllOnPoint t b i r) tt (λ d ds p q. (p, q)) (λ d ds h. h)

-- the deed of path j that goes one way, where all others miss its address
side_cut : (a : Address) (f : ℕ → Bool → Deed) (n j : ℕ) → j < n → (way : Bool) → ((k : ℕ) (turn : Bool) → ((k ≡ j) × (turn ≡ way) → ⊥) → Miss a (f k turn))
    → (us : List Deed) × (vs : List Deed) × (concat_below (λ k. f k true ∷ f k false ∷ []) n ≡ us ++ (f j way ∷ vs)) × Misses a vs
side_cut a f n j l true h =
    let c = misses-but a (λ k. f k true ∷ f k false ∷ []) n j l (λ k m d. (h k true (λ e. d e.0), (h k false (λ e. d e.0), tt))) in
    (c.0, f j false ∷ c.1, c.2, (h j false (λ q. never_both false q.1 refl), c.4))
side_cut a f n j l false h =
    let c = misses-but a (λ k. f k true ∷ f k false ∷ []) n j l (λ k m d. (h k true (λ e. d e.0), (h k false (λ e. d e.0), tt))) in
    (c.0 ++ (f j true ∷ []), c.1, c.2 ∙ sym (append_assoc c.0 (f j true ∷ []) (f j false ∷ c.1)), c.4)

-- the word that one of them sets and no later one does, with one more deed before all of them or after
last_set : {t : Schema} (ok : SchemaOk t) (b : List ℕ) → length b ≡ 512 * t.blocks → (s : Bool) (d : Deed) (ds us vs : List Deed) (a : Address) (v : ℕ)
    → ds ≡ us ++ (point a v ∷ vs) → AllValid t (when (not s) ds ++ (d ∷ when s ds)) → Miss a d → Misses a vs → get_word t (after t b (when (not s) ds ++ (d ∷ when s ds))) a ≡ v
last_set ok b z true d ds us vs a v e h n m = rw e (word_pointed ok b z (d ∷ us) a v vs (rw e at h) m)
last_set ok b z false d ds us vs a v e h n m =
    let f = ap (λ xs. xs ++ (d ∷ [])) e ∙ append_assoc us (point a v ∷ vs) (d ∷ []) in
    rw f (word_pointed ok b z us a v (vs ++ (d ∷ [])) (rw f at h) (misses_append a vs (d ∷ []) m (n, tt)))

-- ---- what they are and leave

module _ {t : Schema} {b : List ℕ} {rows : ℕ → ℕ → List ℕ → List ℕ} {x : Linkage} (h : Linking t b rows x) where
  abbrev left : List ℕ
  left = after t b (link_deeds t x)

  module _ (k : ℕ) (l : k < (entry_of t x.set).count) (way : Bool) where
    path : IsPathOf t x.set k
    path = (h.set.0, h.set.1, l)

    -- the side is node 0 or another live record
    side-is : (side_of way (x.link k) ≡ 0) ⊎ (Mine t b x.set k (x.key k) (side_of way (x.link k)) × (side_of way (x.link k) ≢ x.at))
    side-is = side-beside t b rows x k (h.state.paths x.set k path) (h.place k l) way

    -- so it stands elsewhere
    side-off : Elsewhere (pointer t way x.set k (x.master k) (side_of way (x.link k))).set (pointer t way x.set k (x.master k) (side_of way (x.link k))).at x.set x.at
    side-off =
        pointer-elsewhere t h.world.ok way x.set k (x.master k) (side_of way (x.link k)) x.set x.at path h.set.0
        (λ e. ⊎_elim (λ z q. omega (arith, h.number)) (λ s. s.1) side-is)

    side_most : side_of way (x.link k) ≤ (entry_of t x.set).records
    side_most = ⊎_elim (λ e. omega arith) (λ s. s.0.0.0.1) side-is

    pub side-small : side_of way (x.link k) < 4294967296
    side-small = omega (arith, side_most, (h.world.ok.set x.set h.set.1).many)

    side-on : target x k way < 4294967296 → Valid t (side t x k way) × Zeroed (side t x k way) × OnPoint t b x.set x.at (side t x k way)
    side-on small =
        let a = pointer t way x.set k (x.master k) (side_of way (x.link k)) in
        let live : Live b (entry_of t a.set) a.at =
        ⊎_elim (λ s. rw (s.1, s.2) (h.place k l).master.0) (λ s. rw (s.1, s.2) (⊎_elim (λ e. absurd (omega arith)) (λ v. v.0.0) side-is))
        (pointer-at t way x.set k (x.master k) (side_of way (x.link k))) in (
          (pointer_word t h.world.ok way x.set k (x.master k) (side_of way (x.link k)) path (h.place k l).master.0.0 side_most, small),
          tt,
          (live, way, k, x.master k, side_of way (x.link k), refl),
        )

  linked_on : AllOnPoint t b x.set x.at (link_deeds t x)
  linked_on =
      on_append t b x.set x.at (when (not x.adds) (sides t x)) _ (when-has (AllOnPoint t b x.set x.at) tt (not x.adds) (sides t x) all)
      (((h.set.1, h.number, h.long), h.zeroed, (refl, refl)), when-has (AllOnPoint t b x.set x.at) tt x.adds (sides t x) all)
    where
      small : (s : Bool) (k : ℕ) → k < (entry_of t x.set).count → (way : Bool) → cond s x.at (side_of (not way) (x.link k)) < 4294967296
      small true k l way = omega (arith, h.number, (h.world.ok.set x.set h.set.1).many)
      small false k l way = side-small k l (not way)

      all : AllOnPoint t b x.set x.at (sides t x)
      all =
          on_below t b x.set x.at (sides_on t x) (entry_of t x.set).count
          (λ k l. (side-on k l true (small x.adds k l true), (side-on k l false (small x.adds k l false), tt)))

  linked-valid : AllValid t (link_deeds t x)
  linked-valid = on-valid t b x.set x.at (link_deeds t x) linked_on

  pub linked-storable : blocks_sealed (check_by t.edition) b (stores_for t (link_deeds t x)) ≡ true
  linked-storable = deeds-storable h.world.ok b h.state.sized (link_deeds t x) linked-valid h.state.sealed

  -- the record is what was put: its state, its fields
  linked_record : record_of left (entry_of t x.set) x.at ≡ x.bytes
  linked_record =
      record_whole h.world.ok b h.state.sized (when (not x.adds) (sides t x)) x.set x.at x.bytes (when x.adds (sides t x)) linked-valid
      (when-has (AllOff x.set x.at) tt x.adds (sides t x)
      (off-below x.set x.at (sides_on t x) (entry_of t x.set).count
      (λ k l. (λ e. side-off k l true (sym e.0, sym e.1), (λ e. side-off k l false (sym e.0, sym e.1), tt)))))

  linked-live : is_live left (entry_of t x.set) x.at ≡ x.adds
  linked-live = live-is h.world.ok left x.set x.at x.bytes h.set.1 linked_record ∙ h.live

  pub linked-field : (f : Field) → HasField t x.set f
      → get_run t left (address x.set x.at f) ≡ run x.bytes (offset_of t (entry_of t x.set) f) (size_of t (entry_of t x.set) f)
  linked-field = run_is h.world.ok left x.set x.at x.bytes h.set.1 linked_record

  pub linked-word : (f : Field) → HasField t x.set f → size_of t (entry_of t x.set) f ≡ 4
      → get_word t left (address x.set x.at f) ≡ word_at x.bytes (offset_of t (entry_of t x.set) f)
  linked-word = word_is h.world.ok left x.set x.at x.bytes h.set.1 linked_record

  pub linked-step : PointStep t b left x.set x.at
  linked-step =
      deeds-step t h.world b rows h.state x.set x.at h.set.0 (link_deeds t x) linked_on (λ f. rw linked_record (h.wiped (sym linked-live ∙ f)))

  -- ---- the nodes of path j

  module _ (j : ℕ) (l : j < (entry_of t x.set).count) (way : Bool) where
    -- the side points where it should
    pub side_set : node t left way x.set j (x.master j) (side_of way (x.link j)) ≡ cond x.adds x.at (side_of (not way) (x.link j))
    side_set =
        let a = pointer t way x.set j (x.master j) (side_of way (x.link j)) in
        let c = side_cut a (side t x) (entry_of t x.set).count j l way
        (λ k turn d. pointers_apart t way turn x.set j (x.master j) (side_of way (x.link j)) x.set k (x.master k) (side_of turn (x.link k)) (λ s i e z m. d (sym e, sym s))) in
        node-is t left way x.set j (x.master j) (side_of way (x.link j))
        ∙ last_set h.world.ok b h.state.sized x.adds (whole x.set x.at x.bytes) (sides t x) c.0 c.1 a (target x j way) c.2 linked-valid
        (side-off j l way) c.3

    -- the other nodes are as they were
    node-else : (q a : ℕ) → InSet (masters_at t x.set j) q → a ≤ (entry_of t x.set).records → a ≢ x.at
        → ((q ≡ x.master j) ⊎ (1 ≤ a) → a ≢ side_of way (x.link j)) → node t left way x.set j q a ≡ node t b way x.set j q a
    node-else q a in-q in-a n u =
        node-missed t h.world b rows h.state (link_deeds t x) linked-valid way x.set j q a (path j l way) in-q in-a
        (misses_append (pointer t way x.set j q a) (when (not x.adds) (sides t x)) _ (all (not x.adds))
        (pointer-elsewhere t h.world.ok way x.set j q a x.set x.at (path j l way) h.set.0 (λ e. n), all x.adds))
      where
        off : (k : ℕ) (turn : Bool) → Miss (pointer t way x.set j q a) (side t x k turn)
        off k turn =
            pointers_apart t way turn x.set j q a x.set k (x.master k) (side_of turn (x.link k)) (λ s i e z m. u (rw e m) (rw (e, s) z))

        all : (s : Bool) → Misses (pointer t way x.set j q a) (when s (sides t x))
        all s =
            when-has (Misses (pointer t way x.set j q a)) tt s (sides t x)
            (misses-below (pointer t way x.set j q a) (sides_on t x) (entry_of t x.set).count (λ k m. (off k true, (off k false, tt))))

  -- ---- the state, once the record is told between its sides

  pub linked-keeps : (now : ℕ → ℕ → List ℕ → List ℕ) → ((k j : ℕ) (key : List ℕ) → k ≢ x.set → now k j key ≡ rows k j key)
      → ((j : ℕ) → j < (entry_of t x.set).count → (key : List ℕ) → now x.set j key ≡ row_at (rows x.set j) (x.key j) (x.row j) key)
      → ((j : ℕ) → j < (entry_of t x.set).count
      → Seg (next_node t left x.set j (x.master j)) (prior_node t left x.set j (x.master j)) (x.link j).prior (only x.adds x.at) (x.link j).next)
      → ((j : ℕ) → j < (entry_of t x.set).count → x.adds ≡ true → key_on left (entry_of t x.set) x.at (path_numbered t x.set j) ≡ x.key j) → Represents t left now
  linked-keeps now others rows-now seg keyed =
      point-step-keeps t h.world b left rows now x.set x.at h.state linked-step others
      (λ j l.
      let p = path j l true in
      let led = (h.world.ok.path x.set j p).master in
      rows_same t left x.set j (row_at (rows x.set j) (x.key j) (x.row j)) (now x.set j) (rows-now j l)
      (row_changed t b rows x j (h.state.paths x.set j p) (h.place j l) left (h.state.masters (path_numbered t x.set j).master.0 led) h.number
      record {
        seg = seg j l;
        live = linked-live;
        keyed = keyed j l;
        live-else = λ a s d. live-kept t h.world b rows h.state x.set x.at h.set.0 (link_deeds t x) linked_on x.set a (λ e. d e.1) h.set.1 s;
        key-else = λ a s d.
            run_kept t h.world b rows h.state x.set x.at h.set.0 (link_deeds t x) linked_on x.set a (λ e. d e.1) (key j) refl (h.set.1, s, p);
        node-else = node-else j l;
        masters = linked-step.masters (path_numbered t x.set j).master.0 led;
      }))
