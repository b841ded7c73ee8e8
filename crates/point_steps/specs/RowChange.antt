-- A call that links a record into the paths of its set, or takes it out of them, and what it makes of one path: if the record's place in the row of
-- its key is as RowPlace says and the fields have changed as RowChanged says, the path stands for the rows with another list at that key. The chain of
-- the key's master is changed in the middle; the records of every other chain have another key, so their pointers stay.
use Rattle.std.specs.Prelude.{ℕ, ◌≤◌, ◌≡◌, refl, ◌≢◌, ◌⊎◌, Bool, true, false, cond, not, List, [], ◌∷◌, ◌++◌}
use Rattle.std.proofs.Common.{sym, ◌∙◌, inl, inr, ⊎_elim, arith}
use Rattle.octets.specs.Octets.{all_blank, same_bytes}
use Rattle.octets.specs.BelowLaws.{same?}
use Rattle.octets.specs.TestLaws.{never_both}
use Rattle.octets.specs.RunLaws.{same_bytes_eq, eq_same_bytes, ne_same_bytes}
use Rattle.schema.specs.declared.Schema.{Schema}
use Rattle.schema.specs.Decode.{entry_of}
use Rattle.schema.specs.Place.{InSet}
use Rattle.records.specs.declared.Link.{Link}
use Rattle.records.specs.Records.{is_live, master_key, key_on}
use Rattle.chains.specs.Members.{All, In, Fresh, all_map, all_both, all_append, all_left, all_right, in_left, in_right, in_cases}
use Rattle.chains.specs.Segments.{Seg, last_or, head_or, all_last, all_head, seg_frame, chain-change}
use Rattle.sound.specs.Sets.{Live, MasterSet}
use Rattle.kept_state.specs.Frames.{SameMasters}
use Rattle.kept_state.specs.Rows.{next_node, prior_node, Mine, PathRows}
use Rattle.point_steps.specs.RowFacts.{path_numbered, masters_at, row_nozero, row-chain}
use Rattle.point_steps.specs.Nodes.{node}

-- ---- the call

-- record `at` of the variable set `set` becomes `bytes`, and comes onto the set's paths or leaves them; on path k: the record of its master, its
-- key, the nodes on both sides of it, and the row of the key afterwards
pub record Linkage : Type 0 where
  pub set : ℕ
  pub at : ℕ
  pub bytes : List ℕ
  pub adds : Bool
  pub master : ℕ → ℕ
  pub key : ℕ → List ℕ
  pub link : ℕ → Link
  pub row : ℕ → List ℕ

-- what stands between the two nodes where the record is on the path, and where it is not
abbrev pub only : Bool → ℕ → List ℕ
only true r = r ∷ []
only false r = []

-- the node whose pointer that way leads over the place: the one before it by its next, the one behind it by its prior
abbrev pub side_of : Bool → Link → ℕ
side_of true l = l.prior
side_of false l = l.next

-- the place on path j: the master of the key, and the row cut in two, with the nodes at the ends of the pieces
pub record RowPlace (t : Schema) (b : List ℕ) (rows : ℕ → ℕ → List ℕ → List ℕ) (x : Linkage) (j : ℕ) : Type 0 where
  pub master : Live b (masters_at t x.set j) (x.master j) × (master_key b (masters_at t x.set j) (x.master j) ≡ x.key j)
  pub no_blank : all_blank (x.key j) ≡ false
  pub split : (left : List ℕ) × (right : List ℕ) × (rows x.set j (x.key j) ≡ left ++ (only (not x.adds) x.at ++ right))
      × (x.row j ≡ left ++ (only x.adds x.at ++ right)) × ((x.link j).prior ≡ last_or 0 left) × ((x.link j).next ≡ head_or 0 right)
  pub fresh : Fresh x.at (split.0 ++ split.1)
  pub own_key : is_live b (entry_of t x.set) x.at ≡ true → key_on b (entry_of t x.set) x.at (path_numbered t x.set j) ≡ x.key j

-- what it does to path j, field by field: `b` before, `c` after
pub record RowChanged (t : Schema) (b c : List ℕ) (x : Linkage) (j : ℕ) : Type 0 where
  pub seg : Seg (next_node t c x.set j (x.master j)) (prior_node t c x.set j (x.master j)) (x.link j).prior (only x.adds x.at) (x.link j).next
  pub live : is_live c (entry_of t x.set) x.at ≡ x.adds
  pub keyed : x.adds ≡ true → key_on c (entry_of t x.set) x.at (path_numbered t x.set j) ≡ x.key j
  pub live-else : (a : ℕ) → InSet (entry_of t x.set) a → a ≢ x.at → is_live c (entry_of t x.set) a ≡ is_live b (entry_of t x.set) a
  pub key-else : (a : ℕ) → InSet (entry_of t x.set) a → a ≢ x.at → key_on c (entry_of t x.set) a (path_numbered t x.set j) ≡ key_on b (entry_of t x.set) a (path_numbered t x.set j)
  -- the nodes of every master q: records are nodes of all of them, node 0 is q's own
  pub node-else : (way : Bool) (q a : ℕ) → InSet (masters_at t x.set j) q → a ≤ (entry_of t x.set).records → a ≢ x.at
      → ((q ≡ x.master j) ⊎ (1 ≤ a) → a ≢ side_of way (x.link j)) → node t c way x.set j q a ≡ node t b way x.set j q a
  pub masters : SameMasters t b c (path_numbered t x.set j).master.0

-- ---- rows with another list at one key

abbrev pub row_at : (List ℕ → List ℕ) → List ℕ → List ℕ → List ℕ → List ℕ
row_at rows key new k = cond (same_bytes k key) new (rows k)

pub key? : (k key : List ℕ) → (k ≡ key) ⊎ (k ≢ key)
key? k key = by (same_bytes k key) refl
  where
    by : (s : Bool) → same_bytes k key ≡ s → (k ≡ key) ⊎ (k ≢ key)
    by true q = inl (same_bytes_eq k key q)
    by false q = inr (λ e. never_both (same_bytes k key) (eq_same_bytes k key e) q)

-- ---- the place

module _ (t : Schema) (b : List ℕ) (rows : ℕ → ℕ → List ℕ → List ℕ) (x : Linkage) (j : ℕ) (p : PathRows t b x.set j (rows x.set j)) (h : RowPlace t b rows x j) where
  -- the pieces of the row: their records are others than the call's own
  abbrev left : List ℕ
  left = h.split.0

  abbrev right : List ℕ
  right = h.split.1

  -- the key of a record on the path
  abbrev key_in : List ℕ → ℕ → List ℕ
  key_in d a = key_on d (entry_of t x.set) a (path_numbered t x.set j)

  abbrev pub Beside : ℕ → Type 0
  Beside a = Mine t b x.set j (x.key j) a × (a ≢ x.at)

  beside : All Beside (left ++ right)
  beside =
      let P = Mine t b x.set j (x.key j) in
      let old = only (not x.adds) x.at in
      let all : All P (left ++ (old ++ right)) = rw h.split.2 at (p.mine (x.key j)) in
      all_both P (λ a. a ≢ x.at) (left ++ right) (all_append P left right (all_left P left (old ++ right) all) (all_right P old right (all_right P left (old ++ right) all)))
      (all_map (λ a. x.at ≢ a) (λ a. a ≢ x.at) (λ a n e. n (sym e)) (left ++ right) h.fresh)

  -- so is each of its neighbours, if there is one
  pub side-beside : (way : Bool) → (side_of way (x.link j) ≡ 0) ⊎ Beside (side_of way (x.link j))
  side-beside true =
      rw h.split.4 (all_last (λ a. (a ≡ 0) ⊎ Beside a) 0 left (inl refl) (all_map Beside _ (λ a m. inr m) left (all_left Beside left right beside)))
  side-beside false =
      rw h.split.5 (all_head (λ a. (a ≡ 0) ⊎ Beside a) 0 right (inl refl) (all_map Beside _ (λ a m. inr m) right (all_right Beside left right beside)))

  -- a record with another key is neither the call's own nor one of its neighbours
  strange : (k : List ℕ) (a : ℕ) → k ≢ x.key j → Mine t b x.set j k a → (a ≢ x.at) × ((way : Bool) → a ≢ side_of way (x.link j))
  strange k a n m = (
    λ e. n (sym m.1 ∙ (rw e (h.own_key (rw e at m.0.1)))),
    λ way e. ⊎_elim (λ z. omega (arith, m.0.0.0)) (λ s. n (sym m.1 ∙ (rw e s.0.1))) (side-beside way),
  )

  -- ---- the change

  module _ (c : List ℕ) (ms : MasterSet b (masters_at t x.set j)) (number : InSet (entry_of t x.set) x.at) (ch : RowChanged t b c x j) where
    -- a record of c is the call's own, or what it was in b
    which : (a : ℕ) → Live c (entry_of t x.set) a
        → ((a ≡ x.at) × (x.adds ≡ true) × (key_in c a ≡ x.key j)) ⊎ ((a ≢ x.at) × Live b (entry_of t x.set) a × (key_in c a ≡ key_in b a))
    which a l =
        ⊎_elim (λ e. let s = sym ch.live ∙ (rw e at l.1) in inl (e, s, rw e (ch.keyed s)))
        (λ n. inr (n, (l.0, sym (ch.live-else a l.0 n) ∙ l.1), ch.key-else a l.0 n)) (same? a x.at)

    kept : (k : List ℕ) (a : ℕ) → a ≢ x.at → Mine t b x.set j k a → Mine t c x.set j k a
    kept k a n m = ((m.0.0, ch.live-else a m.0.0 n ∙ m.0.1), ch.key-else a m.0.0 n ∙ m.1)

    still : (q : ℕ) → Live b (masters_at t x.set j) q → Live c (masters_at t x.set j) q
    still q l = (l.0, ch.masters.live q l.0 ∙ l.1)

    -- the chain of master q is this list
    abbrev Chain : ℕ → List ℕ → Type 0
    Chain q rs = Seg (next_node t c x.set j q) (prior_node t c x.set j q) 0 rs 0

    own-chain : Chain (x.master j) (left ++ (only x.adds x.at ++ right))
    own-chain =
        let m = h.master.0.0 in
        chain-change (next_node t b x.set j (x.master j)) (prior_node t b x.set j (x.master j)) (next_node t c x.set j (x.master j))
        (prior_node t c x.set j (x.master j)) left (only (not x.adds) x.at) (only x.adds x.at) right (λ a. (a ≤ (entry_of t x.set).records) × (a ≢ x.at))
        (λ a n k. ch.node-else true (x.master j) a m k.0 k.1 (λ w. rw h.split.4 n))
        (λ a n k. ch.node-else false (x.master j) a m k.0 k.1 (λ w. rw h.split.5 n))
        ((omega arith, λ e. omega arith), all_map Beside _ (λ a m. (m.0.0.0.1, m.1)) (left ++ right) beside)
        (rw h.split.2 at (row-chain t b x.set j (rows x.set j) (x.key j) p (x.master j) h.master.0 h.master.1))
        (rw h.split.2 at (row_nozero t b x.set j (rows x.set j) (x.key j) p)) (rw (h.split.4, h.split.5) at ch.seg)

    else-chain : (q : ℕ) → Live b (masters_at t x.set j) q → master_key b (masters_at t x.set j) q ≢ x.key j → Chain q (rows x.set j (master_key b (masters_at t x.set j) q))
    else-chain q l n =
        let key = master_key b (masters_at t x.set j) q in
        seg_frame (next_node t b x.set j q) (prior_node t b x.set j q) (next_node t c x.set j q) (prior_node t c x.set j q) 0 (rows x.set j key) 0 (head true) (head false)
        (all_map (Mine t b x.set j key) _ (λ a m. (record_node a m true, record_node a m false)) (rows x.set j key) (p.mine key)) (p.chain q l)
      where
        head : (way : Bool) → node t c way x.set j q 0 ≡ node t b way x.set j q 0
        head way = ch.node-else way q 0 l.0 (omega arith) (λ e. omega arith) (λ w. absurd (⊎_elim (λ e. n (rw e h.master.1)) (λ k. omega arith) w))

        record_node : (a : ℕ) → Mine t b x.set j (master_key b (masters_at t x.set j) q) a → (way : Bool) → node t c way x.set j q a ≡ node t b way x.set j q a
        record_node a m way = let s = strange (master_key b (masters_at t x.set j) q) a n m in ch.node-else way q a l.0 m.0.0.1 s.0 (λ w. s.1 way)

    -- ---- the rows

    abbrev now : List ℕ → List ℕ
    now = row_at (rows x.set j) (x.key j) (x.row j)

    here : (k : List ℕ) → k ≡ x.key j → now k ≡ left ++ (only x.adds x.at ++ right)
    here k e = rw (eq_same_bytes k (x.key j) e) h.split.3

    else : (k : List ℕ) → k ≢ x.key j → now k ≡ rows x.set j k
    else k n = rw (ne_same_bytes k (x.key j) n) refl

    now-chain : (q : ℕ) → Live c (masters_at t x.set j) q → Chain q (now (master_key c (masters_at t x.set j) q))
    now-chain q l =
        let was : Live b (masters_at t x.set j) q = (l.0, sym (ch.masters.live q l.0) ∙ l.1) in
        rw (ch.masters.key q l.0)
        (⊎_elim (λ e. rw (here (master_key b (masters_at t x.set j) q) e, ms.one q (x.master j) was h.master.0 (e ∙ sym h.master.1)) own-chain)
        (λ n. rw (else (master_key b (masters_at t x.set j) q) n) (else-chain q was n)) (key? (master_key b (masters_at t x.set j) q) (x.key j)))

    now-mine : (k : List ℕ) → All (Mine t c x.set j k) (now k)
    now-mine k =
        ⊎_elim (λ e. rw (here k e, e) own)
        (λ n. rw (else k n) (all_map (Mine t b x.set j k) (Mine t c x.set j k) (λ a m. kept k a (strange k a n m).0 m) (rows x.set j k) (p.mine k))) (key? k (x.key j))
      where
        new : (s : Bool) → x.adds ≡ s → All (Mine t c x.set j (x.key j)) (only s x.at)
        new true e = (((number, ch.live ∙ e), ch.keyed e), tt)
        new false e = tt

        own : All (Mine t c x.set j (x.key j)) (left ++ (only x.adds x.at ++ right))
        own =
            let P = Mine t c x.set j (x.key j) in
            let side = all_map Beside P (λ a m. kept (x.key j) a m.1 m.0) (left ++ right) beside in
            all_append P left (only x.adds x.at ++ right) (all_left P left right side) (all_append P (only x.adds x.at) right (new x.adds refl) (all_right P left right side))

    now_full : (a : ℕ) → Live c (entry_of t x.set) a → In a (now (key_in c a))
    now_full a l =
        ⊎_elim (λ w. rw (here (key_in c a) w.2) (in_right a left _ (in_left a (only x.adds x.at) right (rw w.1 (inl w.0)))))
        (λ w. rw w.2 (⊎_elim (λ e. rw (here (key_in b a) e) (own w.0 (rw h.split.2 at (rw e at (p.full a w.1)))))
        (λ n. rw (else (key_in b a) n) (p.full a w.1)) (key? (key_in b a) (x.key j)))) (which a l)
      where
        aside : (s : Bool) → a ≢ x.at → In a (only (not s) x.at ++ right) → In a (only s x.at ++ right)
        aside true n m = inr m
        aside false n (inl e) = absurd (n e)
        aside false n (inr m) = m

        own : a ≢ x.at → In a (left ++ (only (not x.adds) x.at ++ right)) → In a (left ++ (only x.adds x.at ++ right))
        own n m = ⊎_elim (λ o. in_left a left _ o) (λ o. in_right a left _ (aside x.adds n o)) (in_cases a left (only (not x.adds) x.at ++ right) m)

    pub row_changed : PathRows t c x.set j (row_at (rows x.set j) (x.key j) (x.row j))
    row_changed =
        record {
          no_blank = λ a l. ⊎_elim (λ w. rw w.2 h.no_blank) (λ w. rw w.2 (p.no_blank a w.1)) (which a l);
          owned = λ a l.
              ⊎_elim (λ w. (x.master j, still (x.master j) h.master.0, ch.masters.key (x.master j) h.master.0.0 ∙ h.master.1 ∙ sym w.2))
              (λ w. let o = p.owned a w.1 in (o.0, still o.0 o.1, ch.masters.key o.0 o.1.0 ∙ o.2 ∙ sym w.2)) (which a l);
          chain = now-chain;
          mine = now-mine;
          full = now_full;
        }
