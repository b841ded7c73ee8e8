-- The points follow their masters. A path whose records are as they were keeps its rows if each master stands for one of before, in whatever
-- record, with its key and its first and last; a master without points may come or go, since the row of its key is empty. So a call that
-- touches no field of the path keeps it, and so does one that moves masters.
use Rattle.std.specs.Prelude.{ℕ, ◌<◌, ◌≡◌, refl, ◌≢◌, ◌⊎◌, List}
use Rattle.std.proofs.Common.{sym, ◌∙◌, inl, inr, ⊎_elim, arith}
use Rattle.octets.specs.BelowLaws.{same?}
use Rattle.schema.specs.declared.Schema.{Schema}
use Rattle.schema.specs.Decode.{entry_of, path_of}
use Rattle.schema.specs.Guarantee.{IsPathOf}
use Rattle.records.specs.Records.{master_key, key_on, first_on, last_on}
use Rattle.chains.specs.Members.{all_map}
use Rattle.chains.specs.Segments.{Seg, seg_frame}
use Rattle.sound.specs.Sets.{Live}
use Rattle.kept_state.specs.Frames.{SameMasters, SameHeads, SamePoints, Moved}
use Rattle.kept_state.specs.Rows.{World, next_node, prior_node, Mine, PathRows, Represents}
use Rattle.master_steps.specs.RowLaws.{same_masters}
use Rattle.master_steps.specs.MasterStep.{MasterStep}
use Rattle.point_steps.specs.RowFacts.{path_numbered, masters_at, next_node_at, prior_node_at, row-none, row-bare}

-- ---- one path

module _ (t : Schema) (b c : List ℕ) (i j : ℕ) where
  -- what it sees of its masters: the one in record q of c is the one in record m of b; the one in record m has no points
  abbrev Stands : ℕ → ℕ → Type 0
  Stands m q =
      (master_key c (masters_at t i j) q ≡ master_key b (masters_at t i j) m)
      × (first_on c (masters_at t i j) q (path_numbered t i j) ≡ first_on b (masters_at t i j) m (path_numbered t i j))
      × (last_on c (masters_at t i j) q (path_numbered t i j) ≡ last_on b (masters_at t i j) m (path_numbered t i j))

  abbrev Alone : List ℕ → ℕ → Type 0
  Alone d m = (first_on d (masters_at t i j) m (path_numbered t i j) ≡ 0) × (last_on d (masters_at t i j) m (path_numbered t i j) ≡ 0)

  -- each master of b stands in c, or has no points; each master of c stood in b, or has none and a key that none had
  module _ (rows : List ℕ → List ℕ) (same : SamePoints t b c i j) (pr : PathRows t b i j rows)
      (forth : (m : ℕ) → Live b (masters_at t i j) m → ((q : ℕ) × Live c (masters_at t i j) q × Stands m q) ⊎ Alone b m)
      (back : (q : ℕ) → Live c (masters_at t i j) q
      → ((m : ℕ) × Live b (masters_at t i j) m × Stands m q)
      ⊎ (Alone c q × ((m : ℕ) → Live b (masters_at t i j) m → master_key b (masters_at t i j) m ≢ master_key c (masters_at t i j) q))) where
    was_live : (r : ℕ) → Live c (entry_of t i) r → Live b (entry_of t i) r
    was_live r l = (l.0, sym (same.live r l.0) ∙ l.1)

    -- the nodes of a row are as they were, so it is the chain of its master, where it stood or elsewhere
    still-chain : (m q : ℕ) → Live b (masters_at t i j) m → Stands m q → Seg (next_node t c i j q) (prior_node t c i j q) 0 (rows (master_key c (masters_at t i j) q)) 0
    still-chain m q l s =
        let key = master_key b (masters_at t i j) m in
        rw s.0
        (seg_frame (next_node t b i j m) (prior_node t b i j m) (next_node t c i j q) (prior_node t c i j q) 0 (rows key) 0 s.1 s.2
        (all_map (Mine t b i j key) (λ r. (next_node t c i j q r ≡ next_node t b i j m r) × (prior_node t c i j q r ≡ prior_node t b i j m r)) nodes (rows key) (pr.mine key)) (pr.chain m l))
      where
        nodes : (r : ℕ) → Mine t b i j (master_key b (masters_at t i j) m) r
            → (next_node t c i j q r ≡ next_node t b i j m r) × (prior_node t c i j q r ≡ prior_node t b i j m r)
        nodes r h =
            let s = h.0.0 in (
              next_node_at t c i j q r s.0 ∙ same.next r s ∙ sym (next_node_at t b i j m r s.0),
              prior_node_at t c i j q r s.0 ∙ same.prior r s ∙ sym (prior_node_at t b i j m r s.0),
            )

    -- a master with a point did not go, so each record has its master
    still-owned : (r : ℕ) → Live c (entry_of t i) r → (q : ℕ) × Live c (masters_at t i j) q × (master_key c (masters_at t i j) q ≡ key_on c (entry_of t i) r (path_numbered t i j))
    still-owned r l =
        let o = pr.owned r (was_live r l) in
        ⊎_elim (λ w. (w.0, w.1, w.2.0 ∙ o.2 ∙ sym (same.key r l.0)))
        (λ z. absurd (let e = row-bare t b i j rows (key_on b (entry_of t i) r (path_numbered t i j)) pr o.0 o.1 o.2 z.0 in rw e at (pr.full r (was_live r l))))
        (forth o.0 o.1)

    follows : PathRows t c i j rows
    follows =
        record {
          no_blank = λ r l. rw (same.key r l.0) (pr.no_blank r (was_live r l));
          owned = still-owned;
          chain = λ q l.
              ⊎_elim (λ w. still-chain w.0 q w.1 w.2) (λ z. rw (row-none t b i j rows (master_key c (masters_at t i j) q) pr z.1) z.0) (back q l);
          mine = λ key.
              all_map (Mine t b i j key) (Mine t c i j key) (λ r h. ((h.0.0, same.live r h.0.0 ∙ h.0.1), same.key r h.0.0 ∙ h.1)) (rows key) (pr.mine key);
          full = λ r l. rw (same.key r l.0) (pr.full r (was_live r l));
        }

-- every field that the path looks at is as it was
pub path_frame : (t : Schema) (b c : List ℕ) (i j : ℕ) (rows : List ℕ → List ℕ) → IsPathOf t i j → SamePoints t b c i j → SameHeads t b c i j
    → SameMasters t b c (path_of (entry_of t i) j).master.0 → PathRows t b i j rows → PathRows t c i j rows
path_frame t b c i j rows h same heads ms pr =
    follows t b c i j rows same pr
    (λ m l. inl (m, (l.0, ms.live m l.0 ∙ l.1), (ms.key m l.0, heads.first m l.0, heads.last m l.0)))
    (λ q l. inl (q, (l.0, sym (ms.live q l.0) ∙ l.1), (ms.key q l.0, heads.first q l.0, heads.last q l.0)))

-- the masters moved, the points are as they were
pub path_moved : (t : Schema) (b c : List ℕ) (i j : ℕ) (rows : List ℕ → List ℕ) → IsPathOf t i j → SamePoints t b c i j
    → Moved t b c (path_of (entry_of t i) j).master.0 → PathRows t b i j rows → PathRows t c i j rows
path_moved t b c i j rows h same moved pr =
    follows t b c i j rows same pr
    (λ m l. ⊎_elim (λ w. inl (w.0, w.1, (w.2.key, w.2.first i j h refl, w.2.last i j h refl))) (λ z. inr (z i j h refl)) (moved.forth m l))
    (λ q l. ⊎_elim (λ w. inl (w.0, w.1, (w.2.key, w.2.first i j h refl, w.2.last i j h refl))) (λ z. inr (z.0 i j h refl, z.1)) (moved.back q l))

-- ---- all of them

-- a call on masters keeps the state, with the same rows
pub master-step-keeps : (t : Schema) (w : World t) (b c : List ℕ) (rows : ℕ → ℕ → List ℕ → List ℕ) (n : ℕ) → n < t.masters → Represents t b rows → MasterStep t b c n
    → Represents t c rows
master-step-keeps t w b c rows n l g s =
    record {
      sized = s.sized;
      sealed = s.sealed;
      clean = s.clean;
      masters = λ k lk.
          ⊎_elim (λ e. rw e s.masters) (λ d. same_masters t b c k (w.ok.set k (omega arith)).some (s.others k lk d) (g.masters k lk)) (same? k n);
      paths = λ i j h.
          ⊎_elim (λ e. path_moved t b c i j (rows i j) h (s.points i j h) (rw e s.moved) (g.paths i j h))
          (λ d. path_frame t b c i j (rows i j) h (s.points i j h) (s.heads i j h d) (s.others _ (w.ok.path i j h).master d) (g.paths i j h))
          (same? (path_of (entry_of t i) j).master.0 n);
    }
