-- What one row of a path is, whatever its key: its records are live, so they are records of the set; a record on it has its master, so a
-- key that no master has has the empty row; and the row of a master is a chain, so no record stands on it twice.
use Rattle.std.specs.Prelude.{ℕ, ◌≤◌, ◌≡◌, refl, ◌≢◌, List, [], ◌∷◌}
use Rattle.std.proofs.Common.{sym, ◌∙◌, subst, inl, arith}
use Rattle.std.proofs.Math.Path.{fun_ext}
use Rattle.schema.specs.declared.Path.{Path}
use Rattle.schema.specs.declared.Entry.{Entry}
use Rattle.schema.specs.declared.Schema.{Schema}
use Rattle.schema.specs.Decode.{entry_of, path_of, masters_on}
use Rattle.schema.specs.Place.{InSet}
use Rattle.records.specs.Records.{master_key, first_on, last_on, prior_on, next_on}
use Rattle.chains.specs.Members.{All, In, NoDup, all_map, all_in}
use Rattle.chains.specs.Segments.{NoZero, Seg, seg-nodup, headed-at}
use Rattle.sound.specs.Sets.{Live}
use Rattle.kept_state.specs.Rows.{next_node, prior_node, Mine, PathRows}

-- path j of set i, and the set of its masters
abbrev pub path_numbered : Schema → ℕ → ℕ → Path
path_numbered t i j = path_of (entry_of t i) j

abbrev pub masters_at : Schema → ℕ → ℕ → Entry
masters_at t i j = masters_on t (entry_of t i) j

-- the pointers of a record, as the nodes of the path
pub next_node_at : (t : Schema) (b : List ℕ) (i j m r : ℕ) → 1 ≤ r → next_node t b i j m r ≡ next_on b (entry_of t i) r (path_numbered t i j)
next_node_at t b i j m r l = headed-at (first_on b (masters_at t i j) m (path_numbered t i j)) (λ a. next_on b (entry_of t i) a (path_numbered t i j)) r l

pub prior_node_at : (t : Schema) (b : List ℕ) (i j m r : ℕ) → 1 ≤ r → prior_node t b i j m r ≡ prior_on b (entry_of t i) r (path_numbered t i j)
prior_node_at t b i j m r l = headed-at (last_on b (masters_at t i j) m (path_numbered t i j)) (λ a. prior_on b (entry_of t i) a (path_numbered t i j)) r l

module _ (t : Schema) (b : List ℕ) (i j : ℕ) (rows : List ℕ → List ℕ) (key : List ℕ) (pr : PathRows t b i j rows) where
  -- its records are numbers of the set, none of them 0
  pub row_in_set : All (InSet (entry_of t i)) (rows key)
  row_in_set = all_map (Mine t b i j key) (InSet (entry_of t i)) (λ r h. h.0.0) (rows key) (pr.mine key)

  pub row_nozero : NoZero (rows key)
  row_nozero = all_map (InSet (entry_of t i)) (λ r. 1 ≤ r) (λ r h. h.0) (rows key) row_in_set

  -- a record on it is owned by a master that has the key
  pub row-master : (r : ℕ) → In r (rows key) → (m : ℕ) × Live b (masters_at t i j) m × (master_key b (masters_at t i j) m ≡ key)
  row-master r h =
      let own = all_in (Mine t b i j key) r (rows key) (pr.mine key) h in
      let o = pr.owned r own.0 in
      (o.0, o.1, o.2 ∙ own.1)

  pub row-none : ((m : ℕ) → Live b (masters_at t i j) m → master_key b (masters_at t i j) m ≢ key) → rows key ≡ []
  row-none none = by (rows key) (λ r h. let o = row-master r h in none o.0 o.1 o.2)
    where
      by : (rs : List ℕ) → ((r : ℕ) → In r rs → ⊥) → rs ≡ []
      by [] f = refl
      by (r ∷ rs) f = absurd (f r (inl refl))

  -- it is the chain of each such master
  pub row-chain : (m : ℕ) → Live b (masters_at t i j) m → master_key b (masters_at t i j) m ≡ key → Seg (next_node t b i j m) (prior_node t b i j m) 0 (rows key) 0
  row-chain m l k = rw k at (pr.chain m l)

  pub row-nodup : NoDup (rows key)
  row-nodup = by (rows key) refl
    where
      by : (rs : List ℕ) → rows key ≡ rs → NoDup rs
      by [] e = tt
      by (r ∷ rs) e =
          let o = row-master r (rw e (inl refl)) in
          rw e at (seg-nodup (next_node t b i j o.0) (prior_node t b i j o.0) 0 (rows key) (row-chain o.0 o.1 o.2) row_nozero).1

  -- a master that has no first record has the empty row
  pub row-bare : (m : ℕ) → Live b (masters_at t i j) m → master_key b (masters_at t i j) m ≡ key → first_on b (masters_at t i j) m (path_numbered t i j) ≡ 0 → rows key ≡ []
  row-bare m l k z = by (rows key) row_nozero (row-chain m l k)
    where
      by : (rs : List ℕ) → NoZero rs → Seg (next_node t b i j m) (prior_node t b i j m) 0 rs 0 → rs ≡ []
      by [] h s = refl
      by (r ∷ rs) h s = absurd (omega arith)

-- a path stands for rows by their values
pub rows_same : (t : Schema) (b : List ℕ) (i j : ℕ) (rows now : List ℕ → List ℕ) → ((key : List ℕ) → now key ≡ rows key) → PathRows t b i j rows → PathRows t b i j now
rows_same t b i j rows now e p = subst (λ rs. PathRows t b i j rs) (sym (fun_ext e)) p
