-- The pointers of a path's chains as addresses, both directions at once: `way` is true for next, false for prior. Node 0 is the master, whose
-- pointers are first and last. All of that can be read off the address, so pointers that differ in any of it are different addresses.
use Rattle.std.specs.Prelude.{ℕ, zero, suc, ◌≤◌, ◌≡◌, refl, ◌≢◌, ◌⊎◌, Bool, true, false, List}
use Rattle.std.proofs.Common.{sym, ap, ◌∙◌, inl, inr, ⊎_elim, arith}
use Rattle.schema.specs.declared.Schema.{Schema}
use Rattle.schema.specs.Decode.{entry_of, path_of, masters_on}
use Rattle.schema.specs.Place.{InSet}
use Rattle.schema.specs.Guarantee.{SchemaOk, IsPathOf}
use Rattle.records.specs.Address.{Field, state, root-next, root-prior, own_key, body, key, prior, next, first, last, Address, get_word, WordField}
use Rattle.records.specs.WholeRecords.{Elsewhere}
use Rattle.points.specs.SideLaws.{forward_from, back_from}
use Rattle.kept_state.specs.Rows.{next_node, prior_node}

-- the pointer of node a in the chain of the master in record m, on path j of set i: its address, and what stands there
abbrev pub pointer : Schema → Bool → ℕ → ℕ → ℕ → ℕ → Address
pointer t true i j m a = forward_from t i j m a
pointer t false i j m a = back_from t i j m a

abbrev pub node : Schema → List ℕ → Bool → ℕ → ℕ → ℕ → ℕ → ℕ
node t b true i j m a = next_node t b i j m a
node t b false i j m a = prior_node t b i j m a

pub node-is : (t : Schema) (b : List ℕ) (way : Bool) (i j m a : ℕ) → node t b way i j m a ≡ get_word t b (pointer t way i j m a)
node-is t b true i j m zero = refl
node-is t b true i j m (suc a) = refl
node-is t b false i j m zero = refl
node-is t b false i j m (suc a) = refl

-- the pointers of a master of the path and of the set's records are words of the schema
pub pointer_word : (t : Schema) (ok : SchemaOk t) (way : Bool) (i j m a : ℕ) → IsPathOf t i j → InSet (masters_on t (entry_of t i) j) m → a ≤ (entry_of t i).records
    → WordField t (pointer t way i j m a)
pointer_word t ok true i j m zero p s l = ((omega (arith, (ok.path i j p).master), s, (p, refl)), refl)
pointer_word t ok true i j m (suc a) p s l = ((p.1, (omega arith, l), p), refl)
pointer_word t ok false i j m zero p s l = ((omega (arith, (ok.path i j p).master), s, (p, refl)), refl)
pointer_word t ok false i j m (suc a) p s l = ((p.1, (omega arith, l), p), refl)

-- they stand in the master or in the node's record
pub pointer-at : (t : Schema) (way : Bool) (i j m a : ℕ)
    → ((a ≡ 0) × ((pointer t way i j m a).set ≡ (path_of (entry_of t i) j).master.0) × ((pointer t way i j m a).at ≡ m))
    ⊎ ((1 ≤ a) × ((pointer t way i j m a).set ≡ i) × ((pointer t way i j m a).at ≡ a))
pointer-at t true i j m zero = inl (refl, refl, refl)
pointer-at t true i j m (suc a) = inr (omega arith, refl, refl)
pointer-at t false i j m zero = inl (refl, refl, refl)
pointer-at t false i j m (suc a) = inr (omega arith, refl, refl)

-- so in another record than r of the variable set i, but for node r of its own paths
pub pointer-elsewhere : (t : Schema) (ok : SchemaOk t) (way : Bool) (k j m a i r : ℕ) → IsPathOf t k j → t.masters ≤ i → (k ≡ i → a ≢ r)
    → Elsewhere (pointer t way k j m a).set (pointer t way k j m a).at i r
pointer-elsewhere t ok way k j m a i r p low n e =
    ⊎_elim (λ s. omega (arith, (ok.path k j p).master, e.0)) (λ s. n (sym s.1 ∙ e.0) (sym s.2 ∙ e.1)) (pointer-at t way k j m a)

-- ---- different addresses

-- what an address says: the direction, path, node and, for node 0, master of a pointer; nothing if it is no pointer of a path
pub data Reading : Type 0 where
  none : Reading
  link : Bool → ℕ → ℕ → ℕ → ℕ → Reading

abbrev pub reading : ℕ → ℕ → Field → Reading
reading n r state = none
reading n r root-next = none
reading n r root-prior = none
reading n r own_key = none
reading n r body = none
reading n r (key j) = none
reading n r (prior j) = link false n j r 0
reading n r (next j) = link true n j r 0
reading n r (first i j) = link true i j 0 r
reading n r (last i j) = link false i j 0 r

abbrev read : Address → Reading
read a = reading a.set a.at a.field

abbrev owner : ℕ → ℕ → ℕ
owner m zero = m
owner m (suc a) = 0

pointer_read : (t : Schema) (way : Bool) (i j m a : ℕ) → read (pointer t way i j m a) ≡ link way i j a (owner m a)
pointer_read t true i j m zero = refl
pointer_read t true i j m (suc a) = refl
pointer_read t false i j m zero = refl
pointer_read t false i j m (suc a) = refl

pub pointers_apart : (t : Schema) (way turn : Bool) (i j m a k l q c : ℕ) → (way ≡ turn → i ≡ k → j ≡ l → a ≡ c → (m ≡ q) ⊎ (1 ≤ a) → ⊥)
    → pointer t way i j m a ≢ pointer t turn k l q c
pointers_apart t way turn i j m a k l q c d e =
    let same : link way i j a (owner m a) ≡ link turn k l c (owner q c) = sym (pointer_read t way i j m a) ∙ ap read e ∙ pointer_read t turn k l q c in
    d (cc) (cc) (cc) (cc) (by a c (cc) (cc))
  where
    by : (a c : ℕ) → a ≡ c → owner m a ≡ owner q c → (m ≡ q) ⊎ (1 ≤ a)
    by zero zero s o = inl o
    by zero (suc c) s o = absurd (omega arith)
    by (suc a) c s o = inr (omega arith)

-- a field that is no pointer of a path
abbrev pub Plain : ℕ → ℕ → Field → Type 0
Plain n r f = reading n r f ≡ none

pub plain-apart : (t : Schema) (way : Bool) (n r : ℕ) (f : Field) (i j m a : ℕ) → Plain n r f → record { set = n; at = r; field = f } ≢ pointer t way i j m a
plain-apart t way n r f i j m a p e =
    let z : none ≡ link way i j a (owner m a) = sym p ∙ ap read e ∙ pointer_read t way i j m a in
    let o : ◌≡◌ {A = ℕ} 0 1 = cc in
    omega arith
