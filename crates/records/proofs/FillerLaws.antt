-- The bytes that are no field: the three zeros behind each record's state, and the room behind the last record of a block. No store to an
-- address and no sealing reaches them; a store inside a record reaches no leftover room.
use Rattle.std.specs.Prelude.{ℕ, ◌+◌, ◌*◌, ◌-◌, ◌/◌, ◌%◌, ◌≤◌, ◌<◌, ◌≡◌, ◌⊎◌, List, length}
use Rattle.std.proofs.Math.Path.{refl}
use Rattle.std.proofs.Common.{inl, inr, arith, mod-lt, mul-le-mul_right, div-add-mod'}
use Rattle.std.proofs.Math.Decide.{ℕ_discrete}
use Rattle.octets.specs.Octets.{Apart, run, splice}
use Rattle.octets.specs.SpliceLaws.{run_run, run_splice_out}
use Rattle.blocks.specs.declared.Check.{Check}
use Rattle.blocks.specs.Blocks.{check_at, seal}
use Rattle.blocks.specs.Laws.{run_seal}
use Rattle.schema.specs.declared.Entry.{Entry}
use Rattle.schema.specs.declared.Schema.{Schema}
use Rattle.schema.specs.Decode.{entry_of, set_count}
use Rattle.schema.specs.Place.{InSet, block_of, place_of, record_of, blocks_held, records_held, leftover_at, leftover_size, leftover_of, LiesIn}
use Rattle.schema.specs.Guarantee.{SchemaOk}
use Rattle.schema.proofs.PlaceLaws.{order?, div_mono, place_in_block}
use Rattle.schema.proofs.LayoutLaws.{rounded}
use Rattle.schema.proofs.GuaranteeLaws.{lies}
use Rattle.records.specs.Address.{Field, state, Address, offset_of, size_of, HasField, IsAddress, address_at, address_size, put_run, Fills}
use Rattle.records.proofs.FieldPlaces.{record_least, field-starts}
use Rattle.records.proofs.AddressLaws.{Inside, inside-off-records, inside-off_checks, address-inside}
use Rattle.records.specs.WholeRecords.{put_record, IsWhole}

-- ---- fillers: "state byte (1 live), three zeros"

abbrev pub filler_of : List ℕ → Entry → ℕ → List ℕ
filler_of b e r = run b (place_of e r + 1) 3

-- a record's bytes have it
pub filler_of-record_of : {t : Schema} (xs : List ℕ) (n r : ℕ) → SchemaOk t → n < set_count t → run (record_of xs (entry_of t n) r) 1 3 ≡ filler_of xs (entry_of t n) r
filler_of-record_of {t} xs n r ok l = run_run xs (place_of (entry_of t n) r) (entry_of t n).size 1 3 (record_least t ok n l)

module _ {t : Schema} (n r : ℕ) (ok : SchemaOk t) (l : n < set_count t) (in_set : InSet (entry_of t n) r) where
  -- a field of the same record
  own-filler : (f : Field) → HasField t n f → Apart (place_of (entry_of t n) r + offset_of t (entry_of t n) f) (size_of t (entry_of t n) f) (place_of (entry_of t n) r + 1) 3
  own-filler f h p q = go (field-starts t ok n f l h)
    where
      go : (f ≡ state) ⊎ (4 ≤ offset_of t (entry_of t n) f) → ⊥
      go (inl e) = omega (arith, rw e at q)
      go (inr k) = omega arith

  pub address-off_fillers : (a : Address) → IsAddress t a → Apart (address_at t a) (address_size t a) (place_of (entry_of t n) r + 1) 3
  address-off_fillers a ia = go (ℕ_discrete n a.set) (ℕ_discrete r a.at)
    where
      elsewhere : ((n ≡ a.set) × (r ≡ a.at) → ⊥) → Apart (address_at t a) (address_size t a) (place_of (entry_of t n) r + 1) 3
      elsewhere d p q =
          inside-off-records a.set a.at _ _ ok (address-inside a ok ia) n r l in_set d (omega (arith, record_least t ok n l)) (omega (arith, record_least t ok n l))

      go : Dec (n ≡ a.set) → Dec (r ≡ a.at) → Apart (address_at t a) (address_size t a) (place_of (entry_of t n) r + 1) 3
      go (yes e) (yes k) = rw (← e, ← k) (own-filler a.field (rw (← e) at ia.2))
      go (yes e) (no k) = elsewhere (λ h. k h.1)
      go (no e) (yes k) = elsewhere (λ h. e h.0)
      go (no e) (no k) = elsewhere (λ h. e h.0)

  module _ (xs : List ℕ) where
    pub filler_of-put_run : (a : Address) (ys : List ℕ) → IsAddress t a → Fills t a ys → filler_of (put_run t xs a ys) (entry_of t n) r ≡ filler_of xs (entry_of t n) r
    filler_of-put_run a ys ia h =
        run_splice_out xs (address_at t a) ys (place_of (entry_of t n) r + 1) 3 (λ p q. address-off_fillers a ia (omega arith) (omega arith))

    pub filler_of-seal : (k : Check) (m : ℕ) → filler_of (seal k xs m) (entry_of t n) r ≡ filler_of xs (entry_of t n) r
    filler_of-seal k m =
        run_seal k xs m (place_of (entry_of t n) r + 1) 3 (inside-off_checks n r 1 3 ok (l, in_set, record_least t ok n l) m)

-- ---- leftovers: "Room after records is zero."

-- a record is one of those of its block
record_in : (e : Entry) (r : ℕ) → 1 ≤ e.per → InSet e r → (r - 1) % e.per + 1 ≤ records_held e ((r - 1) / e.per)
record_in e r p in_set =
    let m : (r - 1) % e.per < e.per = mod-lt (r - 1) p in
    omega (arith, div-add-mod' (r - 1) e.per)

-- so it ends where the room begins, or before
record_leftover : {e : Entry} {n : ℕ} (r : ℕ) → LiesIn e n → InSet e r → place_of e r + e.size ≤ leftover_at e ((r - 1) / e.per)
unfolding place_of block_of
record_leftover {e} r ok in_set = omega (arith, mul-le-mul_right e.size (record_in e r ok.per in_set))

leftover_ends : {e : Entry} {n : ℕ} (k : ℕ) → LiesIn e n → leftover_at e k + leftover_size e k ≡ check_at (e.first.0 + k)
leftover_ends {e} k ok =
    let m : records_held e k ≤ e.per = omega arith in
    omega (arith, ok.whole, mul-le-mul_right e.size m)

own_leftover : {e : Entry} {n : ℕ} (r o m k : ℕ) → LiesIn e n → InSet e r → o + m ≤ e.size → Apart (place_of e r + o) m (leftover_at e k) (leftover_size e k)
unfolding block_of
own_leftover {e} r o m k ok in_set h p q = go (order? k ((r - 1) / e.per))
  where
    go : (k < (r - 1) / e.per) ⊎ (k ≡ (r - 1) / e.per) ⊎ ((r - 1) / e.per < k) → ⊥
    go (inl l) = omega (arith, leftover_ends k ok, place_in_block r ok)
    go (inr (inl d)) = omega (arith, rw d at q, record_leftover r ok in_set)
    go (inr (inr l)) = omega (arith, leftover_ends k ok, place_in_block r ok)

module _ {t : Schema} (i k : ℕ) (ok : SchemaOk t) (li : i < set_count t) (lk : k < blocks_held (entry_of t i)) where
  in_base : LiesIn (entry_of t i) (512 * t.blocks)
  in_base = lies i ok li refl

  last_block : k ≤ ((entry_of t i).records - 1) / (entry_of t i).per
  last_block =
      let s = ok.set i li in
      omega (arith, rounded ((entry_of t i).records + ((entry_of t i).per - 1)) (entry_of t i).records (entry_of t i).per s.per (omega arith))

  -- a store inside a record
  pub inside-off_leftovers : (n r o m : ℕ) → Inside t n r o m → Apart (place_of (entry_of t n) r + o) m (leftover_at (entry_of t i) k) (leftover_size (entry_of t i) k)
  unfolding block_of
  inside-off_leftovers n r o m h = go (order? n i)
    where
      there : LiesIn (entry_of t n) (512 * t.blocks)
      there = lies n ok h.0 refl

      go : (n < i) ⊎ (n ≡ i) ⊎ (i < n) → Apart (place_of (entry_of t n) r + o) m (leftover_at (entry_of t i) k) (leftover_size (entry_of t i) k)
      go (inl l) = λ p q.
          omega (arith, ok.sets_apart n i l li, div_mono (r - 1) ((entry_of t n).records - 1) (entry_of t n).per there.per (omega arith), place_in_block r there)
      go (inr (inl e)) = rw (← e) (own_leftover r o m k there h.1 h.2)
      go (inr (inr l)) = λ p q. omega (arith, ok.sets_apart i n l h.0, last_block, leftover_ends k in_base, place_in_block r there)

  pub leftover_of-inside : (xs : List ℕ) (n r o : ℕ) (ys : List ℕ) → Inside t n r o (length ys)
      → leftover_of (splice xs (place_of (entry_of t n) r + o) ys) (entry_of t i) k ≡ leftover_of xs (entry_of t i) k
  leftover_of-inside xs n r o ys h =
      run_splice_out xs (place_of (entry_of t n) r + o) ys (leftover_at (entry_of t i) k) (leftover_size (entry_of t i) k) (inside-off_leftovers n r o (length ys) h)

  pub leftover_of-put_record : (xs : List ℕ) (n r : ℕ) (ys : List ℕ) → IsWhole t n r ys → leftover_of (put_record t xs n r ys) (entry_of t i) k ≡ leftover_of xs (entry_of t i) k
  leftover_of-put_record xs n r ys w =
      run_splice_out xs (place_of (entry_of t n) r) ys (leftover_at (entry_of t i) k) (leftover_size (entry_of t i) k)
      (λ p q. inside-off_leftovers n r 0 (length ys) (w.0, w.1, omega arith) (omega arith) (omega arith))

  pub leftover_of-seal : (c : Check) (xs : List ℕ) (j : ℕ) → leftover_of (seal c xs j) (entry_of t i) k ≡ leftover_of xs (entry_of t i) k
  leftover_of-seal c xs j = run_seal c xs j (leftover_at (entry_of t i) k) (leftover_size (entry_of t i) k) (λ p q. omega (arith, leftover_ends k in_base))
