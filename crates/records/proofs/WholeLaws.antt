-- After a whole record is stored: what stands in it is what the stored bytes say at the field's offset; every other record is as it was.
use Rattle.std.specs.Prelude.{ℕ, ◌+◌, ◌*◌, ◌≤◌, ◌<◌, ◌≡◌, List, length}
use Rattle.std.proofs.Common.{arith}
use Rattle.octets.specs.Octets.{Apart, byte_at, run, word_at, splice}
use Rattle.octets.specs.SpliceLaws.{get_d_run, run_run, get_d_splice_out, run_splice, run_splice_out}
use Rattle.octets.specs.WordLaws.{word_at-part, word_at-splice}
use Rattle.schema.specs.declared.Schema.{Schema}
use Rattle.schema.specs.Decode.{entry_of, set_count}
use Rattle.schema.specs.Place.{InSet, place_of, record_of}
use Rattle.schema.specs.Guarantee.{SchemaOk}
use Rattle.schema.proofs.GuaranteeLaws.{places-apart}
use Rattle.records.specs.Records.{state_of}
use Rattle.records.specs.Address.{Field, state, Address, offset_of, size_of, HasField, IsAddress, address_at, address_size, get_run, get_word, put_run, address, WordField, Fills}
use Rattle.records.proofs.FieldPlaces.{field-inside}
use Rattle.records.proofs.AddressLaws.{Inside, inside-off-records, inside-base, address-inside}
use Rattle.records.specs.WholeRecords.{put_record, IsWhole, Elsewhere}

-- ---- a record read

-- a field of it is a part of its bytes
pub get_run-record_of : {t : Schema} (xs : List ℕ) (n r : ℕ) (f : Field) → SchemaOk t → n < set_count t → HasField t n f
    → run (record_of xs (entry_of t n) r) (offset_of t (entry_of t n) f) (size_of t (entry_of t n) f) ≡ get_run t xs (address n r f)
get_run-record_of {t} xs n r f ok l h = run_run xs (place_of (entry_of t n) r) (entry_of t n).size (offset_of t (entry_of t n) f) (size_of t (entry_of t n) f) (field-inside t ok n f l h)

pub get_word-record_of : {t : Schema} (xs : List ℕ) (n r : ℕ) (f : Field) → SchemaOk t → n < set_count t → HasField t n f → size_of t (entry_of t n) f ≡ 4
    → word_at (record_of xs (entry_of t n) r) (offset_of t (entry_of t n) f) ≡ get_word t xs (address n r f)
get_word-record_of {t} xs n r f ok l h s = word_at-part (place_of (entry_of t n) r) (entry_of t n).size xs (offset_of t (entry_of t n) f) (omega (arith, field-inside t ok n f l h))

pub state_of-record_of : {t : Schema} (xs : List ℕ) (n r : ℕ) → SchemaOk t → n < set_count t → byte_at (record_of xs (entry_of t n) r) 0 ≡ state_of xs (entry_of t n) r
state_of-record_of {t} xs n r ok l =
    let z : place_of (entry_of t n) r + 0 ≡ place_of (entry_of t n) r = omega arith in
    rw z at (get_d_run xs (place_of (entry_of t n) r) (entry_of t n).size 0 (omega (arith, field-inside t ok n state l l)))

-- a store inside a record leaves every other record as it was
pub record_of-inside-other : {t : Schema} (xs : List ℕ) (n r o : ℕ) (ys : List ℕ) (k q : ℕ) → SchemaOk t → Inside t n r o (length ys)
    → k < set_count t → InSet (entry_of t k) q → Elsewhere k q n r
    → record_of (splice xs (place_of (entry_of t n) r + o) ys) (entry_of t k) q ≡ record_of xs (entry_of t k) q
record_of-inside-other {t} xs n r o ys k q ok h l in-q d =
    run_splice_out xs (place_of (entry_of t n) r + o) ys (place_of (entry_of t k) q) (entry_of t k).size (inside-off-records n r o (length ys) ok h k q l in-q d)

module _ {t : Schema} (xs : List ℕ) (a : Address) (k q : ℕ) (ok : SchemaOk t) (l : k < set_count t) (in-q : InSet (entry_of t k) q) (d : Elsewhere k q a.set a.at) where
  pub record_of-put_run-other : (ys : List ℕ) → IsAddress t a → Fills t a ys → record_of (put_run t xs a ys) (entry_of t k) q ≡ record_of xs (entry_of t k) q
  record_of-put_run-other ys ia h = record_of-inside-other xs a.set a.at _ ys k q ok (rw (← h) at (address-inside a ok ia)) l in-q d

-- ---- a record stored: the length is kept

module _ {t : Schema} (xs : List ℕ) (n r : ℕ) (ys : List ℕ) (ok : SchemaOk t) (w : IsWhole t n r ys) where
  in_base : length xs ≡ 512 * t.blocks → place_of (entry_of t n) r + length ys ≤ length xs
  in_base e = omega (arith, inside-base n r 0 (length ys) ok (w.0, w.1, omega arith))

  -- ---- the record that was stored

  pub record_of-put_record : length xs ≡ 512 * t.blocks → record_of (put_record t xs n r ys) (entry_of t n) r ≡ ys
  record_of-put_record e = rw (← w.2) (run_splice xs (place_of (entry_of t n) r) ys (in_base e))

  -- ---- every other record

  apart : (k q : ℕ) → k < set_count t → InSet (entry_of t k) q → Elsewhere k q n r
      → Apart (place_of (entry_of t n) r) (length ys) (place_of (entry_of t k) q) (entry_of t k).size
  apart k q l in-q d x y = places-apart k n q r ok l w.0 in-q w.1 d (omega arith) (omega arith)

  pub record_of-put_record-other : (k q : ℕ) → k < set_count t → InSet (entry_of t k) q → Elsewhere k q n r
      → record_of (put_record t xs n r ys) (entry_of t k) q ≡ record_of xs (entry_of t k) q
  record_of-put_record-other k q l in-q d = run_splice_out xs (place_of (entry_of t n) r) ys (place_of (entry_of t k) q) (entry_of t k).size (apart k q l in-q d)

  pub get_run-put_record-other : (a : Address) → IsAddress t a → Elsewhere a.set a.at n r → get_run t (put_record t xs n r ys) a ≡ get_run t xs a
  get_run-put_record-other a ia d =
      run_splice_out xs (place_of (entry_of t n) r) ys (address_at t a) (address_size t a)
      (λ p q. apart a.set a.at ia.0 ia.1 d (omega (arith, address-inside a ok ia)) (omega (arith, address-inside a ok ia)))

  pub get_word-put_record-other : (a : Address) → WordField t a → Elsewhere a.set a.at n r → get_word t (put_record t xs n r ys) a ≡ get_word t xs a
  get_word-put_record-other a ia d =
      word_at-splice xs (place_of (entry_of t n) r) ys (address_at t a)
      (λ p q. apart a.set a.at ia.0.0 ia.0.1 d (omega (arith, address-inside a ok ia.0)) (omega (arith, address-inside a ok ia.0)))

  pub state_of-put_record-other : (k q : ℕ) → k < set_count t → InSet (entry_of t k) q → Elsewhere k q n r
      → state_of (put_record t xs n r ys) (entry_of t k) q ≡ state_of xs (entry_of t k) q
  state_of-put_record-other k q l in-q d =
      let one = field-inside t ok k state l l in
      get_d_splice_out xs (place_of (entry_of t n) r) ys (place_of (entry_of t k) q) (λ x y. apart k q l in-q d (omega arith) (omega arith))
