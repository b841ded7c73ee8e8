-- Reading and storing by address: what stands at an address after a store to it is what was stored; after a store to another address, or
-- after sealing a block, it is what stood there. Above this room nothing looks at offsets.
-- Each law is named after the reading and the store: get.. -put.. at the same address, get.. -put.. -other at another one.
use Rattle.std.specs.Prelude.{ℕ, ◌*◌, ◌<◌, ◌≡◌, refl, ◌≢◌, List, length}
use Rattle.std.proofs.Common.{ap, arith}
use Rattle.octets.specs.Octets.{word_bytes, set_word}
use Rattle.octets.specs.SpliceLaws.{get_d_splice_out, run_splice, run_splice_out}
use Rattle.octets.specs.WordLaws.{word_at-splice, word_at-set_word, word_at-set_word-other}
use Rattle.blocks.specs.declared.Check.{Check}
use Rattle.blocks.specs.Blocks.{seal}
use Rattle.blocks.specs.Laws.{get_d_seal, word_at-seal-other, run_seal}
use Rattle.schema.specs.declared.Schema.{Schema}
use Rattle.schema.specs.Decode.{entry_of, set_count}
use Rattle.schema.specs.Place.{InSet, place_of}
use Rattle.schema.specs.Guarantee.{SchemaOk}
use Rattle.records.specs.Records.{state_of}
use Rattle.records.specs.Address.{state, Address, IsAddress, address_at, address_size, get_run, get_word, put_run, put_word, address, WordField, Fills}
use Rattle.records.proofs.AddressLaws.{address-base, address-off_checks, addresses_apart}

-- ---- the length is kept

-- ---- a word stored

-- a word is stored as its four bytes
pub put_run-word : (t : Schema) (xs : List ℕ) (a : Address) (v : ℕ) → put_run t xs a (word_bytes v) ≡ put_word t xs a v
unfolding set_word
put_run-word t xs a v = refl

pub get_word-put_word : {t : Schema} (xs : List ℕ) (a : Address) (v : ℕ) → SchemaOk t → length xs ≡ 512 * t.blocks → WordField t a → v < 4294967296
    → get_word t (put_word t xs a v) a ≡ v
get_word-put_word {t} xs a v ok e ia h = word_at-set_word xs (address_at t a) v h (omega (arith, address-base a ok ia.0))

pub get_word-put_word-other : {t : Schema} (xs : List ℕ) (a b : Address) (v : ℕ) → SchemaOk t → WordField t a → WordField t b → b ≢ a
    → get_word t (put_word t xs a v) b ≡ get_word t xs b
get_word-put_word-other {t} xs a b v ok ia ib d =
    word_at-set_word-other xs (address_at t a) v (address_at t b) (λ p q. addresses_apart b a ok ib.0 ia.0 d (omega arith) (omega arith))

-- ---- a run stored

pub get_run-put_run : {t : Schema} (xs : List ℕ) (a : Address) (ys : List ℕ) → SchemaOk t → length xs ≡ 512 * t.blocks → IsAddress t a → Fills t a ys
    → get_run t (put_run t xs a ys) a ≡ ys
get_run-put_run {t} xs a ys ok e ia h = rw (← h) (run_splice xs (address_at t a) ys (omega (arith, address-base a ok ia)))

pub get_run-put_run-other : {t : Schema} (xs : List ℕ) (a b : Address) (ys : List ℕ) → SchemaOk t → IsAddress t a → IsAddress t b → Fills t a ys → b ≢ a
    → get_run t (put_run t xs a ys) b ≡ get_run t xs b
get_run-put_run-other {t} xs a b ys ok ia ib h d =
    run_splice_out xs (address_at t a) ys (address_at t b) (address_size t b) (λ p q. addresses_apart b a ok ib ia d (omega arith) (omega arith))

pub get_word-put_run-other : {t : Schema} (xs : List ℕ) (a b : Address) (ys : List ℕ) → SchemaOk t → IsAddress t a → WordField t b → Fills t a ys → b ≢ a
    → get_word t (put_run t xs a ys) b ≡ get_word t xs b
get_word-put_run-other {t} xs a b ys ok ia ib h d =
    word_at-splice xs (address_at t a) ys (address_at t b) (λ p q. addresses_apart b a ok ib.0 ia d (omega arith) (omega arith))

-- ---- sealing

pub get_word-seal : {t : Schema} (k : Check) (xs : List ℕ) (n : ℕ) (a : Address) → SchemaOk t → WordField t a → get_word t (seal k xs n) a ≡ get_word t xs a
get_word-seal {t} k xs n a ok ia = word_at-seal-other k xs n (address_at t a) (λ p q. address-off_checks a ok ia.0 n (omega arith) (omega arith))

pub get_run-seal : {t : Schema} (k : Check) (xs : List ℕ) (n : ℕ) (a : Address) → SchemaOk t → IsAddress t a → get_run t (seal k xs n) a ≡ get_run t xs a
get_run-seal {t} k xs n a ok ia = run_seal k xs n (address_at t a) (address_size t a) (address-off_checks a ok ia n)

-- ---- the state byte

-- the state of record r of set n has an address of its own
module _ {t : Schema} (xs : List ℕ) (n r : ℕ) (ok : SchemaOk t) (l : n < set_count t) (in_set : InSet (entry_of t n) r) where
  pub state_of-put_run : (a : Address) (ys : List ℕ) → IsAddress t a → Fills t a ys → a.field ≢ state → state_of (put_run t xs a ys) (entry_of t n) r ≡ state_of xs (entry_of t n) r
  state_of-put_run a ys ia h d =
      get_d_splice_out xs (address_at t a) ys (place_of (entry_of t n) r) (λ p q. addresses_apart a (address n r state) ok ia (l, in_set, l) (λ e. d (ap (λ (b : Address). b.field) e)) (omega arith) (omega arith))

  pub state_of-seal : (k : Check) (m : ℕ) → state_of (seal k xs m) (entry_of t n) r ≡ state_of xs (entry_of t n) r
  state_of-seal k m = get_d_seal k xs m (place_of (entry_of t n) r) (λ p q. address-off_checks (address n r state) ok (l, in_set, l) m (omega arith) (omega arith))
