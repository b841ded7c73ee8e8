-- Where addresses lie: each inside its record, in front of its block's check, and no two on one another. Two addresses differ by their set, by
-- their record or by their field, and each of the three keeps them apart.
use Rattle.std.specs.Prelude.{ℕ, ◌+◌, ◌*◌, ◌≤◌, ◌<◌, ◌≡◌, refl, ◌≢◌, false, eqb}
use Rattle.std.proofs.Common.{ap, arith}
use Rattle.std.proofs.Math.Decide.{ℕ_discrete}
use Rattle.std.proofs.lemmas.Bool.{eqb-false}
use Rattle.octets.specs.Octets.{Apart}
use Rattle.blocks.specs.Blocks.{check_at}
use Rattle.schema.specs.declared.Schema.{Schema}
use Rattle.schema.specs.Decode.{entry_of, set_count}
use Rattle.schema.specs.Place.{InSet, place_of, LiesIn}
use Rattle.schema.specs.Guarantee.{SchemaOk}
use Rattle.schema.proofs.PlaceLaws.{place_in_block, place_inside}
use Rattle.schema.proofs.GuaranteeLaws.{lies, places-apart}
use Rattle.records.specs.Address.{Field, state, root-next, root-prior, own_key, body, key, prior, next, first, last, Address, address, offset_of, size_of, HasField, IsAddress, address_at, address_size}
use Rattle.records.proofs.FieldPlaces.{field-inside, fields-apart}

-- what tells two addresses apart
abbrev pub other_set : (n m r q : ℕ) (f g : Field) → n ≢ m → address n r f ≢ address m q g
other_set n m r q f g d e = d (ap (λ (a : Address). a.set) e)

abbrev pub other_record : (n m r q : ℕ) (f g : Field) → r ≢ q → address n r f ≢ address m q g
other_record n m r q f g d e = d (ap (λ (a : Address). a.at) e)

abbrev pub other_field : (n m r q : ℕ) (f g : Field) → f ≢ g → address n r f ≢ address m q g
other_field n m r q f g d e = d (ap (λ (a : Address). a.field) e)

-- fields of two kinds: the test computes, so that a tactic closes it (these laws are `abbrev`s so that a rule set can hold them)
abbrev pub field_kind : Field → ℕ
field_kind state = 0
field_kind root-next = 1
field_kind root-prior = 2
field_kind own_key = 3
field_kind body = 4
field_kind (key j) = 5
field_kind (prior j) = 6
field_kind (next j) = 7
field_kind (first i j) = 8
field_kind (last i j) = 9

abbrev pub other_kind : (n m r q : ℕ) (f g : Field) → eqb (field_kind f) (field_kind g) ≡ false → address n r f ≢ address m q g
other_kind n m r q f g d = other_field n m r q f g (λ e. eqb-false (field_kind f) (field_kind g) d (ap field_kind e))

pub ruleset differ = (other_set, other_record, other_kind)

-- ---- runs inside a record

-- m bytes from byte o of record r of set n on, all inside the record
abbrev pub Inside : Schema → ℕ → ℕ → ℕ → ℕ → Type 0
Inside t n r o m = (n < set_count t) × InSet (entry_of t n) r × (o + m ≤ (entry_of t n).size)

module _ {t : Schema} (n r o m : ℕ) (ok : SchemaOk t) (h : Inside t n r o m) where
  in_base : LiesIn (entry_of t n) (512 * t.blocks)
  in_base = lies n ok h.0 refl

  -- they lie in the base
  pub inside-base : place_of (entry_of t n) r + o + m ≤ 512 * t.blocks
  inside-base = omega (arith, place_inside r in_base h.1)

  -- they touch no check
  pub inside-off_checks : (k : ℕ) → Apart (check_at k) 4 (place_of (entry_of t n) r + o) m
  inside-off_checks k p q = omega (arith, place_in_block r in_base)

  -- they touch no other record
  pub inside-off-records : (k q : ℕ) → k < set_count t → InSet (entry_of t k) q → ((k ≡ n) × (q ≡ r) → ⊥)
      → Apart (place_of (entry_of t n) r + o) m (place_of (entry_of t k) q) (entry_of t k).size
  inside-off-records k q l in-q d x y = places-apart k n q r ok l h.0 in-q h.1 d (omega arith) (omega arith)

-- ---- addresses

module _ {t : Schema} (a : Address) (ok : SchemaOk t) (ia : IsAddress t a) where
  -- an address lies in its record
  pub address-inside : Inside t a.set a.at (offset_of t (entry_of t a.set) a.field) (address_size t a)
  address-inside = (ia.0, ia.1, field-inside t ok a.set a.field ia.0 ia.2)

  pub address-base : address_at t a + address_size t a ≤ 512 * t.blocks
  address-base = inside-base a.set a.at _ _ ok address-inside

  pub address-off_checks : (k : ℕ) → Apart (check_at k) 4 (address_at t a) (address_size t a)
  address-off_checks k = inside-off_checks a.set a.at _ _ ok address-inside k

-- two addresses of one record
one_record : {t : Schema} (n r : ℕ) (f g : Field) → SchemaOk t → n < set_count t → HasField t n f → HasField t n g → f ≢ g
    → Apart (place_of (entry_of t n) r + offset_of t (entry_of t n) f) (size_of t (entry_of t n) f) (place_of (entry_of t n) r + offset_of t (entry_of t n) g) (size_of t (entry_of t n) g)
one_record {t} n r f g ok l hf hg d p q = fields-apart t ok n f g l hf hg d (omega arith) (omega arith)

pub addresses_apart : {t : Schema} (a b : Address) → SchemaOk t → IsAddress t a → IsAddress t b → a ≢ b
    → Apart (address_at t a) (address_size t a) (address_at t b) (address_size t b)
addresses_apart {t} a b ok ia ib d = go (ℕ_discrete a.set b.set) (ℕ_discrete a.at b.at)
  where
    elsewhere : ((a.set ≡ b.set) × (a.at ≡ b.at) → ⊥) → Apart (address_at t a) (address_size t a) (address_at t b) (address_size t b)
    elsewhere h p q =
        places-apart a.set b.set a.at b.at ok ia.0 ib.0 ia.1 ib.1 h (omega (arith, address-inside a ok ia, address-inside b ok ib))
        (omega (arith, address-inside a ok ia, address-inside b ok ib))

    go : Dec (a.set ≡ b.set) → Dec (a.at ≡ b.at) → Apart (address_at t a) (address_size t a) (address_at t b) (address_size t b)
    go (yes e) (yes k) =
        rw (e, k) (one_record b.set b.at a.field b.field ok ib.0 (rw e at ia.2) ib.2 (λ f. d (λ i. record { set = e i; at = k i; field = f i })))
    go (yes e) (no k) = elsewhere (λ h. k h.1)
    go (no e) (yes k) = elsewhere (λ h. e h.0)
    go (no e) (no k) = elsewhere (λ h. e h.0)
