-- The fields of a record: each lies inside it, and no two have a byte in common.
-- A byte of a record stands in one section of it (the front, a path's fields, a path's linkage fields, the D bytes), and in its section it belongs to
-- one field (`field_in`). So a byte tells its field, and two fields that share a byte are one: that takes a line for each field, not one
-- for each two.
use Rattle.std.specs.Prelude.{ℕ, ◌+◌, ◌*◌, ◌-◌, ◌≤◌, ◌<◌, max, ◌≡◌, refl, ◌≢◌, ◌⊎◌, cond, ltb}
use Rattle.std.proofs.Common.{sym, ap, ap₂, ◌∙◌, inl, inr, arith, lt-ltb, le-ltb}
use Rattle.std.proofs.Math.Decide.{ℕ_discrete}
use Rattle.octets.specs.Octets.{Apart}
use Rattle.schema.specs.declared.Entry.{Entry}
use Rattle.schema.specs.declared.Schema.{Schema}
use Rattle.schema.specs.Decode.{entry_of, path_of, set_count}
use Rattle.schema.specs.Guarantee.{IsPathOf, SchemaOk}
use Rattle.schema.proofs.PlaceLaws.{order?}
use Rattle.records.specs.Address.{Field, state, root-next, root-prior, own_key, body, key, prior, next, first, last, offset_of, size_of, HasField}

data Section : Type 0 where
  front rear : Section
  path : ℕ → Section
  link : ℕ → ℕ → Section

abbrev section_of : Field → Section
section_of state = front
section_of root-next = front
section_of root-prior = front
section_of own_key = front
section_of body = rear
section_of (key j) = path j
section_of (prior j) = path j
section_of (next j) = path j
section_of (first i j) = link i j
section_of (last i j) = link i j

-- the field to which byte x of a section belongs
abbrev field_in : Schema → Entry → ℕ → Section → Field
field_in t e x front = cond (ltb x 4) state (cond (ltb x 8) root-next (cond (ltb x 12) root-prior own_key))
field_in t e x rear = body
field_in t e x (path j) = cond (ltb x ((path_of e j).at + (path_of e j).len)) (key j) (cond (ltb x ((path_of e j).at + (path_of e j).len + 4)) (prior j) (next j))
field_in t e x (link i j) = cond (ltb x ((path_of (entry_of t i) j).link + 4)) (first i j) (last i j)

-- byte x is one of a field's
abbrev Inside : Schema → Entry → ℕ → Field → Type 0
Inside t e x f = (offset_of t e f ≤ x) × (x < offset_of t e f + size_of t e f)

told : (t : Schema) (e : Entry) (x : ℕ) (f : Field) → Inside t e x f → field_in t e x (section_of f) ≡ f
told t e x state h = rw (lt-ltb x 4 (omega arith))
told t e x root-next h = rw (le-ltb x 4 (omega arith), lt-ltb x 8 (omega arith))
told t e x root-prior h = rw (le-ltb x 4 (omega arith), le-ltb x 8 (omega arith), lt-ltb x 12 (omega arith))
told t e x own_key h = rw (le-ltb x 4 (omega arith), le-ltb x 8 (omega arith), le-ltb x 12 (omega arith))
told t e x body h = refl
told t e x (key j) h = rw (lt-ltb x ((path_of e j).at + (path_of e j).len) (omega arith))
told t e x (prior j) h = rw (le-ltb x ((path_of e j).at + (path_of e j).len) (omega arith), lt-ltb x ((path_of e j).at + (path_of e j).len + 4) (omega arith))
told t e x (next j) h = rw (le-ltb x ((path_of e j).at + (path_of e j).len) (omega arith), le-ltb x ((path_of e j).at + (path_of e j).len + 4) (omega arith))
told t e x (first i j) h = rw (lt-ltb x ((path_of (entry_of t i) j).link + 4) (omega arith))
told t e x (last i j) h = rw (le-ltb x ((path_of (entry_of t i) j).link + 4) (omega arith))

-- where the front ends: a master's with its key, a variable record's with the three zeros
abbrev front_end : Entry → ℕ
front_end e = 4 + 8 * (2 - e.kind) + e.key

-- byte x stands in a section of a record of set n
abbrev InSection : Schema → ℕ → ℕ → Section → Type 0
InSection t n x front = x < front_end (entry_of t n)
InSection t n x rear = (entry_of t n).body ≤ x
InSection t n x (path j) =
    IsPathOf t n j
    × (front_end (entry_of t n) ≤ x)
    × (x < (entry_of t n).body)
    × ((path_of (entry_of t n) j).at ≤ x)
    × (x < (path_of (entry_of t n) j).at + (path_of (entry_of t n) j).len + 8)
InSection t n x (link i j) =
    (IsPathOf t i j × ((path_of (entry_of t i) j).master.0 ≡ n))
    × (front_end (entry_of t n) ≤ x)
    × (x < (entry_of t n).body)
    × ((path_of (entry_of t i) j).link ≤ x)
    × (x < (path_of (entry_of t i) j).link + 8)

-- a field is the D bytes, or has a byte and ends in front of them
abbrev EndsAt : Schema → Entry → Field → Type 0
EndsAt t e f = ((1 ≤ size_of t e f) × (offset_of t e f + size_of t e f ≤ e.body)) ⊎ (f ≡ body)

module _ (t : Schema) (ok : SchemaOk t) (n : ℕ) where
  -- a linkage field in the words of its master
  link-room : (i j : ℕ) → IsPathOf t i j → (path_of (entry_of t i) j).master.0 ≡ n
      → (n < t.masters) × (12 + (entry_of t n).key ≤ (path_of (entry_of t i) j).link) × ((path_of (entry_of t i) j).link + 8 ≤ (entry_of t n).body)
  link-room i j h e =
      let p = ok.path i j h in
      let k = rw e at p.same_key in
      (rw e at p.master, omega (arith, p, k), rw e at p.link-inside)

  within : (x : ℕ) (f : Field) → HasField t n f → Inside t (entry_of t n) x f → InSection t n x (section_of f)
  within x state h g = omega arith
  within x root-next h g = omega (arith, ok.master n h)
  within x root-prior h g = omega (arith, ok.master n h)
  within x own_key h g = omega (arith, ok.master n h)
  within x body h g = omega arith
  within x (key j) h g = let p = ok.path n j h in let v = ok.variable n h.0 h.1 in (h, omega arith, omega arith, omega arith, omega arith)
  within x (prior j) h g = let p = ok.path n j h in let v = ok.variable n h.0 h.1 in (h, omega arith, omega arith, omega arith, omega arith)
  within x (next j) h g = let p = ok.path n j h in let v = ok.variable n h.0 h.1 in (h, omega arith, omega arith, omega arith, omega arith)
  within x (first i j) h g = let l = link-room i j h.0 h.1 in let m = ok.master n l.0 in (h, omega arith, omega arith, omega arith, omega arith)
  within x (last i j) h g = let l = link-room i j h.0 h.1 in let m = ok.master n l.0 in (h, omega arith, omega arith, omega arith, omega arith)

  -- a byte of the front stands before the D bytes
  front_body : n < set_count t → front_end (entry_of t n) ≤ (entry_of t n).body
  front_body l = go (order? n t.masters)
    where
      variable : t.masters ≤ n → front_end (entry_of t n) ≤ (entry_of t n).body
      variable m = let v = ok.variable n m l in omega (arith, v, ok.path n 0 (m, l, omega arith))

      go : (n < t.masters) ⊎ (n ≡ t.masters) ⊎ (t.masters < n) → front_end (entry_of t n) ≤ (entry_of t n).body
      go (inl m) = omega (arith, ok.master n m)
      go (inr (inl m)) = variable (omega arith)
      go (inr (inr m)) = variable (omega arith)

  one_path : (x j k : ℕ) → InSection t n x (path j) → InSection t n x (path k) → j ≡ k
  one_path x j k h g = go (order? j k)
    where
      go : (j < k) ⊎ (j ≡ k) ⊎ (k < j) → j ≡ k
      go (inl l) = absurd (omega (arith, (ok.variable n h.0.0 h.0.1).ordered j k l g.0.2))
      go (inr (inl e)) = e
      go (inr (inr l)) = absurd (omega (arith, (ok.variable n h.0.0 h.0.1).ordered k j l h.0.2))

  one_link : (x i j k l : ℕ) → InSection t n x (link i j) → InSection t n x (link k l) → (i ≡ k) × (j ≡ l)
  one_link x i j k l h g = go (ℕ_discrete i k) (ℕ_discrete j l)
    where
      differ : ((i ≡ k) × (j ≡ l) → ⊥) → ⊥
      differ d = ok.links-apart i j k l h.0.0 g.0.0 d (h.0.1 ∙ sym g.0.1) (omega arith) (omega arith)

      go : Dec (i ≡ k) → Dec (j ≡ l) → (i ≡ k) × (j ≡ l)
      go (yes p) (yes q) = (p, q)
      go (yes p) (no q) = absurd (differ (λ d. q d.1))
      go (no p) (yes q) = absurd (differ (λ d. p d.0))
      go (no p) (no q) = absurd (differ (λ d. p d.0))

  -- a byte stands in one section
  one_section : (x : ℕ) (p q : Section) → n < set_count t → InSection t n x p → InSection t n x q → p ≡ q
  one_section x front front l h g = refl
  one_section x front rear l h g = absurd (omega (arith, front_body l))
  one_section x front (path j) l h g = absurd (omega arith)
  one_section x front (link i j) l h g = absurd (omega arith)
  one_section x rear front l h g = absurd (omega (arith, front_body l))
  one_section x rear rear l h g = refl
  one_section x rear (path j) l h g = absurd (omega arith)
  one_section x rear (link i j) l h g = absurd (omega arith)
  one_section x (path j) front l h g = absurd (omega arith)
  one_section x (path j) rear l h g = absurd (omega arith)
  one_section x (path j) (path k) l h g = ap path (one_path x j k h g)
  one_section x (path j) (link i k) l h g = absurd (omega (arith, link-room i k g.0.0 g.0.1))
  one_section x (link i j) front l h g = absurd (omega arith)
  one_section x (link i j) rear l h g = absurd (omega arith)
  one_section x (link i j) (path k) l h g = absurd (omega (arith, link-room i j h.0.0 h.0.1))
  one_section x (link i j) (link k m) l h g = let e = one_link x i j k m h g in ap₂ link e.0 e.1

  -- and so it belongs to one field
  one_field : (x : ℕ) (f g : Field) → n < set_count t → HasField t n f → HasField t n g → Inside t (entry_of t n) x f → Inside t (entry_of t n) x g → f ≡ g
  one_field x f g l hf hg p q =
      sym (told t (entry_of t n) x f p)
      ∙ ap (field_in t (entry_of t n) x) (one_section x (section_of f) (section_of g) l (within x f hf p) (within x g hg q))
      ∙ told t (entry_of t n) x g q

  ends : (f : Field) → n < set_count t → HasField t n f → EndsAt t (entry_of t n) f
  ends state l h = inl (omega (arith, front_body l))
  ends root-next l h = inl (omega (arith, ok.master n h))
  ends root-prior l h = inl (omega (arith, ok.master n h))
  ends own_key l h = inl (omega (arith, ok.master n h))
  ends body l h = inr refl
  ends (key j) l h = inl (omega (arith, ok.path n j h))
  ends (prior j) l h = inl (omega (arith, ok.path n j h))
  ends (next j) l h = inl (omega (arith, ok.path n j h))
  ends (first i j) l h = inl (omega (arith, link-room i j h.0 h.1))
  ends (last i j) l h = inl (omega (arith, link-room i j h.0 h.1))

  -- a record has its state and the three zeros
  pub record_least : n < set_count t → 4 ≤ (entry_of t n).size
  record_least l = omega (arith, front_body l, (ok.set n l).sized)

  -- every field but the state stands behind the three zeros
  pub field-starts : (f : Field) → n < set_count t → HasField t n f → (f ≡ state) ⊎ (4 ≤ offset_of t (entry_of t n) f)
  field-starts state l h = inl refl
  field-starts root-next l h = inr (omega arith)
  field-starts root-prior l h = inr (omega arith)
  field-starts own_key l h = inr (omega arith)
  field-starts body l h = inr (omega (arith, front_body l))
  field-starts (key j) l h = inr (omega (arith, ok.path n j h))
  field-starts (prior j) l h = inr (omega (arith, ok.path n j h))
  field-starts (next j) l h = inr (omega (arith, ok.path n j h))
  field-starts (first i j) l h = inr (omega (arith, link-room i j h.0 h.1))
  field-starts (last i j) l h = inr (omega (arith, link-room i j h.0 h.1))

  -- every field lies in its record
  pub field-inside : (f : Field) → n < set_count t → HasField t n f → offset_of t (entry_of t n) f + size_of t (entry_of t n) f ≤ (entry_of t n).size
  field-inside f l h = go (ends f l h)
    where
      go : EndsAt t (entry_of t n) f → offset_of t (entry_of t n) f + size_of t (entry_of t n) f ≤ (entry_of t n).size
      go (inl k) = omega (arith, (ok.set n l).sized)
      go (inr e) = rw e (omega (arith, (ok.set n l).sized))

  -- no two fields have a byte in common
  pub fields-apart : (f g : Field) → n < set_count t → HasField t n f → HasField t n g → f ≢ g
      → Apart (offset_of t (entry_of t n) f) (size_of t (entry_of t n) f) (offset_of t (entry_of t n) g) (size_of t (entry_of t n) g)
  fields-apart f g l hf hg d p q = go (ends f l hf) (ends g l hg)
    where
      go : EndsAt t (entry_of t n) f → EndsAt t (entry_of t n) g → ⊥
      go (inl a) (inl b) = d (one_field (max (offset_of t (entry_of t n) f) (offset_of t (entry_of t n) g)) f g l hf hg (omega arith) (omega arith))
      go (inl a) (inr b) = omega (arith, rw b at q)
      go (inr a) (inl b) = omega (arith, rw a at p)
      go (inr a) (inr b) = d (a ∙ sym b)
