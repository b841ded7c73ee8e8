-- The ways through the C entries, in the words of what the code read.
use Rattle.std.specs.Prelude.{ℕ, ◌≤◌, ◌<◌, ◌≡◌, Some, None, List, leb, length}
use Rattle.std.proofs.Math.Path.{refl, ap}
use Rattle.std.proofs.Common.{◌∙◌}
use Rattle.std.proofs.Math.Bool.{and-false}
use borrow.Author.Tests.{lt-ltb, le-ltb, le-leb, lt-leb, eq-eqb, ne_eqb}
use Rattle.octets.specs.Octets.{word_at, set_word}
use Rattle.blocks.specs.declared.Check.{Check}
use Rattle.blocks.specs.Blocks.{check_of}
use Rattle.schema.specs.declared.Entry.{Entry}
use Rattle.schema.specs.declared.Schema.{Schema}
use Rattle.schema.specs.Decode.{schema_of, entry_of, set_count, decoded_schema}
use Rattle.schema.specs.Place.{LiesIn, place_of}
use Rattle.schema.proofs.PlaceLaws.{lies_most}
use Rattle.schema.specs.Guarantee.{SchemaOk}
use Rattle.schema.proofs.GuaranteeLaws.{decoded_schema-some, decoded_schema-none, lies}
use Rattle.probes.specs.Probes.{blocks_in, nowhere, place_in_set, place_under, place_in, sealed_alone, seal_alone, seal_answer}

-- ---- a decoded schema

module _ (s : List ℕ) {t : Schema} (e : decoded_schema s ≡ Some t) where
  pub blocks-some : t.blocks ≡ blocks_in s
  unfolding blocks_in schema_of
  blocks-some = let k = decoded_schema-some s e in rw (k.1, k.0) refl

  pub place-some : (i r : ℕ) → place_under t i r ≡ place_in s i r
  unfolding place_in
  place-some i r = let k = decoded_schema-some s e in rw (k.1, k.0) refl

module _ (s : List ℕ) (e : decoded_schema s ≡ None) where
  pub blocks-none : 0 ≡ blocks_in s
  unfolding blocks_in
  blocks-none = rw (decoded_schema-none s e) refl

  pub place_none : (i r : ℕ) → nowhere ≡ place_in s i r
  unfolding place_in
  place_none i r = rw (decoded_schema-none s e) refl

-- ---- a record of a set, a set of a schema

module _ (e : Entry) (r : ℕ) where
  pub set_low : r < 1 → nowhere ≡ place_in_set e r
  unfolding place_in_set
  set_low h = rw (lt-leb 1 r h) refl

  pub set_high : e.records < r → nowhere ≡ place_in_set e r
  unfolding place_in_set
  set_high h = rw (lt-leb r e.records h, and-false (leb 1 r)) refl

  pub set_at : 1 ≤ r → r ≤ e.records → place_of e r ≡ place_in_set e r
  unfolding place_in_set
  set_at h k = rw (le-leb 1 r h, le-leb r e.records k) refl

module _ (t : Schema) (i r : ℕ) where
  pub under_none : set_count t ≤ i → nowhere ≡ place_under t i r
  unfolding place_under
  under_none h = rw (le-ltb i (set_count t) h) refl

  pub under_some : i < set_count t → place_in_set (entry_of t i) r ≡ place_under t i r
  unfolding place_under
  under_some h = rw (lt-ltb i (set_count t) h) refl

module _ (t : Schema) (i : ℕ) (ok : SchemaOk t) (h : i < set_count t) {e : Entry} (q : e ≡ entry_of t i) where
  pub lies-found : LiesIn e 2097152
  lies-found = rw q (lies_most (lies i ok h refl))

  pub under-found : (r : ℕ) {v : ℕ} → v ≡ place_in_set e r → v ≡ place_under t i r
  under-found r k = k ∙ ap (λ (x : Entry). place_in_set x r) q ∙ under_some t i r h

-- ---- one block

module _ (k : Check) (block : List ℕ) (n : ℕ) where
  pub sealed-length : (length block ≡ 512 → ⊥) → 0 ≡ sealed_alone k block n
  unfolding sealed_alone
  sealed-length h = rw (ne_eqb _ _ h) refl

  pub sealed_false : length block ≡ 512 → (word_at block 508 ≡ check_of k block n → ⊥) → 0 ≡ sealed_alone k block n
  unfolding sealed_alone
  sealed_false l h = rw (eq-eqb _ _ l, ne_eqb _ _ h) refl

  pub sealed_true : length block ≡ 512 → word_at block 508 ≡ check_of k block n → 1 ≡ sealed_alone k block n
  unfolding sealed_alone
  sealed_true l h = rw (eq-eqb _ _ l, eq-eqb _ _ h) refl

  pub seal-refused : (length block ≡ 512 → ⊥) → (0 ≡ seal_answer block) × (block ≡ seal_alone k block n)
  unfolding seal_answer seal_alone
  seal-refused h = (rw (ne_eqb _ _ h) refl, rw (ne_eqb _ _ h) refl)

  pub seal-done : length block ≡ 512 → {v : ℕ} {out : List ℕ} → v ≡ check_of k block n → out ≡ set_word block 508 v → (1 ≡ seal_answer block) × (out ≡ seal_alone k block n)
  unfolding seal_answer seal_alone
  seal-done l ev eo = (rw (eq-eqb _ _ l) refl, rw (eq-eqb _ _ l, eo, ev) refl)
