-- A schema that keeps the rules guarantees what Guarantee says: the decoded value's fields are the definitions of Fields and Layout
-- (set_is, path_is), and RuleFacts and LayoutLaws have what is true of those.
use Rattle.std.specs.Prelude.{ℕ, ◌+◌, ◌*◌, ◌-◌, ◌/◌, ◌≤◌, ◌<◌, ◌≡◌, refl, ◌⊎◌, Bool, true, false, cond, Some, None, List, [], ◌∷◌}
use Rattle.std.proofs.Common.{sym, ap, ◌∙◌, inl, inr, arith, lt-ltb}
use Rattle.octets.specs.Octets.{Apart, byte_at, word_at, word_bytes}
use Rattle.octets.specs.SpliceLaws.{drop-one, drop-four}
use Rattle.octets.specs.WordLaws.{bytes-word4}
use Rattle.octets.specs.RunLaws.{eq_same_bytes}
use Rattle.octets.specs.BelowLaws.{length-upto, get_d_upto}
use Rattle.octets.specs.TestLaws.{never_both}
use Rattle.schema.specs.declared.Schema.{Schema}
use Rattle.schema.specs.Fields.{masters_of, sets_of, entry_at, slot_at, name_of, count_of, records_of, letters_of, master_of}
use Rattle.schema.specs.Layout.{link_place, per_block, first_block, keeps_rules}
use Rattle.schema.specs.Decode.{no_path, no_entry, entry_of, path_of, set_count, full_path, path_from, full_entry, entry_from, schema_of, decoded_schema}
use Rattle.schema.specs.Guarantee.{SetOk, MasterOk, VariableOk, PathOk, IsPathOf, SchemaOk}
use Rattle.schema.proofs.PlaceLaws.{order?, div_mono, place_in_block, records-apart}
use Rattle.schema.specs.Place.{InSet, block_of, place_of, LiesIn}
use Rattle.schema.proofs.RuleFacts.{head_facts, total-blocks, set_facts, name-facts, master-facts, variable-facts, path_facts, names-differ, letters-differ}
use Rattle.schema.proofs.LayoutLaws.{key_above, keys_ordered, body_variable, body_master, link-above, link-inside, links-ordered, per-some, per-whole, blocks_last, sets_ordered}

-- ---- the decoded value, field by field

pub set_is : (s : List ℕ) (i : ℕ) → sets_of s ≤ 8 → i < sets_of s → entry_of (schema_of s) i ≡ full_entry s i
unfolding schema_of entry_from
set_is s i e l = get_d_upto (entry_from s) 8 i no_entry (omega arith) ∙ (rw (lt-ltb i (sets_of s) l))

pub path_is : (s : List ℕ) (i j : ℕ) → count_of s i ≤ 4 → j < count_of s i → path_of (full_entry s i) j ≡ full_path s i j
unfolding path_from
path_is s i j f l = get_d_upto (path_from s i) 4 j no_path (omega arith) ∙ (rw (lt-ltb j (count_of s i) l))

module _ (s : List ℕ) (kept : keeps_rules s ≡ true) where
  the_set : (i : ℕ) → i < sets_of s → entry_of (schema_of s) i ≡ full_entry s i
  the_set i l = set_is s i (omega (arith, head_facts s kept)) l

  the_path : (i j : ℕ) → i < sets_of s → j < count_of s i → path_of (full_entry s i) j ≡ full_path s i j
  the_path i j l c = path_is s i j (set_facts s kept i l).few c

  set_ok : (i : ℕ) → i < sets_of s → SetOk (schema_of s) (full_entry s i)
  unfolding schema_of
  set_ok i l =
      let f = set_facts s kept i l in
      let p = per-some s i f.fits in
      record {
        edition = refl;
        some = f.some;
        many = f.many;
        per = p;
        whole = per-whole s i;
        sized = refl;
        four = length-upto (path_from s i) 4;
        inside = omega (arith, blocks_last s i p f.some, sets_ordered s i (sets_of s) l);
      }

  master-ok : (i : ℕ) → i < masters_of s → MasterOk (full_entry s i)
  master-ok i l =
      let f = master-facts s kept i l in
      record { kind = f.kind; none = f.none; key_least = f.key_least; key_most = f.key_most; room = omega (arith, body_master s i l) }

  variable-ok : (i : ℕ) → masters_of s ≤ i → i < sets_of s → VariableOk (full_entry s i)
  variable-ok i m l =
      let f = variable-facts s kept i m l in
      record {
        kind = f.kind;
        some = f.some;
        few = f.few;
        no_key = f.no_key;
        ordered = λ j k h c. rw (the_path i j l (omega arith), the_path i k l c) (keys_ordered s i j k h);
      }

  -- what `IsPathOf` says in the words of the schema's bytes
  spelt : (i j : ℕ) → IsPathOf (schema_of s) i j → (masters_of s ≤ i) × (i < sets_of s) × (j < count_of s i)
  unfolding schema_of
  spelt i j h = let l : i < sets_of s = h.1 in (h.0, l, rw (the_set i l) at h.2)

  path_ok : (i j : ℕ) → masters_of s ≤ i → i < sets_of s → j < count_of s i → PathOk (schema_of s) (full_entry s i) (full_path s i j)
  unfolding schema_of
  path_ok i j m l c =
      let led = path_facts s kept i j l c in
      let k = master-facts s kept (master_of s i j) led in
      let e = the_set (master_of s i j) (omega arith) in
      record {
        master = led;
        letters = refl;
        same_key = rw e;
        key_least = k.key_least;
        key_most = k.key_most;
        above = key_above s i j;
        inside = rw (body_variable s i m) (keys_ordered s i j (count_of s i) c);
        link-above = link-above s i j;
        link-inside = rw e (link-inside s i j c (set_facts s kept i l).few l led);
      }

  -- two paths are two slots, and one slot comes before the other
  links-apart : (i j k l : ℕ) → i < sets_of s → j < count_of s i → k < sets_of s → l < count_of s k → ((i ≡ k) × (j ≡ l) → ⊥) → master_of s i j ≡ master_of s k l
      → Apart (link_place s i j) 8 (link_place s k l) 8
  links-apart i j k l li cj lk cl h e p q = go (order? (4 * i + j) (4 * k + l))
    where
      few : (n : ℕ) → n < sets_of s → count_of s n ≤ 4
      few n m = (set_facts s kept n m).few

      go : (4 * i + j < 4 * k + l) ⊎ (4 * i + j ≡ 4 * k + l) ⊎ (4 * k + l < 4 * i + j) → ⊥
      go (inl o) = omega (arith, links-ordered s i j cj (few i li) k l o e)
      go (inr (inl o)) = h (omega (arith, few i li, few k lk), omega (arith, few i li, few k lk))
      go (inr (inr o)) = omega (arith, links-ordered s k l cl (few k lk) i j o (sym e))

  -- a name read as a word is the name read as four bytes
  name-word : (i : ℕ) → i < sets_of s → name_of s i ≡ word_bytes (word_at s (entry_at i))
  unfolding word_at
  name-word i l =
      let f = name-facts s kept i l in
      let h = head_facts s kept in
      rw (drop-four s (entry_at i) (omega arith)) (sym (bytes-word4 _ _ _ _ f.name0 f.name1 f.name2 f.name3))

  letters-bytes : (i j : ℕ) → i < sets_of s → j < count_of s i → letters_of s i j ≡ byte_at s (slot_at i j) ∷ byte_at s (slot_at i j + 1) ∷ []
  letters-bytes i j l c =
      let h = head_facts s kept in
      let f = set_facts s kept i l in
      rw (drop-one s (slot_at i j) (omega arith), drop-one s (slot_at i j + 1) (omega arith)) refl

  sets_apart : (i k : ℕ) → i < k → k < sets_of s → first_block s i + (records_of s i - 1) / per_block s i < first_block s k
  sets_apart i k l m =
      let f = set_facts s kept i (omega arith) in
      omega (arith, blocks_last s i (per-some s i f.fits) f.some, sets_ordered s i k l)

  -- a name is a word
  name-small : (i : ℕ) → i < sets_of s → word_at s (entry_at i) < 4294967296
  unfolding word_at
  name-small i l = omega (arith, name-facts s kept i l)

  names_apart : (i k : ℕ) → i < k → k < sets_of s → word_at s (entry_at i) ≡ word_at s (entry_at k) → ⊥
  names_apart i k l m e =
      never_both _ (eq_same_bytes (name_of s i) (name_of s k) (name-word i (omega arith) ∙ ap word_bytes e ∙ sym (name-word k m))) (names-differ s kept i k l m)

  letters-apart : (i j k : ℕ) → j < k → i < sets_of s → k < count_of s i → (full_path s i j).letters ≡ (full_path s i k).letters → ⊥
  letters-apart i j k l m c e =
      letters-differ s kept i j k l m c (eq_same_bytes (letters_of s i j) (letters_of s i k) (letters-bytes i j m (omega arith) ∙ e ∙ sym (letters-bytes i k m c)))

  pub guaranteed : SchemaOk (schema_of s)
  unfolding schema_of
  guaranteed =
      let f = head_facts s kept in
      record {
        some-masters = f.some-masters;
        few-masters = f.few-masters;
        few-variables = f.few-variables;
        eight = length-upto (entry_from s) 8;
        blocks = total-blocks s kept;
        set = λ i l. rw (the_set i l) (set_ok i l);
        master = λ i l. rw (the_set i (omega arith)) (master-ok i l);
        variable = λ i m l. rw (the_set i l) (variable-ok i m l);
        path = λ i j h. let d = spelt i j h in rw (the_set i d.1, the_path i j d.1 d.2) (path_ok i j d.0 d.1 d.2);
        sets_apart = λ i k l m. rw (the_set i (omega arith), the_set k m) (sets_apart i k l m);
        links-apart = λ i j k l p q.
            let d = spelt i j p in
            let g = spelt k l q in
            rw (the_set i d.1, the_path i j d.1 d.2, the_set k g.1, the_path k l g.1 g.2) (links-apart i j k l d.1 d.2 g.1 g.2);
        words = λ i l. rw (the_set i l) (name-small i l);
        names = λ i k l m. rw (the_set i (omega arith), the_set k m) (names_apart i k l m);
        letters = λ i j k l h.
            let d = spelt i k h in
            rw (the_set i d.1, the_path i j d.1 (omega arith), the_path i k d.1 d.2) (letters-apart i j k l d.1 d.2);
      }

-- ---- in the words of later rooms

-- what decoding answers
some_kept : (b : Bool) (u : Schema) {t : Schema} → cond b (Some u) None ≡ Some t → (b ≡ true) × (t ≡ u)
some_kept true u h = (refl, cc)
some_kept false u h = cc

none_kept : (b : Bool) (u : Schema) → cond b (Some u) None ≡ None → b ≡ false
none_kept true u h = cc
none_kept false u h = refl

pub decoded_schema-some : (s : List ℕ) {t : Schema} → decoded_schema s ≡ Some t → (keeps_rules s ≡ true) × (t ≡ schema_of s)
unfolding decoded_schema
decoded_schema-some s h = some_kept (keeps_rules s) (schema_of s) h

pub decoded_schema-none : (s : List ℕ) → decoded_schema s ≡ None → keeps_rules s ≡ false
unfolding decoded_schema
decoded_schema-none s h = none_kept (keeps_rules s) (schema_of s) h

-- and so what decoding calls a schema
pub decoded_ok : (s : List ℕ) {t : Schema} → decoded_schema s ≡ Some t → SchemaOk t
decoded_ok s h = let k = decoded_schema-some s h in rw k.1 (guaranteed s k.0)

-- every set lies in a base of T blocks
pub lies : {t : Schema} {n : ℕ} (i : ℕ) → SchemaOk t → i < set_count t → n ≡ 512 * t.blocks → LiesIn (entry_of t i) n
lies i ok l e =
    let f = ok.set i l in
    record { per = f.per; whole = f.whole; sized = f.sized; many = f.many; inside = omega arith; small = omega arith }

-- a record of an earlier set stands in an earlier block
sets_before : {t : Schema} (i k r q : ℕ) → SchemaOk t → i < k → k < set_count t → InSet (entry_of t i) r → block_of (entry_of t i) r < block_of (entry_of t k) q
unfolding block_of
sets_before {t} i k r q ok l m in-r =
    omega (arith, ok.sets_apart i k l m, div_mono (r - 1) ((entry_of t i).records - 1) (entry_of t i).per (ok.set i (omega arith)).per (omega arith))

-- any two records of the base have no place in common
pub places-apart : {t : Schema} (i k r q : ℕ) → SchemaOk t → i < set_count t → k < set_count t → InSet (entry_of t i) r → InSet (entry_of t k) q
    → ((i ≡ k) × (r ≡ q) → ⊥) → Apart (place_of (entry_of t i) r) (entry_of t i).size (place_of (entry_of t k) q) (entry_of t k).size
places-apart {t} i k r q ok li lk in-r in-q h a b = go (order? i k)
  where
    of_i : LiesIn (entry_of t i) (512 * t.blocks)
    of_i = lies i ok li refl

    of_k : LiesIn (entry_of t k) (512 * t.blocks)
    of_k = lies k ok lk refl

    go : (i < k) ⊎ (i ≡ k) ⊎ (k < i) → ⊥
    go (inl l) = omega (arith, sets_before i k r q ok l lk in-r, place_in_block r of_i, place_in_block q of_k)
    go (inr (inl e)) = records-apart r q of_i in-r (rw (← e) at in-q) (λ d. h (e, d)) (rw (← e) at a) (rw (← e) at b)
    go (inr (inr l)) = omega (arith, sets_before k i q r ok l li in-q, place_in_block r of_i, place_in_block q of_k)
