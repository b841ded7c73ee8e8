-- The laws of Layout and Decode: how the counts and the sums of the layout grow, and how what decoding answers is made.
use Rattle.std.specs.Prelude.{ℕ, ◌+◌, ◌*◌, ◌-◌, ◌/◌, ◌%◌, ◌≤◌, ◌<◌, ◌≡◌, Bool, true, false, cond, not, ◌&&◌, List, Some, None, ◌⊎◌, ◌≢◌, eqb, leb, ltb, length, get_or, set, replicate}
use Rattle.std.proofs.Math.Path.{refl}
use Rattle.std.proofs.Common.{sym, ◌∙◌, inl, inr, eq-or-lt_of_le, arith, get_or-set_same, get_or-set_other, ext_get_or}
use Rattle.std.proofs.Math.Bool.{and-false}
use Rattle.std.proofs.Math.ListN.{length-set}
use Rattle.std.proofs.lemmas.List.{get_or-replicate}
use borrow.Author.Tests.{ltb-true, ltb-false, lt-ltb, le-ltb, le-leb, lt-leb, eq-eqb, ne_eqb, not-true, not-false}
use Rattle.octets.specs.Below.{upto, count_below, all_below, sum_below}
use Rattle.octets.specs.BelowLaws.{all_below-turn, all_below-fails, count_below_hit, count_below_miss, count_below_le, sum_below-turn, length-upto, get_d_upto, same?}
use Rattle.octets.specs.TestLaws.{never_both}
use Rattle.schema.specs.Fields.{edition_of, masters_of, variables_of, sets_of, count_of, key_length_of, master_of}
use Rattle.schema.specs.Rules.{is_path_slot, master_of_slot, form_rule}
use Rattle.schema.specs.Formed.{Formed}
use Rattle.schema.specs.Layout.{links_before, links_to, path_key_length, key_place, body_place, length_of, blocks_of, first_block, total_blocks, size_rule, keeps_rules}
use Rattle.schema.proofs.RuleFacts.{slot-entry}
use Rattle.schema.proofs.LayoutLaws.{key_above, body_master, body_variable, per-some}
use Rattle.schema.specs.Decode.{empty_entry, entry_from, schema_of, decoded_schema, full_entry}
use Rattle.schema.specs.declared.Entry.{Entry}
use Rattle.decode.specs.declared.build.Links.{Links}
use Rattle.decode.specs.Decoding.{Counted, PathAt}

-- ---- the paths to each master, counted over the first q slots

-- the path in a slot of a set leads to one of the masters
pub slot-master : (s : List ℕ) (q : ℕ) → Formed s → q < 4 * sets_of s → is_path_slot s q ≡ true → master_of_slot s q < masters_of s
slot-master s q f h e = (f.set (q / 4) (omega arith)).leads (q % 4) (ltb-true (q % 4) (count_of s (q / 4)) e)

-- so one of four
pub slot_low : (s : List ℕ) (q : ℕ) {u : Bool} {m : ℕ} → Formed s → q < 4 * sets_of s → u ≡ is_path_slot s q → u ≡ true → m ≡ master_of_slot s q → m < 4
slot_low s q f h e t k = rw k (omega (arith, slot-master s q f h (sym e ∙ t), f.head))

pub path_at : (s : List ℕ) (i j : ℕ) → Formed s → i < sets_of s → j < count_of s i → PathAt s i j
path_at s i j f h k =
    record {
      long = f.long;
      set = omega (arith, f.head);
      slot = omega (arith, (f.set i h).few);
      leads = omega (arith, f.head, (f.set i h).leads j k);
    }

-- what slot q adds to the paths to master m
module _ (s : List ℕ) (m q : ℕ) where
  abbrev leads : ℕ → Bool
  leads p = is_path_slot s p && eqb (master_of_slot s p) m

  pub links_le : links_before s m q ≤ q
  unfolding links_before
  links_le = count_below_le leads q

  links_unused : is_path_slot s q ≡ false → links_before s m (q + 1) ≡ links_before s m q
  unfolding links_before
  links_unused e = count_below_miss leads q (rw e refl)

  links-other : (master_of_slot s q ≡ m → ⊥) → links_before s m (q + 1) ≡ links_before s m q
  unfolding links_before
  links-other h = count_below_miss leads q (rw (ne_eqb _ _ h) (and-false (is_path_slot s q)))

  links-one : is_path_slot s q ≡ true → master_of_slot s q ≡ m → links_before s m (q + 1) ≡ links_before s m q + 1
  unfolding links_before
  links-one e h = count_below_hit leads q (rw (e, eq-eqb _ _ h) refl)

-- the counts before the first slot
pub counted_none : (s : List ℕ) → Counted s 0 (record { number = replicate 32 0; total = replicate 4 0 })
unfolding links_before count_below
counted_none s =
    record {
      slots = refl;
      masters = refl;
      number = λ p h e. absurd (omega arith);
      total = λ m h. get_or-replicate 4 m 0 0 h;
    }

-- the slots below q + 1 are those below q, and q
last_or_below : (p q : ℕ) → p < q + 1 → (p ≡ q) ⊎ (p < q)
last_or_below p q h = eq-or-lt_of_le {n = p} {m = q} (omega arith)

-- one slot further, past one with no path
pub counted_unused : (s : List ℕ) (q : ℕ) (l : Links) {u : Bool} → Counted s q l → u ≡ is_path_slot s q → not u ≡ true → Counted s (q + 1) l
counted_unused s q l {u} c e n =
    record {
      slots = c.slots;
      masters = c.masters;
      number = λ p h t. c.number p (go p (last_or_below p q h) t) t;
      total = λ m h. c.total m h ∙ sym (links_unused s m q none);
    } where
      none : is_path_slot s q ≡ false
      none = sym e ∙ not-true u n

      go : (p : ℕ) → (p ≡ q) ⊎ (p < q) → is_path_slot s p ≡ true → p < q
      go p (inl i) t = absurd (never_both (is_path_slot s q) (rw i at t) none)
      go p (inr h) t = h

-- and past one with a path: the path's number is the count so far of the paths to its master, which grows by one
module _ (s : List ℕ) (q : ℕ) (l : Links) {u : Bool} {m n : ℕ} (c : Counted s q l) (e : u ≡ is_path_slot s q) (t : not u ≡ false)
    (em : m ≡ master_of_slot s q) (en : n ≡ get_or l.total m 0) (few : q < 32) (low : m < 4) where
  counted_so_far : n ≡ links_before s (master_of_slot s q) q
  counted_so_far = en ∙ c.total m low ∙ rw em refl

  counted-number : (p : ℕ) → (p ≡ q) ⊎ (p < q) → is_path_slot s p ≡ true → get_or (set l.number q n) p 0 ≡ links_before s (master_of_slot s p) p
  counted-number p (inl i) a = rw (i, get_or-set_same l.number q n 0 (omega (arith, c.slots))) counted_so_far
  counted-number p (inr h) a =
      let o : p ≢ q = omega arith in
      get_or-set_other l.number q p n 0 o ∙ c.number p h a

  counted-total : (k : ℕ) → k < 4 → (k ≡ m) ⊎ (k ≡ m → ⊥) → get_or (set l.total m (n + 1)) k 0 ≡ links_before s k (q + 1)
  counted-total k h (inl i) =
      rw (i, get_or-set_same l.total m (n + 1) 0 (omega (arith, c.masters)), links-one s m q (sym e ∙ not-false u t) (sym em), ← c.total m low, ← en) refl
  counted-total k h (inr o) =
      get_or-set_other l.total m k (n + 1) 0 o ∙ c.total k h ∙ sym (links-other s k q (λ i. o (sym (em ∙ i))))

  pub counted-used : Counted s (q + 1) (record { number = set l.number q n; total = set l.total m (n + 1) })
  counted-used =
      record {
        slots = length-set l.number q n ∙ c.slots;
        masters = length-set l.total m (n + 1) ∙ c.masters;
        number = λ p h. counted-number p (last_or_below p q h);
        total = λ k h. counted-total k h (same? k m);
      }

-- ---- places in a record

pub key_place-turn : (s : List ℕ) (i k : ℕ) {at len : ℕ} → at ≡ key_place s i k → len ≡ path_key_length s i k → at + (len + 8) ≡ key_place s i (k + 1)
unfolding key_place
key_place-turn s i k a e = rw (a, e, sum_below-turn (λ n. path_key_length s i n + 8) k) (omega arith)

-- where the D bytes stand, for either kind
pub body_of_master : (s : List ℕ) (i : ℕ) {n r : ℕ} → i < masters_of s → n ≡ links_to s i → r ≡ 12 + key_length_of s i + 8 * n → (r ≡ body_place s i) × (4 ≤ r)
body_of_master s i h e q = omega (arith, body_master s i h)

pub body_of_variable : (s : List ℕ) (i : ℕ) {n r : ℕ} → masters_of s ≤ i → n ≡ count_of s i → r ≡ key_place s i n → (r ≡ body_place s i) × (4 ≤ r)
body_of_variable s i {n} h e q = (rw (body_variable s i h, ← e) q, omega (arith, key_above s i n))

-- the number of path j of set i among those to its master
pub path_number : (s : List ℕ) (i j : ℕ) (l : Links) → Counted s (4 * sets_of s) l → i < sets_of s → j < count_of s i → j < 4
    → get_or l.number (4 * i + j) 0 ≡ links_before s (master_of s i j) (4 * i + j)
path_number s i j l c h k few =
    let d = slot-entry i j few in
    let t : is_path_slot s (4 * i + j) ≡ true = rw (d.0, d.1) (lt-ltb j (count_of s i) k) in
    c.number (4 * i + j) (omega arith) t ∙ rw (d.0, d.1) refl

-- ---- arrays that are filled place by place, over a value that stands in every place at first

module _ {ℓ} {A : Type ℓ} (f : ℕ → A) (e : A) where
  -- the first n places are filled
  abbrev pub filled : ℕ → ℕ → A
  filled n k = cond (ltb k n) (f k) e

  filled-other : (i k : ℕ) → (k ≡ i → ⊥) → (t : Bool) → ltb k i ≡ t → filled i k ≡ filled (i + 1) k
  filled-other i k o true q = rw (q, lt-ltb k (i + 1) (omega (arith, ltb-true k i q))) refl
  filled-other i k o false q =
      let h : i ≤ k = ltb-false k i q in
      let n : k ≢ i = o in
      rw (q, le-ltb k (i + 1) (omega arith)) refl

  filled_at : (n i k : ℕ) → i < n → k < n → (k ≡ i) ⊎ (k ≡ i → ⊥) → get_or (set (upto (filled i) n) i (f i)) k e ≡ get_or (upto (filled (i + 1)) n) k e
  filled_at n i k h l (inl q) =
      rw (q, get_or-set_same (upto (filled i) n) i (f i) e (rw (length-upto (filled i) n) h), get_d_upto (filled (i + 1)) n i e h, lt-ltb i (i + 1) (omega arith)) refl
  filled_at n i k h l (inr o) =
      get_or-set_other (upto (filled i) n) i k (f i) e o
      ∙ get_d_upto (filled i) n k e l
      ∙ filled-other i k o (ltb k i) refl
      ∙ sym (get_d_upto (filled (i + 1)) n k e l)

  -- a turn of a loop that fills the next place
  pub fill_next : (n i : ℕ) {xs : List A} {v : A} → i < n → xs ≡ upto (filled i) n → v ≡ f i → set xs i v ≡ upto (filled (i + 1)) n
  fill_next n i {xs} {v} h p q =
      rw (p, q)
      (ext_get_or e (set (upto (filled i) n) i (f i)) (upto (filled (i + 1)) n)
      (length-set (upto (filled i) n) i (f i) ∙ length-upto (filled i) n ∙ sym (length-upto (filled (i + 1)) n))
      (λ k l. filled_at n i k h (rw (length-set, length-upto) at l) (same? k i)))

-- ---- the sets, one after the other

-- "L the record length, at most 508"
abbrev pub fits : List ℕ → ℕ → Bool
fits s i = leb (length_of s i) 508

-- the first i sets are laid out, and the next begins in block `first`
pub record LaidOut (s : List ℕ) (i first : ℕ) (entries : List Entry) : Type 0 where
  pub eight : length entries ≡ 8
  pub made : entries ≡ upto (filled (full_entry s) empty_entry i) 8
  pub short : all_below (fits s) i ≡ true
  pub next : first ≡ first_block s i
  pub bound : first ≤ 131069 * i

pub laid_none : (s : List ℕ) {e : Entry} → e ≡ empty_entry → LaidOut s 0 0 (replicate 8 e)
unfolding all_below first_block sum_below
laid_none s q = record { eight = refl; made = rw q refl; short = refl; next = refl; bound = omega arith }

module _ (s : List ℕ) (i : ℕ) {e : Entry} (q : e ≡ full_entry s i) where
  -- a set whose records fit into a block has its count of blocks
  pub blocks_ready : Formed s → i < sets_of s → e.size ≤ 508 → (e.records ≤ 65535) × (1 ≤ e.per)
  blocks_ready f h l = rw q ((f.set i h).many, per-some s i (rw q at l))

  pub laid_next : {first b : ℕ} {entries : List Entry} → LaidOut s i first entries → i < 8 → e.size ≤ 508
      → (b ≡ (e.records + (e.per - 1)) / e.per) × (b ≤ 131069) → LaidOut s (i + 1) (first + b) (set entries i e)
  unfolding first_block
  laid_next {first} {b} {entries} d h l k =
      record {
        eight = length-set entries i e ∙ d.eight;
        made = fill_next (full_entry s) empty_entry 8 i h d.made q;
        short = all_below-turn (fits s) i d.short (le-leb (length_of s i) 508 (rw q at l));
        next = rw (d.next, k.0, q, sum_below-turn (blocks_of s) i) refl;
        bound = omega (arith, d.bound, k.1);
      }

  -- the ways out
  pub too_long : i < sets_of s → 508 < e.size → None ≡ decoded_schema s
  unfolding decoded_schema keeps_rules size_rule
  too_long h l =
      rw (all_below-fails (fits s) (sets_of s) i h (lt-leb (length_of s i) 508 (rw q at l)), and-false (form_rule s)) refl

module _ (s : List ℕ) {first : ℕ} {entries : List Entry} (d : LaidOut s (sets_of s) first entries) where
  pub too_many : 4096 < first → None ≡ decoded_schema s
  unfolding decoded_schema keeps_rules size_rule
  too_many l =
      rw (d.short, lt-leb (total_blocks s) 4096 (rw d.next at l), and-false (form_rule s)) refl

  pub laid-all : form_rule s ≡ true → first ≤ 4096
      → Some (record { edition = edition_of s; masters = masters_of s; variables = variables_of s; blocks = first; entries = entries }) ≡ decoded_schema s
  unfolding decoded_schema keeps_rules size_rule schema_of entry_from
  laid-all f l =
      rw (f, d.short, le-leb (total_blocks s) 4096 (rw d.next at l), d.next, d.made) refl

pub no_form : (s : List ℕ) {b : Bool} → b ≡ form_rule s → not b ≡ true → None ≡ decoded_schema s
unfolding decoded_schema keeps_rules
no_form s {b} e n = rw (← e, not-true b n) refl
