-- What a schema that keeps the rules says, as facts: the Boolean tests of Rules and Layout, read one by one.
use Rattle.std.specs.Prelude.{ℕ, ◌+◌, ◌*◌, ◌/◌, ◌%◌, ◌≤◌, ◌<◌, ◌≡◌, Bool, false, cond, ◌&&◌, ◌||◌, List, eqb, leb, length}
use Rattle.std.proofs.Math.Path.{refl}
use Rattle.std.proofs.Common.{sym, ◌∙◌, true≢false, arith}
use Rattle.std.proofs.Math.Bool.{true, false≢true, and-eq-true_iff}
use borrow.Author.Tests.{leb-true, ltb-true, eqb-true, not-true, lt-ltb, le-ltb, eq-eqb}
use Rattle.octets.specs.Octets.{byte_at, same_bytes}
use Rattle.octets.specs.BelowLaws.{all_below-at}
use Rattle.schema.specs.Fields.{masters_of, variables_of, sets_of, entry_at, name_of, kind_of, count_of, records_of, key_length_of, letters_of, master_of}
use Rattle.schema.specs.Rules.{is_capital, is_capital_or_digit, name_rule, master_rule, variable_rule, set_rule, entry_rule, names_rule, clash, letters_rule, form_rule}
use Rattle.schema.specs.Layout.{length_of, total_blocks, size_rule, keeps_rules}
use Rattle.schema.proofs.FormFacts.{formed, entry_set}
use Rattle.schema.specs.Formed.{Formed}

-- ---- the facts, part by part

pub record HeadFacts (s : List ℕ) : Type 0 where
  pub whole : length s ≡ 512
  pub some-masters : 1 ≤ masters_of s
  pub few-masters : masters_of s ≤ 4
  pub few-variables : variables_of s ≤ 4

pub record SetFacts (s : List ℕ) (i : ℕ) : Type 0 where
  pub some : 1 ≤ records_of s i
  pub many : records_of s i ≤ 65535
  pub few : count_of s i ≤ 4
  pub fits : length_of s i ≤ 508

pub record NameFacts (s : List ℕ) (i : ℕ) : Type 0 where
  pub name0 : byte_at s (entry_at i) < 256
  pub name1 : byte_at s (entry_at i + 1) < 256
  pub name2 : byte_at s (entry_at i + 2) < 256
  pub name3 : byte_at s (entry_at i + 3) < 256

pub record MasterFacts (s : List ℕ) (i : ℕ) : Type 0 where
  pub kind : kind_of s i ≡ 1
  pub none : count_of s i ≡ 0
  pub key_least : 4 ≤ key_length_of s i
  pub key_most : key_length_of s i ≤ 16

pub record VariableFacts (s : List ℕ) (i : ℕ) : Type 0 where
  pub kind : kind_of s i ≡ 2
  pub some : 1 ≤ count_of s i
  pub few : count_of s i ≤ 4
  pub no_key : key_length_of s i ≡ 0

-- ---- single tests

ruleset tests = (leb-true, ltb-true, eqb-true)

either : {P : Type 0} (a b : Bool) → (a ≡ true → P) → (b ≡ true → P) → a || b ≡ true → P
either true b f g h = f refl
either false b f g h = g h

small_letter : (x : ℕ) → is_capital_or_digit x ≡ true → x < 256
small_letter x = either (is_capital x) (leb 48 x && leb x 57) (λ h. omega (arith, tests, simp and-eq-true_iff at h)) (λ h. omega (arith, tests, simp and-eq-true_iff at h))

key_range : (x : ℕ) → eqb x 4 || eqb x 8 || eqb x 12 || eqb x 16 ≡ true → (4 ≤ x) × (x ≤ 16)
key_range x =
    either (eqb x 4 || eqb x 8 || eqb x 12) (eqb x 16)
    (either (eqb x 4 || eqb x 8) (eqb x 12) (either (eqb x 4) (eqb x 8) (λ h. omega (arith, tests)) (λ h. omega (arith, tests))) (λ h. omega (arith, tests)))
    (λ h. omega (arith, tests))

-- two tests of which the first is read
of_cond : (a b c : Bool) → a ≡ true → cond a b c ≡ true → b ≡ true
of_cond true b c e h = h
of_cond false b c e h = absurd (false≢true e)

of_cond-not : (a b c : Bool) → a ≡ false → cond a b c ≡ true → c ≡ true
of_cond-not false b c e h = h
of_cond-not true b c e h = absurd (true≢false e)

-- "slot q is slot q % 4 of entry q / 4"
pub slot-entry : (i j : ℕ) → j < 4 → ((4 * i + j) / 4 ≡ i) × ((4 * i + j) % 4 ≡ j)
slot-entry i j h = omega arith

-- ---- the whole schema

module _ (s : List ℕ) (kept : keeps_rules s ≡ true) where
  form : form_rule s ≡ true
  unfolding keeps_rules
  form = (simp and-eq-true_iff at kept).0

  facts : Formed s
  facts = formed s form

  pub head_facts : HeadFacts s
  head_facts = omega (arith, facts.long, facts.head)

  pub total-blocks : total_blocks s ≤ 4096
  unfolding keeps_rules size_rule
  total-blocks = omega (arith, tests, simp and-eq-true_iff at kept)

  -- a used entry keeps the rule for entries
  a-set : (i : ℕ) → i < sets_of s → set_rule s i ≡ true
  unfolding form_rule
  a-set i l = entry_set s i l (all_below-at (entry_rule s) 8 i (simp and-eq-true_iff at form).0.0.0.1 (omega (arith, head_facts)))

  pub name-facts : (i : ℕ) → i < sets_of s → NameFacts s i
  unfolding set_rule name_rule
  name-facts i l = omega (arith, leb-true, small_letter, simp and-eq-true_iff at (a-set i l))

  pub master-facts : (i : ℕ) → i < masters_of s → MasterFacts s i
  unfolding set_rule master_rule
  master-facts i l =
      let h = of_cond _ _ _ (lt-ltb i (masters_of s) l) (simp and-eq-true_iff at (a-set i (omega arith))).0.0.0.1 in
      omega (arith, tests, key_range (key_length_of s i) (simp and-eq-true_iff at h).1, simp and-eq-true_iff at h)

  pub variable-facts : (i : ℕ) → masters_of s ≤ i → i < sets_of s → VariableFacts s i
  unfolding set_rule variable_rule
  variable-facts i m l =
      let h = of_cond-not _ _ _ (le-ltb i (masters_of s) m) (simp and-eq-true_iff at (a-set i l)).0.0.0.1 in
      omega (arith, tests, simp and-eq-true_iff at h)

  pub set_facts : (i : ℕ) → i < sets_of s → SetFacts s i
  unfolding keeps_rules size_rule
  set_facts i l =
      let fits = all_below-at _ (sets_of s) i (simp and-eq-true_iff at kept).1.0 l in
      let f = facts.set i l in
      record { some = f.some; many = f.many; few = f.few; fits = leb-true _ _ fits }

  -- a path leads to a master, and only variable sets have paths
  pub path_facts : (i j : ℕ) → i < sets_of s → j < count_of s i → master_of s i j < masters_of s
  path_facts i j l c = (facts.set i l).leads j c

  pub names-differ : (i k : ℕ) → i < k → k < sets_of s → same_bytes (name_of s i) (name_of s k) ≡ false
  unfolding form_rule names_rule
  names-differ i k l m =
      let h = all_below-at _ (sets_of s) k (simp and-eq-true_iff at form).0.1 m in
      not-true _ (all_below-at _ k i h l)

  no_clash : (p q : ℕ) → p < q → q < 4 * sets_of s → clash s p q ≡ false
  unfolding form_rule letters_rule
  no_clash p q l m =
      let h = all_below-at _ (4 * sets_of s) q (simp and-eq-true_iff at form).1 m in
      not-true _ (all_below-at _ q p h l)

  pub letters-differ : (i j k : ℕ) → j < k → i < sets_of s → k < count_of s i → same_bytes (letters_of s i j) (letters_of s i k) ≡ true → ⊥
  unfolding clash
  letters-differ i j k l m c e =
      let few = (facts.set i m).few in
      let dj = slot-entry i j (omega arith) in
      let dk = slot-entry i k (omega arith) in
      let both : clash s (4 * i + j) (4 * i + k) ≡ true =
      rw (dj.0, dj.1, dk.0, dk.1, lt-ltb j (count_of s i) (omega arith), lt-ltb k (count_of s i) c, eq-eqb i i refl, e) refl in
      false≢true (sym (no_clash (4 * i + j) (4 * i + k) (omega arith) (omega arith)) ∙ both)
