-- What sound gives, clause by clause, in the words of a proof; and what a chain that passes the test is.
use Rattle.std.specs.Prelude.{ℕ, zero, suc, ◌+◌, ◌≤◌, ◌<◌, ◌≡◌, Bool, true, false, cond, ◌&&◌, List, [], ◌∷◌, eqb, length}
use Rattle.std.proofs.Math.Bool.{and-eq-true_iff}
use Rattle.std.proofs.Common.{arith, eqb-true}
use Rattle.octets.specs.Below.{all_below}
use Rattle.octets.specs.BelowLaws.{all_below-at}
use Rattle.blocks.specs.Blocks.{check_by, is_sealed}
use Rattle.schema.specs.declared.Entry.{Entry}
use Rattle.schema.specs.declared.Schema.{Schema}
use Rattle.schema.specs.Decode.{entry_of, set_count}
use Rattle.schema.specs.Place.{InSet, in_set}
use Rattle.sound.specs.Sound.{each_record, checks_true, set_sound, sound, follow, is_chain}

-- both parts of a test that holds
both : (a b : Bool) → (a && b) ≡ true → (a ≡ true) × (b ≡ true)
both a b h = (and-eq-true_iff a b).0 h

-- ---- the clauses

module _ (t : Schema) (b : List ℕ) (h : sound t b ≡ true) where
  -- "all checks true"
  pub sound-sealed : (n : ℕ) → n < t.blocks → is_sealed (check_by t.edition) b n ≡ true
  unfolding sound checks_true
  sound-sealed n l = all_below-at (is_sealed (check_by t.edition) b) t.blocks n (both (checks_true t b) (all_below (λ i. set_sound t b (entry_of t i)) (set_count t)) h).0 l

  -- every set is sound
  pub sound-set : (i : ℕ) → i < set_count t → set_sound t b (entry_of t i) ≡ true
  unfolding sound
  sound-set i l =
      all_below-at (λ k. set_sound t b (entry_of t k)) (set_count t) i (both (checks_true t b) (all_below (λ k. set_sound t b (entry_of t k)) (set_count t)) h).1 l

-- a test of each record holds of every record of the set
pub each_record-at : (e : Entry) (f : ℕ → Bool) (r : ℕ) → each_record e f ≡ true → InSet e r → f r ≡ true
each_record-at e f zero h l = absurd (omega arith)
each_record-at e f (suc k) h l =
    let q : k + 1 ≡ suc k = omega arith in
    rw q at (all_below-at (λ k. f (k + 1)) e.records k h (omega arith))

-- ---- a chain

-- a list that passes the test is what the pointers say, both ways: `next` of the node before a record is the record, its `prior` is that
-- node, and behind the last stands 0
abbrev pub Linked : (ℕ → ℕ) → (ℕ → ℕ) → ℕ → ℕ → List ℕ → Type 0
Linked next prior p head [] = head ≡ 0
Linked next prior p head (r ∷ rs) = (head ≡ r) × (prior r ≡ p) × Linked next prior r (next r) rs

pub chain-linked : (next prior : ℕ → ℕ) (p head : ℕ) (rs : List ℕ) → is_chain next prior p head rs ≡ true → Linked next prior p head rs
unfolding is_chain
chain-linked next prior p head [] h = eqb-true head 0 h
chain-linked next prior p head (r ∷ rs) h =
    let a = both (eqb head r && eqb (prior r) p) (is_chain next prior r (next r) rs) h in
    let c = both (eqb head r) (eqb (prior r) p) a.0 in
    (eqb-true head r c.0, eqb-true (prior r) p c.1, chain-linked next prior r (next r) rs a.1)

-- following visits no more records than it may
follow_one : (s : Bool) (r n : ℕ) (rs : List ℕ) → length rs ≤ n → length (cond s (r ∷ rs) []) ≤ suc n
follow_one true r n rs h = omega arith
follow_one false r n rs h = omega arith

pub follow-length : (n : ℕ) (e : Entry) (next : ℕ → ℕ) (r : ℕ) → length (follow n e next r) ≤ n
unfolding follow
follow-length zero e next r = omega arith
follow-length (suc n) e next r = follow_one (in_set e r) r n (follow n e next (next r)) (follow-length n e next (next r))
