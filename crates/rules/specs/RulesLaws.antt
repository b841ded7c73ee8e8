-- The laws of Rules: how the test of the form goes, and what a schema that keeps its rules has.
use Rattle.std.specs.Prelude.{ℕ, ◌+◌, ◌-◌, ◌/◌, ◌≤◌, ◌<◌, ◌≡◌, Bool, true, false, not, ◌&&◌, ◌||◌, List, [], ◌∷◌, eqb, length, get_or, take, drop}
use Rattle.std.proofs.Math.Path.{refl}
use Rattle.std.proofs.Common.{sym, ◌∙◌, arith, take-suc, add-one, take_all}
use Rattle.std.proofs.Math.Nat.{add-sub_cancel_left}
use Rattle.std.proofs.Math.Bool.{and-false, and-true, and-eq-true_iff}
use borrow.Author.Tests.{eq-eqb, ne_eqb, not-true, not-false}
use Rattle.octets.specs.Octets.{byte_at, run, every, is, all_zero, same_bytes}
use Rattle.octets.specs.RunLaws.{every_append}
use Rattle.octets.specs.Below.{all_below}
use Rattle.octets.specs.BelowLaws.{all_below-all}
use Rattle.blocks.specs.Blocks.{check_by, is_sealed}
use Rattle.schema.specs.Fields.{edition_of, sets_of}
use Rattle.schema.specs.Rules.{block_rule, head_rule, clash, is_path_slot, master_of_slot, letters_of_slot, form_rule}
use Rattle.schema.proofs.FormFacts.{head_ok}
use Rattle.rules.specs.Parts.{apart, body_rule}

-- ---- a run of zeros, byte by byte

pub zeros-turn : (xs : List ℕ) (i : ℕ) {ok : Bool} → i < length xs → ok ≡ all_zero (take i xs)
    → (ok && eqb (byte_at xs i) 0) ≡ all_zero (take (i + 1) xs)
unfolding every
zeros-turn xs i l e =
    rw (add-one, take-suc xs i 0 l, every_append (is 0) (take i xs) (get_or xs i 0 ∷ []), and-true, e) refl

pub zeros_end : (s : List ℕ) (at n : ℕ) {i : ℕ} {ok : Bool} → length (take (at + n - at) (drop at s)) ≤ i
    → ok ≡ all_zero (take i (take (at + n - at) (drop at s))) → ok ≡ all_zero (run s at n)
zeros_end s at n {i} h e =
    e ∙ rw (take_all i (take (at + n - at) (drop at s)) h, add-sub_cancel_left at n) refl

-- ---- paths that clash

-- two slots that do not both hold a path do not clash: the way out of the test, and the test
module _ (s : List ℕ) (p q : ℕ) {u v : Bool} (eu : u ≡ is_path_slot s p) (ev : v ≡ is_path_slot s q) where
  pub clash-none : not (u && v) ≡ true → false ≡ clash s p q
  unfolding clash
  clash-none h = rw (← eu, ← ev, not-true (u && v) h) refl

  pub clash-some : not (u && v) ≡ false → {r : Bool} → r ≡ same_bytes (letters_of_slot s p) (letters_of_slot s q)
      → ((eqb (p / 4) (q / 4) || eqb (master_of_slot s p) (master_of_slot s q)) && r) ≡ clash s p q
  unfolding clash
  clash-some h e = rw (← eu, ← ev, not-false (u && v) h, e) refl

-- so a slot without a path is apart from all
pub unused_apart : (s : List ℕ) (q : ℕ) {u : Bool} → u ≡ is_path_slot s q → not u ≡ true → true ≡ all_below (apart s q) q
unfolding clash
unused_apart s q {u} e h =
    let f : is_path_slot s q ≡ false = sym e ∙ not-true u h in
    sym (all_below-all (apart s q) q (λ p k. rw (f, and-false (is_path_slot s p)) refl))

-- ---- the ways out of the test of the form

pub form-short : (s : List ℕ) → (length s ≡ 512 → ⊥) → false ≡ form_rule s
unfolding form_rule block_rule
form-short s h = rw (ne_eqb (length s) 512 h) refl

module _ (s : List ℕ) {b h : Bool} (eb : b ≡ is_sealed (check_by (edition_of s)) s 0) (eh : h ≡ head_rule s) where
  pub form-refused : length s ≡ 512 → not (b && h) ≡ true → false ≡ form_rule s
  unfolding form_rule block_rule
  form-refused l n = rw (eq-eqb (length s) 512 l, ← eb, ← eh, not-true (b && h) n) refl

  pub form_body : length s ≡ 512 → not (b && h) ≡ false → {r : Bool} → r ≡ body_rule s → r ≡ form_rule s
  unfolding form_rule block_rule
  form_body l n e = rw (eq-eqb (length s) 512 l, ← eb, ← eh, not-false (b && h) n) e

  -- at most eight sets, so that each is one of the eight entries
  pub few_sets : not (b && h) ≡ false → sets_of s ≤ 8
  few_sets n =
      let o = head_ok s (sym eh ∙ ((and-eq-true_iff b h).0 (not-false (b && h) n)).1) in
      omega arith
