-- What a schema that keeps the rules of its form has, read out of the Boolean tests of Rules: what decoding it stands on.
use Rattle.std.specs.Prelude.{ℕ, ◌≤◌, ◌<◌, ◌≡◌, Bool, true, false, cond, List, ltb}
use Rattle.std.proofs.Math.Bool.{and-eq-true_iff}
use Rattle.std.proofs.Common.{arith, lt-ltb, ltb-true, leb-true, eqb-true}
use Rattle.octets.specs.BelowLaws.{all_below-at}
use Rattle.schema.specs.Fields.{masters_of, sets_of, count_of, master_of}
use Rattle.schema.specs.Rules.{block_rule, head_rule, master_rule, variable_rule, records_rule, path_rule, slot_rule, set_rule, entry_rule, form_rule}
use Rattle.schema.specs.Formed.{HeadFormed, SetFormed, Formed}

pub head_ok : (s : List ℕ) → head_rule s ≡ true → HeadFormed s
unfolding head_rule
head_ok s h = omega (arith, leb-true, simp and-eq-true_iff at h)

few-paths : (s : List ℕ) (i : ℕ) (t : Bool) → cond t (master_rule s i) (variable_rule s i) ≡ true → count_of s i ≤ 4
unfolding master_rule variable_rule
few-paths s i true h = omega (arith, eqb-true, simp and-eq-true_iff at h)
few-paths s i false h = omega (arith, leb-true, simp and-eq-true_iff at h)

path_leads : (s : List ℕ) (i j : ℕ) → j < count_of s i → slot_rule s i j ≡ true → master_of s i j < masters_of s
unfolding slot_rule path_rule
path_leads s i j l h =
    let p : path_rule s i j ≡ true = rw (lt-ltb j (count_of s i) l) at h in
    omega (arith, ltb-true, simp and-eq-true_iff at p)

pub set_formed : (s : List ℕ) (i : ℕ) → set_rule s i ≡ true → SetFormed s i
unfolding set_rule records_rule
set_formed s i h =
    let t = simp and-eq-true_iff at h in
    let f = few-paths s i (ltb i (masters_of s)) t.0.0.0.1 in
    record {
      few = f;
      some = omega (arith, leb-true, t);
      many = omega (arith, leb-true, t);
      leads = λ j l. path_leads s i j l (all_below-at (slot_rule s i) 4 j t.1 (omega arith));
    }

pub entry_set : (s : List ℕ) (i : ℕ) → i < sets_of s → entry_rule s i ≡ true → set_rule s i ≡ true
unfolding entry_rule
entry_set s i l h = rw (lt-ltb i (sets_of s) l) at h

pub formed : (s : List ℕ) → form_rule s ≡ true → Formed s
unfolding form_rule block_rule
formed s h =
    let t = simp and-eq-true_iff at h in
    let o = head_ok s t.0.0.0.0.1 in
    record {
      long = omega (arith, eqb-true, t);
      head = o;
      set = λ i l. set_formed s i (entry_set s i l (all_below-at (entry_rule s) 8 i t.0.0.0.1 (omega arith)));
    }
