-- The wrong stores do not meet the conditions. Condition 2: a store that meets it is `outcome`, and so answers every trial as `outcome` does.
-- Condition 3: after the trial's calls sign-on accepts, READV with LKxx gives the first point of the plain list and READR the last, and a sweep
-- finds a point where the plain list has one.
use Rattle.std.specs.Prelude.{ℕ, ◌≡◌, refl, ◌≢◌, List, [], ◌∷◌, get_or}
use Rattle.std.proofs.Common.{sym, ap, ◌∙◌, inl, inr, arith}
use Rattle.octets.specs.RunLaws.{eq_same_bytes}
use Rattle.octets.specs.TestLaws.{never_both}
use Rattle.terms.specs.Terms.{end_ref}
use Rattle.terms.specs.Status.{status_number}
use Rattle.schema.specs.declared.Entry.{Entry}
use Rattle.calls.specs.Call.{Call, Outcome}
use Rattle.calls.specs.Outcome.{IsOutcome}
use Rattle.condition3.specs.Plain.{Point}
use Rattle.condition3.specs.Readings.{Request, schema_in, Lent, none_lent, Reader, reader_of, Reads, Place, set_no, path_no, rdnxt, readv, of_key, SameOnce}
use Rattle.condition3.specs.Condition.{Formatted, Kept, Condition3}
use Rattle.condition3.proofs.Theorem.{is_outcome}
use Rattle.wrong_stores.specs.Wrong.{refuses_all, always_done, stores_nothing, links_first, forgets_next, format_leaves, inserts_after, reads_forward, sweeps_nothing}
use Rattle.wrong_stores.specs.Twin.{twin_schema, bottle, point, path1, path2, twin_link}
use Rattle.wrong_stores.specs.Trials.{Trial, answers, lent_to, formatted_by, reader_after, told_by, Differs, signing, refusing, doing, leaving_all, linking, removing, inserting, turning, sweeping, formatting}
use Rattle.wrong_stores.proofs.TrialLaws.{Formats, Readable, computed}

-- ---- condition 2

-- a store that meets it is the right one, so no trial tells it from the right one
not_2 : (x : Trial) → Differs x → ((c : Call) → IsOutcome c (x.store c)) → ⊥
not_2 x t h = never_both _ (eq_same_bytes _ _ (sym t.0 ∙ ap (λ (store : Call → Outcome). told_by store x) (is_outcome x.store h) ∙ t.1)) t.2

pub refuses-all_2 : ((c : Call) → IsOutcome c (refuses_all c)) → ⊥
refuses-all_2 = not_2 refusing computed.refuses

pub always_done_2 : ((c : Call) → IsOutcome c (always_done c)) → ⊥
always_done_2 = not_2 doing computed.does

pub stores-nothing_2 : ((c : Call) → IsOutcome c (stores_nothing c)) → ⊥
stores-nothing_2 = not_2 leaving_all computed.leaves.0

pub links-first_2 : ((c : Call) → IsOutcome c (links_first c)) → ⊥
links-first_2 = not_2 linking computed.links.0

pub forgets_next_2 : ((c : Call) → IsOutcome c (forgets_next c)) → ⊥
forgets_next_2 = not_2 removing computed.removes.0

pub inserts-after_2 : ((c : Call) → IsOutcome c (inserts_after c)) → ⊥
inserts-after_2 = not_2 inserting computed.inserts.0

pub reads-forward_2 : ((c : Call) → IsOutcome c (reads_forward c)) → ⊥
reads-forward_2 = not_2 turning computed.turns.0

pub sweeps-nothing_2 : ((c : Call) → IsOutcome c (sweeps_nothing c)) → ⊥
sweeps-nothing_2 = not_2 sweeping computed.sweeps.0

pub format-leaves_2 : ((c : Call) → IsOutcome c (format_leaves c)) → ⊥
format-leaves_2 = not_2 formatting computed.formats.0

-- ---- condition 3: FORMT is refused

pub refuses-all_3 : Condition3 refuses_all → ⊥
unfolding refuses_all
refuses-all_3 h = omega (arith, ap status_number (h.begins twin_schema _ computed.begins))

-- ---- condition 3: a reading that goes nowhere

-- a call that gives back its own reference never comes to END.
endless : (ask : ℕ → Outcome) → ((r : ℕ) → (ask r).reference ≡ r) → (r : ℕ) (xs : List Point) → r ≢ end_ref → Reads ask r xs → ⊥
endless ask same r [] n h = n (sym (same r) ∙ h.1)
endless ask same r (x ∷ xs) n h = endless ask same x.number xs h.3 h.4

pub always_done_3 : Condition3 always_done → ⊥
unfolding always_done answers
always_done_3 h =
    endless (readv (reader_of always_done twin_schema none_lent) path2 bottle) (λ r. refl) (twin_link path2)
    ((h.starts twin_schema none_lent (inl refl)).0 (set_no (schema_in twin_schema) path2) (path_no (schema_in twin_schema) path2) bottle)
    (λ e. omega (arith, ap (λ (xs : List ℕ). get_or xs 1 0) computed.does.0))
    ((h.starts twin_schema none_lent (inl refl)).1.read path2 bottle computed.links.1.place refl)

-- ---- condition 3: sign-on refuses

by-format : (x : Trial) → Formats x → Formatted x.store twin_schema (formatted_by x.store x)
by-format x f = (lent_to x, f, refl)

refused_3 : (store : Call → Outcome) (b : List ℕ) (calls : List Request) → Differs (signing store b calls) → Formats (signing store b calls) → Condition3 store → ⊥
unfolding answers
refused_3 store b calls t f h =
    let x : Trial = signing store b calls in
    omega (arith, ap (λ (xs : List ℕ). get_or xs 0 0) t.0, ap status_number (h.accepted twin_schema (formatted_by store x) calls (inr (by-format x f))))

pub stores-nothing_3 : Condition3 stores_nothing → ⊥
stores-nothing_3 = refused_3 stores_nothing _ _ computed.leaves.0 computed.leaves.1

pub forgets_next_3 : Condition3 forgets_next → ⊥
forgets_next_3 = refused_3 forgets_next _ _ computed.removes.0 computed.removes.1

pub format-leaves_3 : Condition3 format_leaves → ⊥
format-leaves_3 = refused_3 format_leaves _ _ computed.formats.0 computed.formats.1

-- ---- condition 3: a reading that begins with another point

-- what condition 3 says of the bottle on a path, after the trial's calls
kept_at : (x : Trial) (w : Place) (xs : List Point) → Readable x w xs → Condition3 x.store → Kept (schema_in twin_schema) (reader_after x.store x) w bottle xs
kept_at x w xs p h =
    let d : Lent = formatted_by x.store x in
    let f : Formatted x.store twin_schema d = by-format x p.formats in
    rw (← p.listed) (h.kept twin_schema d x.calls (λ i j key. []) (inr f) (h.empty twin_schema d f) w bottle p.place)

-- READV with LKxx gives the first point of the plain list
pub links-first_3 : Condition3 links_first → ⊥
unfolding answers
links-first_3 h =
    omega (
      arith,
      ap (λ (ns : List ℕ). get_or ns 1 0) computed.links.0.0,
      ((kept_at linking path2 _ computed.links.1 h).forward computed.links.1.exists).1,
    )

pub inserts-after_3 : Condition3 inserts_after → ⊥
unfolding answers
inserts-after_3 h =
    omega (
      arith,
      ap (λ (ns : List ℕ). get_or ns 1 0) computed.inserts.0.0,
      ((kept_at inserting path1 _ computed.inserts.1 h).forward computed.inserts.1.exists).1,
    )

-- READR with LKxx gives the last one
pub links-first_backward_3 : Condition3 links_first → ⊥
unfolding answers
links-first_backward_3 h =
    omega (
      arith,
      ap (λ (ns : List ℕ). get_or ns 5 0) computed.links.0.0,
      ((kept_at linking path2 _ computed.links.1 h).backward computed.links.1.exists).1,
    )

pub reads-forward_3 : Condition3 reads_forward → ⊥
unfolding answers
reads-forward_3 h =
    omega (
      arith,
      ap (λ (ns : List ℕ). get_or ns 1 0) computed.turns.0.0,
      ((kept_at turning path1 _ computed.turns.1 h).backward computed.turns.1.exists).1,
    )

-- ---- condition 3: a sweep that finds what the chain does not have

-- by forward reading and sweep alone, whatever the plain list has
pub links-first_sweep_3 : Condition3 links_first → ⊥
links-first_sweep_3 h =
    let w = computed.links.2 in
    let k : Kept (schema_in twin_schema) (reader_after links_first linking) path2 bottle (point 1 ∷ []) = kept_at linking path2 _ computed.links.1 h in
    (rw w.keyed at (k.same computed.links.1.exists [] (point 1 ∷ []) w.read w.swept)).there (point 1) (inl refl)

-- ---- condition 3: a sweep that finds nothing

-- where the plain list has a point the first RDNXT does not say END.
finds : (e : Entry) (j : ℕ) (key : List ℕ) (ask : ℕ → Outcome) (zs : List Point) (x : Point) (xs : List Point)
    → Reads ask 0 zs → SameOnce (of_key e j key zs) (x ∷ xs) → (ask 0).reference ≢ end_ref
unfolding of_key
finds e j key ask [] x xs h s end = s.back x (inl refl)
finds e j key ask (z ∷ zs) x xs h s end = h.3 (sym h.1 ∙ end)

pub sweeps-nothing_3 : Condition3 sweeps_nothing → ⊥
unfolding answers
sweeps-nothing_3 h =
    let ask : Reader = reader_after sweeps_nothing sweeping in
    let k : Kept (schema_in twin_schema) ask path1 bottle (point 1 ∷ []) = kept_at sweeping path1 _ computed.sweeps.1 h in
    finds _ _ bottle (rdnxt ask path1) k.sweep.0 (point 1) [] k.sweep.1 k.sweep.2
    (ap (λ (ns : List ℕ). get_or ns 1 0) computed.sweeps.0.0)
