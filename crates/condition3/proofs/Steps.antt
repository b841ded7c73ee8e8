-- Each call takes a data base that stands for rows to one that stands for the rows of the plain step: by its operation if it is done, as it was
-- if it is refused.
use Rattle.std.specs.Prelude.{ℕ, ◌<◌, ◌≡◌, ◌≢◌, ◌⊎◌, cond, ◌||◌}
use Rattle.std.proofs.Math.Path.{refl, sym}
use Rattle.std.proofs.Common.{ap, ◌∙◌, inl, inr, ⊎_elim, ne_eqb}
use Rattle.std.proofs.Math.Bool.{true, false, not}
use mathlib.Core.List.{List, [], ◌∷◌}
use Rattle.octets.specs.BelowLaws.{same?}
use Rattle.terms.specs.declared.Status.{Status}
use Rattle.terms.specs.declared.Status.TheVariants.{Done}
use Rattle.terms.specs.declared.Operation.{Operation}
use Rattle.terms.specs.declared.Operation.TheVariants.{Formt, AddM, DelM, Writm, Writv, Addvc, Addvb, Addva, Delvd}
use Rattle.terms.specs.Operation.{operation_of}
use Rattle.terms.specs.Status.{status_number}
use Rattle.terms.specs.Laws.{status-number-one}
use Rattle.schema.specs.declared.Schema.{Schema}
use Rattle.schema.specs.Decode.{schema_of}
use Rattle.blocks.specs.Blocks.{check_by}
use Rattle.plans.specs.Plan.{store_all, seal_all, committed, formatted}
use Rattle.points.specs.declared.Spot.TheVariants.{Last, After, Before}
use Rattle.calls.specs.Call.{Call, Outcome, one_of, adds}
use Rattle.calls.specs.Scene.{Scene, scene_under}
use Rattle.calls.specs.Ladder.{Rung, other_rungs, final_rungs, refuses}
use Rattle.calls.specs.Ladder.Rung.{NoPoints, MasterRoom, PointRoom}
use Rattle.calls.proofs.LadderLaws.{Passes}
use Rattle.calls.proofs.OperationLaws.{every_operation, none_of, by-operation}
use Rattle.calls.proofs.OutcomeLaws.{rung_in, has_rung, passed}
use Rattle.calls.specs.Reply.{full_area, spot_of, reference_by, reference_after, stores_by, stores_of, base_after}
use Rattle.calls.specs.Outcome.{done, outcome}
use Rattle.calls.proofs.Theorems.{refused_changes_nothing}
use Rattle.kept_state.specs.Tests.{AddTests}
use Rattle.kept_state.specs.FreshLaws.{format_represents}
use Rattle.master_steps.specs.MasterStep.{MasterStep}
use Rattle.master_steps.specs.MasterSteps.{add-master-step, del_master-step, write_master-step}
use Rattle.point_steps.specs.FollowLaws.{master-step-keeps}
use Rattle.condition3.specs.Plain.{Lists, before, behind, set_in, path_in, at_end, step_by, step}
use Rattle.condition3.specs.Shown.{Ready}
use Rattle.condition3.proofs.ShownLaws.{shown_append, before-shown, behind-shown}
use Rattle.condition3.proofs.Outcomes.{parameter_rungs, found_rungs, done-is, done_rungs}
use Rattle.condition3.proofs.CallTests.{add-master-tests, del_master-tests, write_master-tests, del_tests, write_tests, add-tests}
use Rattle.condition3.proofs.Turns.{AllRows, Turned, nothing_turned, same_turned, add_turned, del_turned, write_turned}

-- the calls that change the data base
abbrev storing : List Operation
storing = Formt ∷ AddM ∷ DelM ∷ Writm ∷ Writv ∷ Addvc ∷ Addvb ∷ Addva ∷ Delvd ∷ []

-- a call is done or not
pub status? : (s : Status) → (s ≡ Done) ⊎ (s ≢ Done)
status? s = ⊎_elim (λ z. inl (status-number-one s Done z)) (λ d. inr (λ z. d (ap status_number z))) (same? (status_number s) 0)

module _ (c : Call) (rows : AllRows) (g : Ready c.schema c.base rows) where
  abbrev t : Schema
  t = schema_of c.schema

  abbrev b : List ℕ
  b = c.base

  abbrev x : Scene
  x = scene_under t c

  abbrev o : Operation
  o = operation_of c.operation

  abbrev n : ℕ
  n = set_in c

  abbrev j : ℕ
  j = path_in c

  -- ---- calls on masters, and FORMT

  master_turned : (a : List ℕ) → n < t.masters → MasterStep t b a n → Turned t b a rows (λ l. l)
  master_turned a l s = same_turned t b rows g.stands a (master-step-keeps t g.world b a rows n l g.stands s) s.areas

  format_turned : Turned t b (formatted (check_by t.edition) t.blocks) rows (λ l i v key. [])
  format_turned = record { now = λ i v key. []; stands = format_represents t g.world; shows = λ l i v p h key. refl }

  -- ---- every call that is done

  module _ (p : Passes x c parameter_rungs) (f : Passes x c found_rungs) (h : Passes x c (other_rungs x.entry.count)) (z : Passes x c final_rungs) where
    -- the last test of this name
    by : (r : Rung) → has_rung r final_rungs ≡ true → refuses x c (rung_in r final_rungs) ≡ false
    by r i = passed x c final_rungs r i z

    add-by : (u : Operation) → o ≡ u → one_of u adds ≡ true → AddTests t b n j (full_area x c) (spot_of u c.reference)
    add-by u q a = add-tests t g.world.ok c p f u q a h (by PointRoom refl)

    -- what a call of this operation does to data base and lists
    abbrev Turns : Operation → Type 0
    Turns u =
        o ≡ u
        → Turned t b (cond (one_of u (Formt ∷ [])) (formatted (check_by t.edition) t.blocks) (committed (check_by t.edition) b (stores_by u x c))) rows
        (λ l. step_by u c (reference_by u x c) l)

    formt : Turns Formt
    formt q = format_turned

    addm : Turns AddM
    unfolding scene_under
    addm q =
        let s = add-master-tests t g.world.ok c p f q (by MasterRoom refl) in
        rw q (master_turned _ s.set (add-master-step t g.world b rows g.stands n c.key (full_area x c) s))

    delm : Turns DelM
    unfolding scene_under
    delm q =
        let s = del_master-tests t g.world.ok c p f q (by NoPoints refl) in
        rw q (master_turned _ s.set (del_master-step t g.world b rows g.stands n c.key s))

    writm : Turns Writm
    unfolding scene_under
    writm q =
        let s = write_master-tests t g.world.ok c p f q in
        rw q (master_turned _ s.set (write_master-step t g.world b rows g.stands n c.key (full_area x c) s))

    writv : Turns Writv
    unfolding scene_under
    writv q = write_turned c rows g (write_tests t g.world.ok c p f q)

    addvc : Turns Addvc
    unfolding scene_under
    addvc q = add_turned c rows g Last (add-by Addvc q refl) at_end (λ d k r xs. sym (shown_append d k xs (r ∷ [])))

    addvb : Turns Addvb
    unfolding scene_under
    addvb q = add_turned c rows g (Before (record { 0 = c.reference })) (add-by Addvb q refl) (before c.reference) (λ d k r xs. before-shown d k c.reference r xs)

    addva : Turns Addva
    unfolding scene_under
    addva q = add_turned c rows g (After (record { 0 = c.reference })) (add-by Addva q refl) (behind c.reference) (λ d k r xs. behind-shown d k c.reference r xs)

    delvd : Turns Delvd
    unfolding scene_under
    delvd q = del_turned c rows g (del_tests t g.world.ok c p f q)

    -- no other stores anything
    none : (u : Operation) → one_of u storing ≡ false → Turns u
    unfolding committed store_all seal_all
    none u h q =
        rw (no (Formt ∷ []) refl, no (AddM ∷ []) refl, no (DelM ∷ []) refl, no (Writm ∷ []) refl, no (Writv ∷ []) refl, no adds refl, no (Delvd ∷ []) refl, no (Addvc ∷ []) refl, no (Addvb ∷ []) refl, no (Addva ∷ []) refl)
        (nothing_turned t b rows g.stands)
      where
        no : (vs : List Operation) → every_operation (λ u. not (not (one_of u storing)) || not (one_of u vs)) ≡ true → one_of u vs ≡ false
        no vs e = none_of (λ u. not (one_of u storing)) (λ u. one_of u vs) e u (rw h refl)

    turned_by : Turns o
    turned_by = by-operation Turns storing (formt, (addm, (delm, (writm, (writv, (addvc, (addvb, (addva, (delvd, tt))))))))) o (none o)

  -- ---- every call

  done_turned : (outcome c).status ≡ Done → Turned t b (done x c).base rows (step_by o c (done x c).reference)
  unfolding done base_after stores_of reference_after scene_under
  done_turned d =
      let k = done_rungs c d in
      turned_by k.parameters k.found k.others k.final refl

  step-done : (s : Status) (q : ℕ) (l : Lists) → s ≡ Done → step c s q l ≡ step_by o c q l
  unfolding step
  step-done s q l d = rw d refl

  step-refused : (s : Status) (q : ℕ) (l : Lists) → s ≢ Done → step c s q l ≡ l
  unfolding step
  step-refused s q l d = rw (ne_eqb (status_number s) 0 (λ z. d (status-number-one s Done z))) refl

  -- the state after the call, and the plain step
  pub call_turned : Turned t b (outcome c).base rows (step c (outcome c).status (outcome c).reference)
  call_turned = by (status? (outcome c).status)
    where
      by : ((outcome c).status ≡ Done) ⊎ ((outcome c).status ≢ Done) → Turned t b (outcome c).base rows (step c (outcome c).status (outcome c).reference)
      by (inl d) =
          let z : outcome c ≡ done x c = done-is c d in
          let w = done_turned d in
          record {
            now = w.now;
            stands = rw z w.stands;
            shows = λ l i v p h key.
                ap (λ (m : Lists). m i v key) (step-done (outcome c).status (outcome c).reference l d)
                ∙ (rw z (w.shows l i v p h key));
          }
      by (inr d) =
          let z : (outcome c).base ≡ b = ap (λ (m : Outcome). m.base) (refused_changes_nothing c d) in
          record {
            now = rows;
            stands = rw z g.stands;
            shows = λ l i v p h key. rw z (ap (λ (m : Lists). m i v key) (step-refused (outcome c).status (outcome c).reference l d) ∙ h key);
          }
