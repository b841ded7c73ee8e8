-- Condition 2's uniqueness, and what is at once true of every outcome.
use Rattle.std.specs.Prelude.{ℕ, ◌≡◌, refl, List, Bool, true, false, cond, eqb}
use Rattle.std.proofs.Common.{sym, ◌∙◌, eqb-true}
use Rattle.terms.specs.Laws.{status-number-one}
use Rattle.terms.specs.declared.Status.{Status}
use Rattle.terms.specs.declared.Status.TheVariants.{Done}
use Rattle.terms.specs.Status.{status_number}
use Rattle.calls.specs.Call.{Call, Outcome}
use Rattle.calls.specs.Scene.{scene_of}
use Rattle.calls.specs.Ladder.{ladder, refusal}
use Rattle.calls.specs.Outcome.{refused, done, outcome_in, outcome, IsOutcome}

-- every call has an outcome, and the statement "this is the outcome" admits no other
pub has-outcome : (c : Call) → IsOutcome c (outcome c)
has-outcome c = record { status = refl; reference = refl; area = refl; base = refl }

-- an outcome is its four parts
whole : Status → ℕ → List ℕ → List ℕ → Outcome
whole s r a b = record { status = s; reference = r; area = a; base = b }

parts : {s t : Status} {r q : ℕ} {a d b e : List ℕ} → s ≡ t → r ≡ q → a ≡ d → b ≡ e → whole s r a b ≡ whole t q d e
parts h k l m = cc

pub one_outcome : (c : Call) (o p : Outcome) → IsOutcome c o → IsOutcome c p → o ≡ p
unfolding whole
one_outcome c o p h k =
    parts (h.status ∙ sym k.status) (h.reference ∙ sym k.reference) (h.area ∙ sym k.area) (h.base ∙ sym k.base)

-- condition 1: a call that is refused gives back its reference and changes no byte
either : (b : Bool) (c : Call) (o : Outcome) (s : Status) → o.status ≡ Done → ((cond b o (refused c s)).status ≡ Done → ⊥)
    → cond b o (refused c s) ≡ refused c (cond b o (refused c s)).status
either true c o s e n = absurd (n e)
either false c o s e n = refl

pub refused_changes_nothing : (c : Call) → ((outcome c).status ≡ Done → ⊥)
    → outcome c ≡ record { status = (outcome c).status; reference = c.reference; area = c.area; base = c.base }
unfolding outcome outcome_in done
refused_changes_nothing c n =
    either (eqb (status_number (refusal (scene_of c) c (ladder (scene_of c)))) 0) c (done (scene_of c) c) (refusal (scene_of c) c (ladder (scene_of c))) refl n

-- the status is the one that the ladder gives
zero_done : (s : Status) → eqb (status_number s) 0 ≡ true → s ≡ Done
zero_done s h = status-number-one s Done (eqb-true (status_number s) 0 h)

either-status : (b : Bool) (s : Status) (o : Outcome) (c : Call) → o.status ≡ Done → (b ≡ true → s ≡ Done) → (cond b o (refused c s)).status ≡ s
either-status true s o c e d = e ∙ sym (d refl)
either-status false s o c e d = refl

pub status_of_ladder : (c : Call) → (outcome c).status ≡ refusal (scene_of c) c (ladder (scene_of c))
unfolding outcome outcome_in done
status_of_ladder c =
    either-status (eqb (status_number (refusal (scene_of c) c (ladder (scene_of c)))) 0) (refusal (scene_of c) c (ladder (scene_of c))) (done (scene_of c) c) c refl
    (zero_done (refusal (scene_of c) c (ladder (scene_of c))))
