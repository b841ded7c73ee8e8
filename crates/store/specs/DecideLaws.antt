-- The outcome of a call from what its part answered.
use Rattle.std.specs.Prelude.{ℕ, ◌*◌, ◌≡◌, refl, Bool, true, false, cond, List, [], ◌∷◌, length}
use Rattle.std.proofs.Common.{sym, ap, ◌∙◌}
use Rattle.terms.specs.declared.Status.{Status}
use Rattle.terms.specs.declared.Status.TheVariants.{Done, Size, Func, Damg}
use Rattle.terms.specs.declared.Operation.{Operation}
use Rattle.terms.specs.declared.Operation.TheVariants.{Formt, Sinon, Unknown}
use Rattle.terms.specs.Operation.{operation_of}
use Rattle.schema.specs.declared.Schema.{Schema}
use Rattle.schema.specs.Decode.{schema_of}
use Rattle.schema.specs.Layout.{keeps_rules}
use Rattle.blocks.specs.Blocks.{check_by}
use Rattle.plans.specs.Plan.{formatted}
use Rattle.sound.specs.Sound.{sound}
use Rattle.calls.specs.Call.{Call, one_of}
use Rattle.calls.specs.Outcome.{outcome}
use Rattle.ends.specs.AsksLaws.{asks_as, given_back}
use Rattle.ends.specs.Ends.{Ends}
use Rattle.ends.specs.Asks.{Asks, Answers}
use Rattle.store.specs.Decides.{Decides, AnswersNamed}
use Rattle.store.specs.declared.kinds.Kind.{Kind}
use Rattle.store.specs.Kinds.{operation_kind, operation_in}
use Rattle.store.specs.KindsLaws.{kind-back}
use Rattle.store.specs.TopLaws.{size-ends, unknown_ends, format-ends, sound-ends, unsound_ends, outcome-behind}

-- the operation of a kind
pub told-kind : (o : Operation) {k l : Kind} → k ≡ operation_kind o → k ≡ l → o ≡ operation_in l
told-kind o h w = sym (kind-back o) ∙ ap operation_in (sym h ∙ w)

module _ (t : Schema) (o : Operation) (n : List ℕ) (r : ℕ) (p k a b : List ℕ) where
  pub decides_size : {s : Status} {q : ℕ} → (length b ≡ t.blocks * 512 → ⊥) → s ≡ Size → q ≡ r → Decides t o n r p k a b s q a b
  decides_size w e f = record { told = λ c h path kept here. rw (e, f) (given_back h (size-ends t c kept here (λ z. w (rw h.base at z)))) }

  module _ (sized : length b ≡ t.blocks * 512) where
    sized-here : (c : Call) → Asks c o n r k a b → length c.base ≡ t.blocks * 512
    sized-here c h = rw h.base sized

    pub decides_unknown : {s : Status} {q : ℕ} → o ≡ Unknown → s ≡ Func → q ≡ r → Decides t o n r p k a b s q a b
    decides_unknown z e f =
        record { told = λ c h path kept here. rw (e, f) (given_back h (unknown_ends t c kept here (sized-here c h) (h.operation ∙ z))) }

    pub decides_format : {s : Status} {q : ℕ} {new : List ℕ} → o ≡ Formt → new ≡ formatted (check_by t.edition) t.blocks → s ≡ Done → q ≡ r → Decides t o n r p k a b s q a new
    decides_format z w e f =
        record { told = λ c h path kept here. rw (e, f, w, ← h.reference, ← h.area) (format-ends t c kept here (sized-here c h) (h.operation ∙ z)) }

    pub decides_sign_on : {s : Status} {q : ℕ} → o ≡ Sinon → s ≡ cond (sound t b) Done Damg → q ≡ r → Decides t o n r p k a b s q a b
    decides_sign_on z e f =
        record {
          told = λ c h path kept here.
              rw (e, f) (given_back h (judged c kept here (sized-here c h) (h.operation ∙ z) (sound t b) (rw h.base refl)));
        }
      where
        judged : (c : Call) → keeps_rules c.schema ≡ true → schema_of c.schema ≡ t → length c.base ≡ t.blocks * 512 → operation_of c.operation ≡ Sinon → (d : Bool) → sound t c.base ≡ d → Ends (outcome c) (cond d Done Damg) c.reference c.area c.base
        judged c kept here z e true w = sound-ends t c kept here z e w
        judged c kept here z e false w = unsound_ends t c kept here z e w

    pub decides_behind : (u : Operation) {s : Status} {q : ℕ} {new after : List ℕ} → o ≡ u → one_of u (Unknown ∷ []) ≡ false → Answers t u n r k a b s q new after
        → Decides t o n r p k a b s q new after
    decides_behind u e z w =
        record { told = λ c h path kept here. rw (outcome-behind t c kept here (sized-here c h) (rw (h.operation, e) z)) (w.told c (asks_as h e)) }

    pub decides_path : (u : Operation) {s : Status} {q : ℕ} {new after : List ℕ} → o ≡ u → one_of u (Unknown ∷ []) ≡ false → AnswersNamed t u n p r k a b s q new after
        → Decides t o n r p k a b s q new after
    decides_path u e z w =
        record { told = λ c h path kept here. rw (outcome-behind t c kept here (sized-here c h) (rw (h.operation, e) z)) (w.told c (asks_as h e) path) }
