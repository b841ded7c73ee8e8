-- From the outcome of a call to what its parts answer: the general tests first; then FORMT and SINON, or what is behind them.
use Rattle.std.specs.Prelude.{◌*◌, ◌≡◌, true, false, cond, not, [], ◌∷◌, length}
use Rattle.std.proofs.Math.Path.{refl, ap}
use Rattle.std.proofs.Common.{sym, ◌∙◌, arith}
use borrow.Author.Tests.{eq-eqb, ne_eqb}
use Rattle.terms.specs.declared.Status.TheVariants.{Done, Schm, Size, Func, Damg}
use Rattle.terms.specs.declared.Operation.TheVariants.{Formt, Sinon, Unknown}
use Rattle.terms.specs.Laws.{first_of_assoc}
use Rattle.terms.specs.Operation.{operation_of}
use Rattle.schema.specs.declared.Schema.{Schema}
use Rattle.schema.specs.Decode.{schema_of}
use Rattle.schema.specs.Layout.{keeps_rules}
use Rattle.blocks.specs.Blocks.{check_by}
use Rattle.plans.specs.Plan.{store_all, seal_all, committed, formatted}
use Rattle.sound.specs.Sound.{sound}
use Rattle.calls.proofs.SceneLaws.{schema-here, operation-here}
use Rattle.calls.specs.Call.{Call, one_of}
use Rattle.calls.specs.Scene.{scene_under}
use Rattle.calls.specs.Ladder.{general_rungs, place_rungs, form_rungs, ladder, refusal}
use Rattle.calls.specs.Reply.{given, reference_after, area_after, stores_of, base_after}
use Rattle.calls.specs.Outcome.{done, outcome_in, outcome, answered}
use Rattle.calls.proofs.Answer.{refusal-groups}
use Rattle.calls.proofs.RestLaws.{rest-sinon, rest-formt}
use Rattle.ends.specs.Ends.{Ends}
use Rattle.ends.specs.EndsLaws.{refused-ends}
use Rattle.ends.specs.Asks.{past_general}

-- a schema that breaks a rule
pub schema-ends : (c : Call) → keeps_rules c.schema ≡ false → Ends (outcome c) Schm c.reference c.area c.base
unfolding outcome outcome_in ladder refusal
schema-ends c k = rw k (record { status = refl; reference = refl; area = refl; base = refl })

module _ (t : Schema) (c : Call) (kept : keeps_rules c.schema ≡ true) (here : schema_of c.schema ≡ t) where
  outcome-under : outcome c ≡ answered (scene_under t c) c (refusal (scene_under t c) c (ladder (scene_under t c)))
  unfolding outcome outcome_in answered
  outcome-under = rw here refl

  -- 2
  pub size-ends : (length c.base ≡ t.blocks * 512 → ⊥) → Ends (outcome c) Size c.reference c.area c.base
  unfolding ladder refusal
  size-ends h =
      rw outcome-under
      (refused-ends (scene_under t c) c _ Size (rw (kept, schema-here t c, ne_eqb (length c.base) (t.blocks * 512) h) refl) (omega arith))

  module _ (sized : length c.base ≡ t.blocks * 512) where
    -- 3
    pub unknown_ends : operation_of c.operation ≡ Unknown → Ends (outcome c) Func c.reference c.area c.base
    unfolding ladder refusal
    unknown_ends e =
        rw outcome-under
        (refused-ends (scene_under t c) c _ Func (rw (kept, schema-here t c, eq-eqb (length c.base) (t.blocks * 512) sized, operation-here t c, e) refl) (omega arith))

    general_pass : one_of (operation_of c.operation) (Unknown ∷ []) ≡ false → refusal (scene_under t c) c general_rungs ≡ Done
    unfolding refusal
    general_pass e = rw (kept, schema-here t c, eq-eqb (length c.base) (t.blocks * 512) sized, operation-here t c, e) refl

    -- the rest is behind the general tests
    pub outcome-behind : one_of (operation_of c.operation) (Unknown ∷ []) ≡ false → outcome c ≡ past_general t c
    unfolding past_general
    outcome-behind e =
        outcome-under ∙ ap (answered (scene_under t c) c)
        (refusal-groups (scene_under t c) c ∙ (rw (general_pass e) (sym (first_of_assoc (refusal (scene_under t c) c place_rungs) (refusal (scene_under t c) c form_rungs) _))))

    -- ---- FORMT and SINON: "FORMT and SINON test no more parameters"

    format-answers : operation_of c.operation ≡ Formt
        → past_general t c ≡ record { status = Done; reference = c.reference; area = c.area; base = formatted (check_by t.edition) t.blocks }
    unfolding past_general refusal answered done reference_after area_after given base_after
    format-answers e = rw (rest-formt (scene_under t c) c (operation-here t c ∙ e), operation-here t c, e, schema-here t c) refl

    pub format-ends : operation_of c.operation ≡ Formt → Ends (outcome c) Done c.reference c.area (formatted (check_by t.edition) t.blocks)
    format-ends e = rw (outcome-behind (rw e refl), format-answers e) (record { status = refl; reference = refl; area = refl; base = refl })

    sign_on-answers : operation_of c.operation ≡ Sinon → past_general t c ≡ answered (scene_under t c) c (cond (not (sound t c.base)) Damg Done)
    unfolding past_general refusal
    sign_on-answers e = ap (answered (scene_under t c) c) (rw (rest-sinon (scene_under t c) c (operation-here t c ∙ e), operation-here t c, e, schema-here t c) refl)

    sound-answers : operation_of c.operation ≡ Sinon → answered (scene_under t c) c Done ≡ record { status = Done; reference = c.reference; area = c.area; base = c.base }
    unfolding answered done reference_after area_after given base_after stores_of committed store_all seal_all
    sound-answers e = rw (operation-here t c, e) refl

    pub sound-ends : operation_of c.operation ≡ Sinon → sound t c.base ≡ true → Ends (outcome c) Done c.reference c.area c.base
    sound-ends e s = rw (outcome-behind (rw e refl), sign_on-answers e, s, sound-answers e) (record { status = refl; reference = refl; area = refl; base = refl })

    pub unsound_ends : operation_of c.operation ≡ Sinon → sound t c.base ≡ false → Ends (outcome c) Damg c.reference c.area c.base
    unsound_ends e s = rw (outcome-behind (rw e refl), sign_on-answers e, s) (refused-ends (scene_under t c) c Damg Damg refl (omega arith))
