-- RDNXT passes every test where the schema keeps the rules, the data base has its length, the set is known, the area has its length and the
-- reference is at most R. Its answer is the next live record above the reference, or END.
use Rattle.std.specs.Prelude.{◌*◌, ◌≤◌, ◌<◌, ◌≡◌, true, List}
use Rattle.std.proofs.Math.Path.{refl}
use native.Mathlib.Omega.{arith}
use Rattle.std.proofs.Math.ListN.{length}
use borrow.Author.Tests.{eq-eqb, ne_eqb, le-leb, lt-ltb}
use Rattle.octets.specs.Octets.{same_bytes}
use Rattle.octets.specs.Text.{text}
use Rattle.terms.specs.declared.Operation.TheVariants.{Rdnxt}
use Rattle.terms.specs.Operation.{operation_of}
use Rattle.schema.specs.Decode.{set_count, schema_of}
use Rattle.schema.specs.Layout.{keeps_rules}
use Rattle.records.specs.Areas.{area_length}
use Rattle.scan.specs.Scan.{next_live}
use Rattle.plans.specs.Plan.{blocks_sealed}
use Rattle.calls.specs.Call.{Call}
use Rattle.calls.specs.Scene.{scene_under, scene_of}
use Rattle.calls.specs.Reply.{or_none, given, reference_after, area_after, stores_of}
use Rattle.calls.specs.Ladder.{wrong_kind, Rung, general_rungs, final_rungs, ladder}
use Rattle.calls.proofs.LadderLaws.{Passes, others_pass, asked_of, AllHold, holds-passes}
use Rattle.calls.specs.Outcome.{done, outcome}
use Rattle.condition3.specs.Plain.{set_in, entry_in}
use Rattle.condition3.proofs.Outcomes.{parameter_rungs, found_rungs, climbed, outcome-done, Gives}

pub rdnxt_asks : operation_of (text "RDNXT") ≡ Rdnxt
unfolding operation_of same_bytes
rdnxt_asks = refl

-- ---- the call

module _ (c : Call) (q : operation_of c.operation ≡ Rdnxt) (rules : keeps_rules c.schema ≡ true) (sized : length c.base ≡ 512 * (schema_of c.schema).blocks)
    (known : set_in c < set_count (schema_of c.schema)) (lent : length c.area ≡ area_length (entry_in c)) (within : c.reference ≤ (entry_in c).records) where
  operation-here : (scene_of c).operation ≡ Rdnxt
  unfolding scene_under
  operation-here = q

  -- a test that RDNXT has not does not concern it
  has : (rs : List Rung) → AllHold (scene_of c) c (asked_of Rdnxt rs) → Passes (scene_of c) c rs
  has = holds-passes (scene_of c) c Rdnxt operation-here

  passes : Passes (scene_of c) c (ladder (scene_of c))
  unfolding scene_under wrong_kind stores_of blocks_sealed
  passes =
      let l : length c.base ≡ (schema_of c.schema).blocks * 512 = omega arith in
      climbed (scene_of c) c (record {
        general = has general_rungs (rw rules refl, (rw (eq-eqb _ _ l) refl, tt));
        parameters = has parameter_rungs (rw (lt-ltb _ _ known) refl, (rw q refl, (rw (eq-eqb _ _ lent) refl, (rw (le-leb _ _ within) refl, tt))));
        found = has found_rungs tt;
        others = others_pass (scene_of c) c (rw operation-here refl) (rw operation-here refl) (entry_in c).count;
        final = has final_rungs (rw q refl, tt);
      })

  reply : Gives c.base (entry_in c) (done (scene_of c) c) (or_none (entry_in c) (next_live c.base (entry_in c) c.reference))
  unfolding done scene_under reference_after area_after given
  reply = record { status = refl; reference = rw q refl; area = λ d. rw (q, ne_eqb _ 0 d) refl }

  pub sweep-gives : Gives c.base (entry_in c) (outcome c) (or_none (entry_in c) (next_live c.base (entry_in c) c.reference))
  sweep-gives = rw (outcome-done c passes) reply
