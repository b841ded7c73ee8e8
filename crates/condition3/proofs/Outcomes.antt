-- The outcome of a call that passes every test is the reply, and the other way round: a call that is done has passed every test. The ladder
-- is passed if each of its groups is, and the other way round.
use Rattle.std.specs.Prelude.{ℕ, ◌≡◌, refl, ◌≢◌, List, [], ◌∷◌, ◌++◌}
use Rattle.terms.specs.declared.Status.TheVariants.{Done}
use Rattle.schema.specs.declared.Entry.{Entry}
use Rattle.records.specs.Areas.{area_of}
use Rattle.calls.specs.Call.{Call, Outcome}
use Rattle.calls.specs.Scene.{Scene, scene_of}
use Rattle.calls.specs.Reply.{or_end}
use Rattle.calls.specs.Ladder.{Rung, general_rungs, place_rungs, form_rungs, seek_rungs, other_rungs, final_rungs, ladder}
use Rattle.calls.specs.Ladder.Rung.{StoredKeys}
use Rattle.calls.proofs.LadderLaws.{Passes, refusal-done, passes_append}
use Rattle.calls.specs.Outcome.{done, outcome_in, outcome}
use Rattle.calls.proofs.OutcomeLaws.{done-passed}
use Rattle.condition3.proofs.Calm.{passes-left, passes-right}

-- ---- the groups of the ladder

-- set, path and forms; the named master, the referenced record and its stored keys
abbrev pub parameter_rungs : List Rung
parameter_rungs = place_rungs ++ form_rungs

abbrev pub found_rungs : List Rung
found_rungs = seek_rungs ++ (StoredKeys ∷ [])

pub record AllPassed (x : Scene) (c : Call) : Type 0 where
  pub general : Passes x c general_rungs
  pub parameters : Passes x c parameter_rungs
  pub found : Passes x c found_rungs
  pub others : Passes x c (other_rungs x.entry.count)
  pub final : Passes x c final_rungs

pub climbed : (x : Scene) (c : Call) → AllPassed x c → Passes x c (ladder x)
unfolding ladder
climbed x c r =
    let n = x.entry.count in
    passes_append x c general_rungs (parameter_rungs ++ (found_rungs ++ (other_rungs n ++ final_rungs))) r.general
    (passes_append x c parameter_rungs (found_rungs ++ (other_rungs n ++ final_rungs)) r.parameters
    (passes_append x c found_rungs (other_rungs n ++ final_rungs) r.found (passes_append x c (other_rungs n) final_rungs r.others r.final)))

rungs_of_lem : (x : Scene) (c : Call) → Passes x c (ladder x) → AllPassed x c
unfolding ladder
rungs_of_lem x c h =
    let n = x.entry.count in
    let p = passes-right x c general_rungs (parameter_rungs ++ (found_rungs ++ (other_rungs n ++ final_rungs))) h in
    let f = passes-right x c parameter_rungs (found_rungs ++ (other_rungs n ++ final_rungs)) p in
    let o = passes-right x c found_rungs (other_rungs n ++ final_rungs) f in
    record {
      general = passes-left x c general_rungs (parameter_rungs ++ (found_rungs ++ (other_rungs n ++ final_rungs))) h;
      parameters = passes-left x c parameter_rungs (found_rungs ++ (other_rungs n ++ final_rungs)) p;
      found = passes-left x c found_rungs (other_rungs n ++ final_rungs) f;
      others = passes-left x c (other_rungs n) final_rungs o;
      final = passes-right x c (other_rungs n) final_rungs o;
    }

-- ---- outcomes

pub outcome-done : (c : Call) → Passes (scene_of c) c (ladder (scene_of c)) → outcome c ≡ done (scene_of c) c
unfolding outcome outcome_in
outcome-done c h = rw (refusal-done (scene_of c) c (ladder (scene_of c)) h) refl

pub done-is : (c : Call) → (outcome c).status ≡ Done → outcome c ≡ done (scene_of c) c
done-is c h = outcome-done c (done-passed c h)

pub done_rungs : (c : Call) → (outcome c).status ≡ Done → AllPassed (scene_of c) c
done_rungs c h = rungs_of_lem (scene_of c) c (done-passed c h)

-- an answer that gives the record n of set e; where n is 0 it says END.
pub record Gives (b : List ℕ) (e : Entry) (o : Outcome) (n : ℕ) : Type 0 where
  pub status : o.status ≡ Done
  pub reference : o.reference ≡ or_end n
  pub area : n ≢ 0 → o.area ≡ area_of b e n
