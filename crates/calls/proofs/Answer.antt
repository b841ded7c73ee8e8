-- The ladder taken in groups, as the code goes down it: the group that refuses first decides. Behind the groups that all calls share an
-- operation is left with the rest, which is a few tests.
use Rattle.std.specs.Prelude.{◌<◌, ◌≡◌, Bool, true, false}
use Rattle.std.proofs.Math.Path.{refl, ap}
use Rattle.std.proofs.Common.{◌∙◌, arith, lit<, ne_eqb}
use Rattle.std.proofs.Math.Bool.{cond}
use mathlib.Core.List.{List, [], ◌∷◌, ◌++◌}
use Rattle.terms.specs.declared.Status.{Status}
use Rattle.terms.specs.Status.{status_number, first_of}
use Rattle.calls.specs.Call.{Call}
use Rattle.calls.specs.Scene.{Scene}
use Rattle.calls.specs.Ladder.{Rung, rule_of, general_rungs, place_rungs, form_rungs, seek_rungs, rest_rungs, ladder, refuses, refusal}
use Rattle.calls.proofs.OutcomeLaws.{Refusing}

one : (b : Bool) (s : Status) (t u : Status) → 0 < status_number s → cond b s (first_of t u) ≡ first_of (cond b s t) u
one true s t u h = rw (ne_eqb (status_number s) 0 (λ e. omega arith)) refl
one false s t u h = refl

module _ (x : Scene) (c : Call) where
  pub refusal_append : (rs more : List Rung) → Refusing rs → refusal x c (rs ++ more) ≡ first_of (refusal x c rs) (refusal x c more)
  unfolding refusal
  refusal_append [] more h = refl
  refusal_append (r ∷ rs) more h =
      ap (λ s. cond (refuses x c r) (rule_of r).status s) (refusal_append rs more h.1)
      ∙ one (refuses x c r) (rule_of r).status (refusal x c rs) (refusal x c more) h.0

  -- the first group that refuses decides
  pub refusal-groups : refusal x c (ladder x)
      ≡ first_of (refusal x c general_rungs) (first_of (refusal x c place_rungs) (first_of (refusal x c form_rungs) (first_of (refusal x c seek_rungs) (refusal x c (rest_rungs x)))))
  unfolding ladder
  refusal-groups =
      refusal_append general_rungs (place_rungs ++ (form_rungs ++ (seek_rungs ++ rest_rungs x))) (search (tt, lit<))
      ∙ ap (first_of (refusal x c general_rungs))
      (refusal_append place_rungs (form_rungs ++ (seek_rungs ++ rest_rungs x)) (search (tt, lit<))
      ∙ ap (first_of (refusal x c place_rungs))
      (refusal_append form_rungs (seek_rungs ++ rest_rungs x) (search (tt, lit<))
      ∙ ap (first_of (refusal x c form_rungs)) (refusal_append seek_rungs (rest_rungs x) (search (tt, lit<)))))
