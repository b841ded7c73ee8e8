-- Going down the ladder: tests that pass are left behind, path by path too. And what FORMT answers.
use Prim.Native.Nat.{ℕ, zero, suc, ◌*◌, ◌<◌}
use Rattle.std.specs.Prelude.{◌≡◌, ◌⊎◌, Bool, true, false, cond, not, ◌&&◌, eqb, length}
use Rattle.std.proofs.Math.Path.{refl}
use Rattle.std.proofs.Common.{ap, ◌∙◌, inl, inr, arith}
use Rattle.schema.specs.Layout.{keeps_rules}
use mathlib.Core.List.{List, [], ◌∷◌, ◌++◌}
use Rattle.octets.specs.Below.{concat_below}
use Rattle.terms.specs.declared.Status.{Status}
use Rattle.terms.specs.declared.Status.TheVariants.{Done, Schm, Size, Func}
use Rattle.terms.specs.declared.Operation.{Operation}
use Rattle.terms.specs.declared.Operation.TheVariants.{Formt, Delvd, Unknown}
use Rattle.terms.specs.Operation.{operation_of}
use Rattle.plans.specs.Plan.{blocks_sealed}
use Rattle.calls.specs.Call.{Call, one_of, adds}
use Rattle.calls.specs.Scene.{Scene, scene_of, scene_under}
use Rattle.calls.specs.Reply.{stores_of}
use Rattle.calls.specs.Ladder.{Rung, rule_of, place_rungs, form_rungs, seek_rungs, added_rungs, own_rungs, other_rungs, final_rungs, rest_rungs, ladder, refuses, refusal}
use Rattle.calls.specs.Ladder.Rung.{StoredKeys}
use Rattle.calls.specs.Outcome.{outcome}
use Rattle.calls.proofs.Theorems.{status_of_ladder}

-- every test of the list passes
abbrev pub Passes : Scene → Call → List Rung → Type 0
Passes x c [] = Unit {0}
Passes x c (r ∷ rs) = (refuses x c r ≡ false) × Passes x c rs

module _ (x : Scene) (c : Call) where
  -- what is left of the ladder behind tests that pass
  pub refusal-passed : (rs more : List Rung) → Passes x c rs → refusal x c (rs ++ more) ≡ refusal x c more
  unfolding refusal
  refusal-passed [] more h = refl
  refusal-passed (r ∷ rs) more h = rw h.0 (refusal-passed rs more h.1)

  pub passes_append : (rs more : List Rung) → Passes x c rs → Passes x c more → Passes x c (rs ++ more)
  passes_append [] more h k = k
  passes_append (r ∷ rs) more h k = (h.0, passes_append rs more h.1 k)

  pub passes-below : (f : ℕ → List Rung) (n : ℕ) → ((k : ℕ) → k < n → Passes x c (f k)) → Passes x c (concat_below f n)
  unfolding concat_below
  passes-below f zero h = tt
  passes-below f (suc n) h = passes_append (concat_below f n) (f n) (passes-below f n (λ k l. h k (omega arith))) (h n (omega arith))

  pub refusal-done : (rs : List Rung) → Passes x c rs → refusal x c rs ≡ Done
  unfolding refusal
  refusal-done [] h = refl
  refusal-done (r ∷ rs) h = rw h.0 (refusal-done rs h.1)

  -- the other paths' masters are asked for by adds and DELVD alone
  pub others_pass : one_of x.operation adds ≡ false → one_of x.operation (Delvd ∷ []) ≡ false → (n : ℕ) → Passes x c (other_rungs n)
  others_pass h k n =
      passes_append (concat_below added_rungs n) (concat_below own_rungs n) (passes-below added_rungs n (λ i l. rw h (refl, (refl, tt))))
      (passes-below own_rungs n (λ i l. rw k (refl, (refl, tt))))

-- ---- the tests that an operation has

-- those of a list, in its order
abbrev pub asked_of : Operation → List Rung → List Rung
asked_of o [] = []
asked_of o (r ∷ rs) = cond ((rule_of r).asked o) (r ∷ asked_of o rs) (asked_of o rs)

-- what they judge is right
abbrev pub AllHold : Scene → Call → List Rung → Type 0
AllHold x c [] = Unit {0}
AllHold x c (r ∷ rs) = ((rule_of r).broken x c ≡ false) × AllHold x c rs

-- then all of the list pass: the others do not concern the operation
pub holds-passes : (x : Scene) (c : Call) (o : Operation) → x.operation ≡ o → (rs : List Rung) → AllHold x c (asked_of o rs) → Passes x c rs
holds-passes x c o q [] h = tt
holds-passes x c o q (r ∷ rs) h = go ((rule_of r).asked o) refl (holds-passes x c o q rs) h
  where
    left : (a b : Bool) → a ≡ false → (a && b) ≡ false
    left a b h = rw h refl

    right : (a b : Bool) → b ≡ false → (a && b) ≡ false
    right true b h = h
    right false b h = refl

    go : (b : Bool) → (rule_of r).asked o ≡ b → (AllHold x c (asked_of o rs) → Passes x c rs) → AllHold x c (cond b (r ∷ asked_of o rs) (asked_of o rs)) → Passes x c (r ∷ rs)
    go true e more k = (right ((rule_of r).asked x.operation) _ k.0, more k.1)
    go false e more k = (left ((rule_of r).asked x.operation) _ (ap (rule_of r).asked q ∙ e), more k)

-- ---- "FORMT answers only 0, 1 or 2"

module _ (x : Scene) (c : Call) (e : x.operation ≡ Formt) where
  -- behind the three general tests nothing refuses
  rest_pass : refusal x c (place_rungs ++ (form_rungs ++ (seek_rungs ++ rest_rungs x))) ≡ Done
  unfolding stores_of blocks_sealed
  rest_pass =
      refusal-passed x c (place_rungs ++ (form_rungs ++ (seek_rungs ++ (StoredKeys ∷ [])))) (other_rungs x.entry.count ++ final_rungs)
      (holds-passes x c Formt e (place_rungs ++ (form_rungs ++ (seek_rungs ++ (StoredKeys ∷ [])))) tt)
      ∙ refusal-passed x c (other_rungs x.entry.count) final_rungs (others_pass x c (rw e refl) (rw e refl) x.entry.count)
      ∙ refusal-done x c final_rungs (holds-passes x c Formt e final_rungs (rw e refl, tt))

-- 0, 1 or 2
abbrev OneOfThree : Status → Type 0
OneOfThree s = (s ≡ Done) ⊎ (s ≡ Schm) ⊎ (s ≡ Size)

three : (a b d : Bool) (s f : Status) → d ≡ false → s ≡ Done → OneOfThree (cond a Schm (cond b Size (cond d f s)))
three true b d s f z h = inr (inl refl)
three false true d s f z h = inr (inr refl)
three false false true s f z h = absurd (let w : ◌≡◌ {A = ℕ} 0 1 = cc in omega arith)
three false false false s f z h = inl h

format-refusal : (x : Scene) (c : Call) → x.operation ≡ Formt → OneOfThree (refusal x c (ladder x))
unfolding ladder refusal
format-refusal x c e =
    three (not (keeps_rules c.schema)) (not (eqb (length c.base) (x.schema.blocks * 512))) (one_of x.operation (Unknown ∷ []) && true) _ Func
    (rw e refl) (rest_pass x c e)

pub format-answers : (c : Call) → operation_of c.operation ≡ Formt → OneOfThree (outcome c).status
unfolding scene_under
format-answers c e = rw (status_of_ladder c) (format-refusal (scene_of c) c e)
