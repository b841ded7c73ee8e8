-- What is left of the ladder for the adds and DELVD once the named master and the referenced record are known: "the other paths' masters in
-- path order (16, then 12; in DELVD an absent one is 16)", the room, the damage, and in the end the blocks stored into. The ladder asks it
-- test by test; `points` has all but the last as one status, since that is what its code answers.
use Prim.Native.Nat.{ℕ, zero, suc}
use Rattle.std.specs.Prelude.{◌≡◌, Bool, true, false, cond, not, ◌&&◌, List, [], ◌∷◌, ◌++◌, eqb}
use Rattle.std.proofs.Math.Path.{refl, ap, sym}
use Rattle.std.proofs.Common.{◌∙◌, append_assoc, arith}
use Rattle.octets.specs.Below.{concat_below}
use Rattle.terms.specs.declared.Status.{Status}
use Rattle.terms.specs.declared.Status.TheVariants.{Done, Mrnf, Full, Damg}
use Rattle.terms.specs.declared.Operation.TheVariants.{Writv, Addvc, Addvb, Addva, Delvd}
use Rattle.terms.specs.Status.{status_number, first_of}
use Rattle.schema.specs.Decode.{masters_on}
use Rattle.records.specs.Areas.{area_key_on}
use Rattle.masters.specs.declared.Found.{Found}
use Rattle.masters.specs.declared.Found.TheVariants.{At, Missing, Damaged}
use Rattle.scan.specs.Scan.{is_full}
use Rattle.masters.specs.Find.{is_missing, is_damaged}
use Rattle.points.specs.Points.{add_damaged, own_key, del_damaged}
use Rattle.point_plans.specs.Rest.{master_status, other_master, other_masters, add_status, del_status}
use Rattle.calls.specs.Call.{Call, one_of, adds}
use Rattle.calls.specs.Scene.{Scene}
use Rattle.calls.specs.Reply.{spot_of}
use Rattle.calls.specs.Ladder.{Rung, added_on, own_on, added_rungs, own_rungs, final_rungs, rest_rungs, refusal}
use Rattle.calls.proofs.LadderLaws.{Passes, refusal-passed, passes-below}
use Rattle.calls.proofs.RestLaws.{storable}
use Rattle.terms.specs.Laws.{first_of_assoc, one_first, two_first}

-- the two tests of one path, "16, then 12", and the one status of its master's search; `named` where it is the named path
one_path : (absent more : Status) → eqb (status_number absent) 0 ≡ false → (named : Bool) (f : Found)
    → cond (not named && is_damaged f) Damg (cond (not named && is_missing f) absent more) ≡ first_of (cond named Done (master_status absent f)) more
one_path absent more h true f = refl
one_path absent more h false (At r) = refl
one_path absent more h false Missing = rw h refl
one_path absent more h false Damaged = refl

module _ (x : Scene) (c : Call) where
  -- the tests of the first n paths are the status of their masters, if those of each path are
  paths : (absent : Status) (key : ℕ → List ℕ) (f : ℕ → List Rung)
      → ((k : ℕ) (more : List Rung) → refusal x c (f k ++ more) ≡ first_of (other_master c.base (masters_on x.schema x.entry) x.on absent key k) (refusal x c more))
      → (n : ℕ) (more : List Rung)
      → refusal x c (concat_below f n ++ more) ≡ first_of (other_masters c.base (masters_on x.schema x.entry) x.on absent key n) (refusal x c more)
  unfolding concat_below other_masters
  paths absent key f h zero more = refl
  paths absent key f h (suc n) more =
      ap (refusal x c) (append_assoc (concat_below f n) (f n) more)
      ∙ paths absent key f h n (f n ++ more)
      ∙ ap (first_of (other_masters c.base (masters_on x.schema x.entry) x.on absent key n)) (h n more)
      ∙ sym (first_of_assoc (other_masters c.base (masters_on x.schema x.entry) x.on absent key n)
      (other_master c.base (masters_on x.schema x.entry) x.on absent key n) (refusal x c more))

  -- the adds' keys are the area's, DELVD's are the stored ones
  added-path : one_of x.operation adds ≡ true → (k : ℕ) (more : List Rung)
      → refusal x c (added_rungs k ++ more) ≡ first_of (other_master c.base (masters_on x.schema x.entry) x.on Mrnf (area_key_on x.entry c.area) k) (refusal x c more)
  unfolding refusal
  added-path h k more = rw h (one_path Mrnf (refusal x c more) refl (eqb k x.on) (added_on x c k))

  own-path : one_of x.operation (Delvd ∷ []) ≡ true → (k : ℕ) (more : List Rung)
      → refusal x c (own_rungs k ++ more) ≡ first_of (other_master c.base (masters_on x.schema x.entry) x.on Damg (own_key c.base x.schema x.entry c.reference) k) (refusal x c more)
  unfolding refusal
  own-path h k more = rw h (one_path Damg (refusal x c more) refl (eqb k x.on) (own_on x c k))

  abbrev added : List Rung
  added = concat_below added_rungs x.entry.count

  abbrev own : List Rung
  own = concat_below own_rungs x.entry.count

  -- those of a call of another kind pass
  added_pass : one_of x.operation adds ≡ false → Passes x c added
  added_pass h = passes-below x c added_rungs x.entry.count (λ k l. rw h (refl, (refl, tt)))

  own_pass : one_of x.operation (Delvd ∷ []) ≡ false → Passes x c own
  own_pass h = passes-below x c own_rungs x.entry.count (λ k l. rw h (refl, (refl, tt)))

  groups : one_of x.operation (Writv ∷ []) ≡ false → refusal x c (rest_rungs x) ≡ refusal x c (added ++ (own ++ final_rungs))
  unfolding refusal
  groups w = rw w (ap (refusal x c) (append_assoc added own final_rungs))

  -- ---- the adds

  -- what an add answers before the blocks that it stores into are asked
  abbrev pub addable : Status
  addable = add_status c.base x.schema x.entry c.area (spot_of x.operation c.reference) x.on

  abbrev add_others : Status
  add_others = other_masters c.base (masters_on x.schema x.entry) x.on Mrnf (area_key_on x.entry c.area) x.entry.count

  abbrev add_damage : Bool
  add_damage = add_damaged c.base x.schema x.entry c.area (spot_of x.operation c.reference) x.on

  rest-add : one_of x.operation adds ≡ true → one_of x.operation (Delvd ∷ []) ≡ false → one_of x.operation (Writv ∷ []) ≡ false
      → refusal x c final_rungs ≡ cond (is_full c.base x.entry) Full (cond add_damage Damg (storable x c))
      → refusal x c (rest_rungs x) ≡ first_of addable (storable x c)
  unfolding add_status
  rest-add h k w f =
      groups w
      ∙ paths Mrnf (area_key_on x.entry c.area) added_rungs (added-path h) x.entry.count (own ++ final_rungs)
      ∙ ap (first_of add_others)
      (refusal-passed x c own final_rungs (own_pass k)
      ∙ f ∙ two_first (is_full c.base x.entry) add_damage Full Damg (storable x c) (omega arith) (omega arith))
      ∙ sym (first_of_assoc add_others (cond (is_full c.base x.entry) Full (cond add_damage Damg Done)) (storable x c))

  pub rest-addvc : x.operation ≡ Addvc → refusal x c (rest_rungs x) ≡ first_of addable (storable x c)
  unfolding refusal
  rest-addvc e = rest-add (rw e refl) (rw e refl) (rw e refl) (rw e refl)

  pub rest-addvb : x.operation ≡ Addvb → refusal x c (rest_rungs x) ≡ first_of addable (storable x c)
  unfolding refusal
  rest-addvb e = rest-add (rw e refl) (rw e refl) (rw e refl) (rw e refl)

  pub rest-addva : x.operation ≡ Addva → refusal x c (rest_rungs x) ≡ first_of addable (storable x c)
  unfolding refusal
  rest-addva e = rest-add (rw e refl) (rw e refl) (rw e refl) (rw e refl)

  -- ---- DELVD

  -- the same of DELVD
  abbrev pub deletable : Status
  deletable = del_status c.base x.schema x.entry c.reference x.on

  abbrev del_others : Status
  del_others = other_masters c.base (masters_on x.schema x.entry) x.on Damg (own_key c.base x.schema x.entry c.reference) x.entry.count

  abbrev del_damage : Bool
  del_damage = del_damaged c.base x.schema x.entry c.reference

  final-delvd : x.operation ≡ Delvd → refusal x c final_rungs ≡ cond del_damage Damg (storable x c)
  unfolding refusal
  final-delvd e = rw e refl

  pub rest-delvd : x.operation ≡ Delvd → refusal x c (rest_rungs x) ≡ first_of deletable (storable x c)
  unfolding del_status
  rest-delvd e =
      groups (rw e refl)
      ∙ refusal-passed x c added (own ++ final_rungs) (added_pass (rw e refl))
      ∙ paths Damg (own_key c.base x.schema x.entry c.reference) own_rungs (own-path (rw e refl)) x.entry.count final_rungs
      ∙ ap (first_of del_others) (final-delvd e ∙ one_first del_damage Damg (storable x c) (omega arith))
      ∙ sym (first_of_assoc del_others (cond del_damage Damg Done) (storable x c))
