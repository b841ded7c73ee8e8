-- A call that is done has passed every test of the ladder; and no call changes how long the data base is.
use Rattle.std.specs.Prelude.{ℕ, zero, suc, ◌*◌, ◌<◌, ◌≡◌, refl, Bool, true, false, cond, ◌||◌, List, [], ◌∷◌, ◌++◌, eqb, length}
use Rattle.std.proofs.Common.{sym, ◌∙◌, lit<, eqb-true}
use Rattle.std.proofs.lemmas.Bool.{not-false}
use Rattle.octets.specs.Below.{concat_below}
use Rattle.octets.specs.TestLaws.{never_both}
use Rattle.terms.specs.declared.Status.{Status}
use Rattle.terms.specs.declared.Status.TheVariants.{Done}
use Rattle.terms.specs.Status.{status_number}
use Rattle.calls.specs.Call.{Call, one_of}
use Rattle.calls.specs.Scene.{Scene, scene_of}
use Rattle.calls.specs.Ladder.{Rung, rule_of, general_rungs, place_rungs, form_rungs, seek_rungs, added_rungs, own_rungs, other_rungs, final_rungs, ladder, refuses, refusal}
use Rattle.calls.specs.Ladder.Rung.{SchemaRules, BaseLength, KnownCall, SetName, SetKind, PathName, AreaLength, KeyLength, KeyNotBlank, AreaKeysNotBlank, AreaKeySame, ReadForm, SweepForm, LastForm, NumberForm, MasterIntact, MasterThere, MasterNew, ReadPoint, NumberPoint, StoredKeys, AddedIntact, AddedThere, OwnIntact, OwnThere, NoPoints, MasterRoom, PointRoom, SoundBase, ForwardIntact, BackwardIntact, AddHomeIntact, DelHomeIntact, AddChainsIntact, DelChainsIntact, StoredIntoSealed}
use Rattle.blocks.specs.Blocks.{check_by}
use Rattle.plans.specs.Plan.{formatted, committed}
use Rattle.plans.proofs.PlanLaws.{length-committed, length-formatted}
use Rattle.terms.specs.Laws.{status-number-one, one_passes}
use Rattle.calls.specs.Reply.{stores_of, base_after}
use Rattle.calls.specs.Outcome.{refused, done, outcome_in, outcome}
use Rattle.calls.proofs.Theorems.{status_of_ladder}
use Rattle.calls.proofs.LadderLaws.{Passes}
use Rattle.terms.specs.declared.Operation.TheVariants.{Formt}

-- every test of the list refuses with a status that is not 0
abbrev pub Refusing : List Rung → Type 0
Refusing [] = Unit {0}
Refusing (r ∷ rs) = (0 < status_number (rule_of r).status) × Refusing rs

refusing_append : (rs more : List Rung) → Refusing rs → Refusing more → Refusing (rs ++ more)
refusing_append [] more h k = k
refusing_append (r ∷ rs) more h k = (h.0, refusing_append rs more h.1 k)

refusing-below : (f : ℕ → List Rung) (n : ℕ) → ((k : ℕ) → Refusing (f k)) → Refusing (concat_below f n)
unfolding concat_below
refusing-below f zero h = tt
refusing-below f (suc n) h = refusing_append (concat_below f n) (f n) (refusing-below f n h) (h n)

-- each rung's status is a refusal
ladder-refuses : (x : Scene) → Refusing (ladder x)
unfolding ladder
ladder-refuses x =
    let n = x.entry.count in
    refusing_append (general_rungs ++ (place_rungs ++ (form_rungs ++ (seek_rungs ++ (StoredKeys ∷ []))))) (other_rungs n ++ final_rungs) (search (tt, lit<))
    (refusing_append (other_rungs n) final_rungs
    (refusing_append (concat_below added_rungs n) (concat_below own_rungs n) (refusing-below added_rungs n (λ k. search (tt, lit<))) (refusing-below own_rungs n (λ k. search (tt, lit<))))
    (search (tt, lit<)))

pub done-passes : (x : Scene) (c : Call) (rs : List Rung) → Refusing rs → refusal x c rs ≡ Done → Passes x c rs
unfolding refusal
done-passes x c [] h e = tt
done-passes x c (r ∷ rs) h e =
    let p = one_passes (refuses x c r) (rule_of r).status (refusal x c rs) h.0 e in
    (p.0, done-passes x c rs h.1 p.1)

-- a call that is done has passed every test
pub done-passed : (c : Call) → (outcome c).status ≡ Done → Passes (scene_of c) c (ladder (scene_of c))
done-passed c h = done-passes (scene_of c) c (ladder (scene_of c)) (ladder-refuses (scene_of c)) (sym (status_of_ladder c) ∙ h)

-- ---- a test by its name

-- a number for each rung, by which lists of them are searched
abbrev rung_number : Rung → ℕ
rung_number SchemaRules = 0
rung_number BaseLength = 1
rung_number KnownCall = 2
rung_number SetName = 3
rung_number SetKind = 4
rung_number PathName = 5
rung_number AreaLength = 6
rung_number KeyLength = 7
rung_number KeyNotBlank = 8
rung_number AreaKeysNotBlank = 9
rung_number AreaKeySame = 10
rung_number ReadForm = 11
rung_number SweepForm = 12
rung_number LastForm = 13
rung_number NumberForm = 14
rung_number MasterIntact = 15
rung_number MasterThere = 16
rung_number MasterNew = 17
rung_number ReadPoint = 18
rung_number NumberPoint = 19
rung_number StoredKeys = 20
rung_number (AddedIntact k) = 21
rung_number (AddedThere k) = 22
rung_number (OwnIntact k) = 23
rung_number (OwnThere k) = 24
rung_number NoPoints = 25
rung_number MasterRoom = 26
rung_number PointRoom = 27
rung_number SoundBase = 28
rung_number ForwardIntact = 29
rung_number BackwardIntact = 30
rung_number AddHomeIntact = 31
rung_number DelHomeIntact = 32
rung_number AddChainsIntact = 33
rung_number DelChainsIntact = 34
rung_number StoredIntoSealed = 35

-- the rung of the list that has this one's number; itself where there is none
abbrev pub rung_in : Rung → List Rung → Rung
rung_in r [] = r
rung_in r (q ∷ qs) = cond (eqb (rung_number q) (rung_number r)) q (rung_in r qs)

abbrev pub has_rung : Rung → List Rung → Bool
has_rung r [] = false
has_rung r (q ∷ qs) = eqb (rung_number q) (rung_number r) || has_rung r qs

-- Of a list that is passed each test is, by its name: in a list that is written out `rung_in r rs` is r.
pub passed : (x : Scene) (c : Call) (rs : List Rung) (r : Rung) → has_rung r rs ≡ true → Passes x c rs → refuses x c (rung_in r rs) ≡ false
passed x c [] r h p = absurd (never_both false h refl)
passed x c (q ∷ qs) r h p = go (eqb (rung_number q) (rung_number r)) h (λ k. passed x c qs r k p.1)
  where
    go : (b : Bool) → (b || has_rung r qs) ≡ true → (has_rung r qs ≡ true → refuses x c (rung_in r qs) ≡ false) → refuses x c (cond b q (rung_in r qs)) ≡ false
    go true h more = p.0
    go false h more = more h

-- ---- lengths

sized : (x : Scene) (c : Call) → Passes x c (ladder x) → length c.base ≡ x.schema.blocks * 512
unfolding ladder
sized x c h = eqb-true (length c.base) (x.schema.blocks * 512) (not-false _ (passed x c (ladder x) BaseLength refl h))

after-length : (f : Bool) (x : Scene) (c : Call) → length c.base ≡ x.schema.blocks * 512
    → length (cond f (formatted (check_by x.schema.edition) x.schema.blocks) (committed (check_by x.schema.edition) c.base (stores_of x c))) ≡ length c.base
after-length true x c h = length-formatted (check_by x.schema.edition) x.schema.blocks ∙ sym h
after-length false x c h = length-committed (check_by x.schema.edition) c.base (stores_of x c)

done-length : (x : Scene) (c : Call) → refusal x c (ladder x) ≡ Done → length (done x c).base ≡ length c.base
unfolding done base_after
done-length x c e = after-length (one_of x.operation (Formt ∷ [])) x c (sized x c (done-passes x c (ladder x) (ladder-refuses x) e))

either-length : (b : Bool) (x : Scene) (c : Call) (s : Status) → (b ≡ true → length (done x c).base ≡ length c.base)
    → length (cond b (done x c) (refused c s)).base ≡ length c.base
either-length true x c s h = h refl
either-length false x c s h = refl

-- no call changes how long the data base is
pub base_length : (c : Call) → length (outcome c).base ≡ length c.base
unfolding outcome outcome_in
base_length c =
    either-length (eqb (status_number (refusal (scene_of c) c (ladder (scene_of c)))) 0) (scene_of c) c (refusal (scene_of c) c (ladder (scene_of c)))
    (λ h. done-length (scene_of c) c (status-number-one (refusal (scene_of c) c (ladder (scene_of c))) Done (eqb-true _ 0 h)))
