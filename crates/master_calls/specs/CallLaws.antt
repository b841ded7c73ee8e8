-- How each call on masters ends, from what its code has read: the search's answer, the record that is given, the plan that is committed.
use Rattle.std.specs.Prelude.{ℕ, ◌≡◌, List, [], length, Result, Ok, Err}
use Rattle.std.proofs.Math.Path.{refl, ap}
use Rattle.std.proofs.Common.{sym, ◌∙◌, ⊎_elim, arith}
use Rattle.terms.specs.Terms.{home_of}
use Rattle.terms.specs.declared.Status.{Status}
use Rattle.terms.specs.declared.Status.TheVariants.{Done, Mrnf, Dupm, Imdl, Full, Damg}
use Rattle.terms.specs.declared.Operation.{Operation}
use Rattle.terms.specs.declared.Operation.TheVariants.{AddM, DelM, Readm, Writm, Rqloc}
use Rattle.terms.specs.declared.RecordNo.{RecordNo}
use Rattle.schema.specs.declared.Entry.{Entry}
use Rattle.schema.specs.declared.Schema.{Schema}
use Rattle.records.specs.Areas.{area_length}
use Rattle.plans.specs.declared.Head.{Head}
use Rattle.plans.specs.declared.Head.TheVariants.{Nothing, Body, Master, Variable, Stranger, Synonym}
use Rattle.plans.specs.declared.Plan.{Plan}
use Rattle.blocks.specs.Blocks.{check_by}
use Rattle.plans.specs.Plan.{Store, store_all, seal_all, committed}
use Rattle.plans.specs.Stores.{plan_stores}
use Rattle.plans.specs.PlanOk.{AreaOk}
use Rattle.plans.specs.Made.{body_plan}
use Rattle.plans.proofs.BodyLaws.{body_stores}
use Rattle.masters.specs.declared.Found.{Found}
use Rattle.masters.specs.declared.Found.TheVariants.{At, Missing, Damaged}
use Rattle.masters.specs.Find.{find, home_in, named_master}
use Rattle.masters.proofs.FindLaws.{master_found, master_refused}
use Rattle.masters.specs.Root.{add_master_full, add_master_damaged, add_master_stores, del_master_damaged, del_master_stores}
use Rattle.points.specs.Chains.{has_points}
use Rattle.master_plans.specs.Status.{add_master_status, del_master_status}
use Rattle.calls.proofs.SceneLaws.{schema-here, operation-here}
use Rattle.calls.specs.Call.{Call}
use Rattle.calls.specs.Scene.{Scene, scene_under}
use Rattle.calls.specs.Reply.{master_in, home_of_key, given, reference_after, area_after, stores_of, base_after}
use Rattle.calls.specs.Outcome.{done, answered}
use Rattle.calls.specs.Ladder.{rest_rungs, refusal}
use Rattle.terms.specs.Status.{first_of, status_by}
use Rattle.terms.specs.declared.Refusal.{Refusal}
use Rattle.terms.specs.Laws.{two_first, refusal_no_done}
use Rattle.calls.proofs.RestLaws.{storable, rest-readm, rest-writm, rest-addm, rest-delm, rest_rqloc}
use Rattle.ends.specs.AsksLaws.{found_among, seek-passes}
use Rattle.ends.specs.Ends.{Ends, gave, settled}
use Rattle.ends.specs.EndsLaws.{gave-answers, settled-answers, settled-err}
use Rattle.master_calls.specs.Masters.{NamedCall, AnswersOn, AnswersIn}
use Rattle.master_calls.specs.MasterLaws.{readm-call, writm-call, delm-call, seek-none, damage_ends, missing_ends, found-ends, add_damage_ends, there-ends, absent-ends}

-- what the search in the code found is what the search for the key finds
pub told-found : {f : Found} (b : List ℕ) (e : Entry) (key k : List ℕ) (g : Found) → f ≡ find b e k → k ≡ key → f ≡ g → find b e key ≡ g
told-found b e key k g h l w = rw (← l) (sym h ∙ w)

-- the same of the named master: why the call ends there, or the record
pub told-refused : {f : Result RecordNo Refusal} {why : Refusal} (b : List ℕ) (e : Entry) (key k : List ℕ) → f ≡ named_master (find b e k) → k ≡ key → f ≡ Err why
    → named_master (find b e key) ≡ Err why
told-refused b e key k h l w = rw (← l) (sym h ∙ w)

pub told-at : {f : Result RecordNo Refusal} {m : RecordNo} (b : List ℕ) (e : Entry) (key k : List ℕ) → f ≡ named_master (find b e k) → k ≡ key → f ≡ Ok m → find b e key ≡ At m
told-at {m = m} b e key k h l w = (master_found (find b e key) m).0 (rw (← l) (sym h ∙ w))

-- ---- refused by the search

module _ (o : Operation) (k : NamedCall o) (e : Entry) (r : ℕ) (key area b : List ℕ) where
  pub by_damage : find b e key ≡ Damaged → AnswersOn o e r key area b Damg r area b
  by_damage g = record { told = λ t c n h at. damage_ends t c n o e r key area b k h at g }

  pub by_absence : find b e key ≡ Missing → AnswersOn o e r key area b Mrnf r area b
  by_absence g = record { told = λ t c n h at. missing_ends t c n o e r key area b k h at g }

  pub by_search : {why : Refusal} → named_master (find b e key) ≡ Err why → AnswersOn o e r key area b (status_by why) r area b
  by_search {why} h =
      ⊎_elim (λ (w : (find b e key ≡ Damaged) × (status_by why ≡ Damg)). rw w.1 (by_damage w.0))
      (λ (w : (find b e key ≡ Missing) × (status_by why ≡ Mrnf)). rw w.1 (by_absence w.0)) (master_refused (find b e key) why h)

-- ---- READM

module _ (e : Entry) (r : ℕ) (key area b : List ℕ) (m : RecordNo) where
  readm-gives : (x : Scene) (c : Call) → x.operation ≡ Readm → x.entry ≡ e → x.found ≡ At m → c.base ≡ b → c.area ≡ area
      → answered x c (refusal x c (rest_rungs x)) ≡ gave b e m.0 area
  unfolding given reference_after stores_of
  readm-gives x c o w f hb ha =
      rw (← hb, ← ha, ← w) (gave-answers x c (refusal x c (rest_rungs x)) m.0 (rest-readm x c o) (rw (o, f) refl) (rw (o, f) refl) (rw o refl) (rw o refl))

  pub readm-ends : {s : Status} {q : ℕ} {new : List ℕ} → find b e key ≡ At m → Ends (gave b e m.0 area) s q new b → AnswersOn Readm e r key area b s q new b
  readm-ends g w =
      record {
        told = λ t c n h at.
            found-ends t c n Readm e r key area b readm-call h at m (gave b e m.0 area) g
            (readm-gives (scene_under t c) c (operation-here t c ∙ h.operation) at.entry (found_among h t at.masters ∙ g) h.base h.area) w;
      }

-- ---- calls that store

-- the home in the code is the home of the key
pub told-home : {h : ℕ} (records : ℕ) (key k : List ℕ) → h ≡ home_of records k → k ≡ key → h ≡ home_of records key
told-home records key k w l = rw (← l) w

-- a length that every head accepts
pub any_head : (h : Head) (e : Entry) (area : List ℕ) → length area ≡ area_length e → AreaOk h e area
any_head Nothing e area l = tt
any_head Body e area l = l
any_head Master e area l = l
any_head Variable e area l = l
any_head Stranger e area l = l
any_head Synonym e area l = tt

-- ---- WRITM

module _ (e : Entry) (r : ℕ) (key area b : List ℕ) (m : RecordNo) where
  writm_settles : (x : Scene) (c : Call) (p : Plan) → p ≡ body_plan m → x.operation ≡ Writm → x.schema.edition ≡ e.edition → x.entry ≡ e → x.found ≡ At m → c.base ≡ b → c.area ≡ area → c.reference ≡ r
      → answered x c (refusal x c (rest_rungs x)) ≡ settled (check_by e.edition) Done b (plan_stores b e area p) r r area
  unfolding given reference_after area_after stores_of
  writm_settles x c p d o v w f hb ha hr =
      rw (d, body_stores e area m b, ← hb, ← ha, ← hr, ← w)
      (settled-answers x c _ (refusal x c (rest_rungs x)) Done _ c.reference (rw w v) (rest-writm x c o)
      (λ _. rw (o, f) refl) (λ _. rw o refl) (rw o refl) (rw o refl))

  pub writm-ends : {p : Plan} {s : Status} {q : ℕ} {after : List ℕ} → find b e key ≡ At m → p ≡ body_plan m
      → Ends (settled (check_by e.edition) Done b (plan_stores b e area p) r r area) s q area after → AnswersOn Writm e r key area b s q area after
  writm-ends {p = p} g d w =
      record {
        told = λ t c n h at.
            found-ends t c n Writm e r key area b writm-call h at m _ g
            (writm_settles (scene_under t c) c p d (operation-here t c ∙ h.operation) at.edition at.entry (found_among h t at.masters ∙ g) h.base h.area h.reference) w;
      }

-- ---- ADD-M

module _ (e : Entry) (r : ℕ) (key area b : List ℕ) where
  pub add-by_damage : find b e key ≡ Damaged → AnswersOn AddM e r key area b Damg r area b
  add-by_damage g = record { told = λ t c n h at. add_damage_ends t c n e r key area b h at g }

  pub by_presence : (m : RecordNo) → find b e key ≡ At m → AnswersOn AddM e r key area b Dupm r area b
  by_presence m g = record { told = λ t c n h at. there-ends t c n e r key area b h at m g }

  addm_settles : (x : Scene) (c : Call) (u : Status) (xs : List Store) → u ≡ add_master_status b e (home_in e key) → (u ≡ Done → xs ≡ add_master_stores b e (home_in e key) area)
      → x.operation ≡ AddM → x.schema.edition ≡ e.edition → x.entry ≡ e → x.masters ≡ e → c.key ≡ key → c.base ≡ b → c.area ≡ area → c.reference ≡ r
      → answered x c (refusal x c (rest_rungs x)) ≡ settled (check_by e.edition) u b xs r r area
  unfolding given reference_after area_after stores_of add_master_status
  addm_settles x c u xs us ws o n w m hk hb ha hr =
      let v : u ≡ add_master_status c.base x.entry (home_of_key x c) = rw (w, m, hk, hb) us in
      rw (← hb, ← ha, ← hr)
      (settled-answers x c e.edition (refusal x c (rest_rungs x)) u xs c.reference n
      (rest-addm x c o ∙ two_first (add_master_full c.base x.entry (home_of_key x c)) (add_master_damaged c.base x.entry (home_of_key x c)) Full Damg (storable x c) (omega arith) (omega arith)
      ∙ ap (λ v. first_of v (storable x c)) (sym v))
      (λ d. rw (o, w, m, hk, hb, ha) (sym (ws d))) (λ _. rw o refl) (rw o refl) (rw o refl))

  -- it is not there: u is what the tests of its place came to, xs the stores
  addm-told : (u : Status) (xs : List Store) {s : Status} {q : ℕ} {after : List ℕ} → find b e key ≡ Missing → u ≡ add_master_status b e (home_in e key)
      → (u ≡ Done → xs ≡ add_master_stores b e (home_in e key) area)
      → Ends (settled (check_by e.edition) u b xs r r area) s q area after → AnswersOn AddM e r key area b s q area after
  addm-told u xs g us ws w =
      record {
        told = λ t c n h at.
            absent-ends t c n e r key area b h at _ g
            (addm_settles (scene_under t c) c u xs us ws (operation-here t c ∙ h.operation) at.edition at.entry at.masters h.key h.base h.area h.reference) w;
      }

  pub addm-refused : (why : Refusal) {home : ℕ} → find b e key ≡ Missing → home ≡ home_in e key → status_by why ≡ add_master_status b e home
      → AnswersOn AddM e r key area b (status_by why) r area b
  addm-refused why g l us = addm-told (status_by why) [] g (rw l at us) (refusal_no_done why) (settled-err (check_by e.edition) (status_by why) b [] r r area why refl)

  pub addm-ends : (p : Plan) {home : ℕ} {s : Status} {q : ℕ} {after : List ℕ} → find b e key ≡ Missing → home ≡ home_in e key → Done ≡ add_master_status b e home
      → plan_stores b e area p ≡ add_master_stores b e home area
      → Ends (settled (check_by e.edition) Done b (plan_stores b e area p) r r area) s q area after → AnswersOn AddM e r key area b s q area after
  addm-ends p g l us ws w = addm-told Done (plan_stores b e area p) g (rw l at us) (λ _. rw l at ws) w

-- ---- DEL-M

module _ (t : Schema) (n : ℕ) (e : Entry) (r : ℕ) (key area b : List ℕ) where
  pub del_by_damage : find b e key ≡ Damaged → AnswersIn t n DelM e r key area b Damg r area b
  del_by_damage g = record { told = λ c h at. damage_ends t c n DelM e r key area b delm-call h at g }

  pub del_by_absence : find b e key ≡ Missing → AnswersIn t n DelM e r key area b Mrnf r area b
  del_by_absence g = record { told = λ c h at. missing_ends t c n DelM e r key area b delm-call h at g }

  pub del_by_search : {why : Refusal} → named_master (find b e key) ≡ Err why → AnswersIn t n DelM e r key area b (status_by why) r area b
  del_by_search {why} h =
      ⊎_elim (λ (w : (find b e key ≡ Damaged) × (status_by why ≡ Damg)). rw w.1 (del_by_damage w.0))
      (λ (w : (find b e key ≡ Missing) × (status_by why ≡ Mrnf)). rw w.1 (del_by_absence w.0)) (master_refused (find b e key) why h)

  delm_settles : (x : Scene) (c : Call) (m : RecordNo) (u : Status) (xs : List Store) → u ≡ del_master_status t b n e (home_in e key) m.0
      → (u ≡ Done → xs ≡ del_master_stores b e (home_in e key) m.0)
      → x.schema ≡ t → x.number ≡ n → x.operation ≡ DelM → x.schema.edition ≡ e.edition → x.entry ≡ e → x.masters ≡ e → x.found ≡ At m → c.key ≡ key → c.base ≡ b → c.area ≡ area → c.reference ≡ r
      → answered x c (refusal x c (rest_rungs x)) ≡ settled (check_by e.edition) u b xs r r area
  unfolding given reference_after area_after stores_of del_master_status
  delm_settles x c m u xs us ws xt xn o ed w ms f hk hb ha hr =
      let v : u ≡ del_master_status x.schema c.base x.number x.entry (home_of_key x c) (master_in x) = rw (xt, xn, w, ms, f, hk, hb) us in
      rw (← hb, ← ha, ← hr)
      (settled-answers x c e.edition (refusal x c (rest_rungs x)) u xs c.reference ed
      (rest-delm x c o
      ∙ two_first (has_points x.schema c.base x.number (master_in x)) (del_master_damaged c.base x.entry (home_of_key x c) (master_in x)) Imdl Damg (storable x c) (omega arith) (omega arith)
      ∙ ap (λ v. first_of v (storable x c)) (sym v))
      (λ d. rw (o, w, ms, f, hk, hb) (sym (ws d))) (λ _. rw o refl) (rw o refl) (rw o refl))

  delm-told : (m : RecordNo) (u : Status) (xs : List Store) {s : Status} {q : ℕ} {after : List ℕ} → find b e key ≡ At m → u ≡ del_master_status t b n e (home_in e key) m.0
      → (u ≡ Done → xs ≡ del_master_stores b e (home_in e key) m.0)
      → Ends (settled (check_by e.edition) u b xs r r area) s q area after → AnswersIn t n DelM e r key area b s q area after
  delm-told m u xs g us ws w =
      record {
        told = λ c h at.
            found-ends t c n DelM e r key area b delm-call h at m _ g
            (delm_settles (scene_under t c) c m u xs us ws (schema-here t c) at.number (operation-here t c ∙ h.operation)
            at.edition at.entry at.masters (found_among h t at.masters ∙ g) h.key h.base h.area h.reference) w;
      }

  pub delm-refused : (why : Refusal) (m : RecordNo) {home : ℕ} → find b e key ≡ At m → home ≡ home_in e key → status_by why ≡ del_master_status t b n e home m.0
      → AnswersIn t n DelM e r key area b (status_by why) r area b
  delm-refused why m g l us = delm-told m (status_by why) [] g (rw l at us) (refusal_no_done why) (settled-err (check_by e.edition) (status_by why) b [] r r area why refl)

  pub delm-ends : (p : Plan) (m : RecordNo) {home : ℕ} {s : Status} {q : ℕ} {after : List ℕ} → find b e key ≡ At m → home ≡ home_in e key
      → Done ≡ del_master_status t b n e home m.0 → plan_stores b e area p ≡ del_master_stores b e home m.0
      → Ends (settled (check_by e.edition) Done b (plan_stores b e area p) r r area) s q area after → AnswersIn t n DelM e r key area b s q area after
  delm-ends p m g l us ws w = delm-told m Done (plan_stores b e area p) g (rw l at us) (λ _. rw l at ws) w

-- ---- RQLOC

module _ (e : Entry) (r : ℕ) (key area b : List ℕ) where
  rqloc_gives : (x : Scene) (c : Call) → x.operation ≡ Rqloc → x.masters ≡ e → c.key ≡ key → c.base ≡ b → c.area ≡ area → Ends (answered x c (refusal x c (rest_rungs x))) Done (home_in e key) area b
  unfolding answered done given reference_after area_after stores_of base_after committed store_all seal_all
  rqloc_gives x c o m hk hb ha =
      rw (rest_rqloc x c o, o, ← m, ← hk, ← hb, ← ha) (record { status = refl; reference = refl; area = refl; base = refl })

  pub rqloc_ends : {s : Status} {q : ℕ} → s ≡ Done → q ≡ home_in e key → AnswersOn Rqloc e r key area b s q area b
  rqloc_ends d l =
      rw (d, l)
      (record {
        told = λ t c n h at.
            seek-passes t c _ (seek-none t c h.operation) refl
            (rqloc_gives (scene_under t c) c (operation-here t c ∙ h.operation) at.masters h.key h.base h.area);
      })
