-- How the calls on points that store end: WRITV, the adds and DELVD.
use Rattle.std.specs.Prelude.{ℕ, ◌≡◌, Bool, true, false, cond, List, [], ◌∷◌}
use Rattle.std.proofs.Math.Path.{refl}
use Rattle.std.proofs.Common.{sym, ap, ◌∙◌, arith}
use Rattle.octets.specs.TestLaws.{never_both}
use Rattle.terms.specs.declared.Status.{Status}
use Rattle.terms.specs.declared.Status.TheVariants.{Done, Keys}
use Rattle.terms.specs.declared.Operation.TheVariants.{Formt, Writv, Delvd}
use Rattle.terms.specs.declared.RecordNo.{RecordNo}
use Rattle.schema.specs.declared.Path.{Path}
use Rattle.schema.specs.declared.Entry.{Entry}
use Rattle.schema.specs.declared.Schema.{Schema}
use Rattle.schema.specs.Decode.{path_of}
use Rattle.schema.specs.Place.{InSet}
use Rattle.records.specs.Records.{key_on, prior_on}
use Rattle.records.specs.Areas.{area_body, area_key_on}
use Rattle.records.specs.InBase.{IsPathAmong, masters_kept, MastersOf}
use Rattle.records.proofs.InBaseLaws.{named-among}
use Rattle.plans.specs.declared.Plan.{Plan}
use Rattle.blocks.specs.Blocks.{check_by}
use Rattle.plans.specs.Plan.{Store, store_run}
use Rattle.plans.specs.Stores.{plan_stores}
use Rattle.plans.proofs.BodyLaws.{body_stores}
use Rattle.plans.specs.Made.{body_plan}
use Rattle.masters.specs.declared.Found.TheVariants.{At}
use Rattle.masters.specs.Find.{find}
use Rattle.points.specs.declared.Spot.{Spot}
use Rattle.points.specs.declared.Spot.TheVariants.{Last, After, Before}
use Rattle.points.specs.Points.{add_place, add_stores, del_stores}
use Rattle.point_plans.specs.Rest.{add_status, del_status}
use Rattle.calls.proofs.SceneLaws.{schema-here, operation-here}
use Rattle.calls.specs.Call.{Call, one_of}
use Rattle.calls.specs.Scene.{Scene, scene_under}
use Rattle.calls.specs.Reply.{spot_of, new_record, or_link, given, reference_after, area_after, stores_of}
use Rattle.calls.specs.Ladder.{rest_rungs, refusal, other_stored_key}
use Rattle.calls.specs.Outcome.{answered}
use Rattle.terms.specs.Status.{first_of, status_by}
use Rattle.terms.specs.declared.Refusal.{Refusal}
use Rattle.terms.specs.Laws.{refusal_no_done}
use Rattle.calls.proofs.RestLaws.{storable, rest-writv}
use Rattle.ends.specs.Ends.{Ends, settled}
use Rattle.ends.specs.EndsLaws.{settled-answers, settled-err}
use Rattle.ends.specs.Asks.{Asks, placed_outcome}
use Rattle.point_calls.specs.OnPath.{PointCall, add_at, is_beside, OnPath, Seen, Spotted, AnswersOnPath, AnswersAmong}
use Rattle.point_calls.specs.PathLaws.{writv-call, addvc-call, addvb-call, addva-call, delvd-call}
use Rattle.point_calls.specs.SeekLaws.{seen_key, seen-ends, rest-refuses}
use Rattle.point_calls.specs.OtherLaws.{addable, deletable, rest-addvc, rest-addvb, rest-addva, rest-delvd}

-- ---- WRITV

writv-same : (y : Scene) (c : Call) → y.operation ≡ Writv → area_after y c ≡ c.area
unfolding area_after given
writv-same y c o = rw o refl

writv-after : (y : Scene) (c : Call) → y.operation ≡ Writv → reference_after y c ≡ c.reference
unfolding reference_after
writv-after y c o = rw o refl

writv-stores : (y : Scene) (c : Call) → y.operation ≡ Writv → stores_of y c ≡ store_run y.entry c.reference y.entry.body (area_body y.entry c.area) ∷ []
unfolding stores_of
writv-stores y c o = rw o refl

module _ (e : Entry) (p : Path) (x : Entry) (r : ℕ) (key area b : List ℕ) (m : RecordNo) (g : Seen b e p x r key true m) where
  module _ (t : Schema) (c : Call) (i on : ℕ) (h : Asks c Writv c.name r key area b) (at : OnPath t c i e on p x) where
    is_writv : (scene_under t c).operation ≡ Writv
    is_writv = operation-here t c ∙ h.operation

    writv-rest : refusal (scene_under t c) c (rest_rungs (scene_under t c)) ≡ cond (other_stored_key b e r area) Keys (storable (scene_under t c) c)
    writv-rest = rest-writv (scene_under t c) c is_writv ∙ (rw (at.entry, h.base, h.reference, h.area) refl)

    written : other_stored_key b e r area ≡ false
        → answered (scene_under t c) c (refusal (scene_under t c) c (rest_rungs (scene_under t c))) ≡ settled (check_by e.edition) Done b (store_run e r e.body (area_body e area) ∷ []) r r area
    written d =
        rw (← h.base, ← h.reference, ← h.area, ← at.entry)
        (settled-answers (scene_under t c) c _ _ Done _ c.reference (rw at.entry at.edition) (writv-rest ∙ (rw d refl)) (λ z. writv-stores (scene_under t c) c is_writv)
        (λ z. writv-after (scene_under t c) c is_writv) (writv-same (scene_under t c) c is_writv) (rw is_writv refl))

  pub writv-refused : other_stored_key b e r area ≡ true → AnswersOnPath Writv e p x r key area b Keys r area b
  writv-refused d =
      record { told = λ t c i on h at. rest-refuses t c i Writv e on p x r key area b writv-call h at Keys g.status (writv-rest t c i on h at ∙ (rw d refl)) (omega arith) }

  pub writv-ends : {s : Status} {k : ℕ} {new : List ℕ} (q : Plan) → other_stored_key b e r area ≡ false → q ≡ body_plan (record { 0 = r })
      → Ends (settled (check_by e.edition) Done b (plan_stores b e area q) r r area) s k area new → AnswersOnPath Writv e p x r key area b s k area new
  writv-ends q d f v =
      record {
        told = λ t c i on h at.
            seen-ends t c i Writv e on p x r key area b writv-call h at _ g.status (written t c i on h at d)
            (rw (f, body_stores e area (record { 0 = r }) b) at v);
      }

-- ---- the adds

pub add-call : (spot : Spot) → PointCall (add_at spot)
add-call Last = addvc-call
add-call (Before r) = addvb-call
add-call (After r) = addva-call

-- where each add puts its record
module _ (e : Entry) (p : Path) (r : ℕ) where
  pub spotted_last : Spotted Last e p r
  spotted_last = record { by-reference = refl; in_set = tt; look = refl; looked = λ h. absurd (never_both false h refl) }

  pub spotted_before : InSet e r → Spotted (Before (record { 0 = r })) e p r
  spotted_before i = record { by-reference = refl; in_set = i; look = refl; looked = λ h. i }

  pub spotted_after : InSet e r → Spotted (After (record { 0 = r })) e p r
  spotted_after i = record { by-reference = refl; in_set = i; look = refl; looked = λ h. i }

module _ (y : Scene) (c : Call) where
  add-rest : (spot : Spot) → y.operation ≡ add_at spot → refusal y c (rest_rungs y) ≡ first_of (addable y c) (storable y c)
  add-rest Last o = rest-addvc y c o
  add-rest (Before r) o = rest-addvb y c o
  add-rest (After r) o = rest-addva y c o

  add-stores : (spot : Spot) → y.operation ≡ add_at spot
      → stores_of y c ≡ add_stores c.base y.schema y.entry c.area (spot_of (add_at spot) c.reference) y.on (new_record (add_at spot) y c)
  unfolding stores_of
  add-stores Last o = rw o refl
  add-stores (Before r) o = rw o refl
  add-stores (After r) o = rw o refl

  add-after : (spot : Spot) → y.operation ≡ add_at spot → reference_after y c ≡ new_record (add_at spot) y c
  unfolding reference_after
  add-after Last o = rw o refl
  add-after (Before r) o = rw o refl
  add-after (After r) o = rw o refl

  add_same : (spot : Spot) → y.operation ≡ add_at spot → area_after y c ≡ c.area
  unfolding area_after given
  add_same Last o = rw o refl
  add_same (Before r) o = rw o refl
  add_same (After r) o = rw o refl

  add-plain : (spot : Spot) → y.operation ≡ add_at spot → one_of y.operation (Formt ∷ []) ≡ false
  add-plain Last o = rw o refl
  add-plain (Before r) o = rw o refl
  add-plain (After r) o = rw o refl

-- the named master is found already
pub add-finds : {n : ℕ} (e : Entry) (on : ℕ) (p : Path) (x : Entry) (all : List Entry) (r : ℕ) (key area b : List ℕ) (looks : Bool) (m : RecordNo) → IsPathAmong e on p x all n
    → Seen b e p x r key looks m → area_key_on e area on ≡ key → find b (masters_kept all on) (area_key_on e area on) ≡ At m
add-finds e on p x all r key area b looks m h g k = rw (k, ← named-among h) g.master

module _ (t : Schema) (e : Entry) (on : ℕ) (p : Path) (x : Entry) (r : ℕ) (key area b : List ℕ) (spot : Spot) (m : RecordNo)
    (g : Seen b e p x r key (is_beside spot) m) (sp : Spotted spot e p r) (u : Status) (xs : List Store) (after : ℕ)
    (w : u ≡ add_status b t e area spot on) (f : u ≡ Done → (xs ≡ add_stores b t e area spot on (add_place b t e area spot on)) × (after ≡ add_place b t e area spot on)) where
  module _ (c : Call) (i : ℕ) (h : Asks c (add_at spot) c.name r key area b) (at : OnPath t c i e on p x) where
    is_add : (scene_under t c).operation ≡ add_at spot
    is_add = operation-here t c ∙ h.operation

    add-status : addable (scene_under t c) c ≡ u
    add-status = rw (w, is_add, at.entry, at.on, schema-here t c, h.base, h.reference, h.area, ← sp.by-reference) refl

    stored : u ≡ Done → stores_of (scene_under t c) c ≡ xs
    stored d =
        add-stores (scene_under t c) c spot is_add
        ∙ (rw (at.entry, at.on, schema-here t c, h.base, h.reference, h.area, ← sp.by-reference) (sym (f d).0))

    returned : u ≡ Done → reference_after (scene_under t c) c ≡ after
    returned d =
        add-after (scene_under t c) c spot is_add
        ∙ (rw (at.entry, at.on, schema-here t c, h.base, h.reference, h.area, ← sp.by-reference) (sym (f d).1))

    added : answered (scene_under t c) c (refusal (scene_under t c) c (rest_rungs (scene_under t c))) ≡ settled (check_by e.edition) u b xs after r area
    added =
        rw (← h.base, ← h.reference, ← h.area)
        (settled-answers (scene_under t c) c e.edition _ u xs after at.edition (add-rest (scene_under t c) c spot is_add ∙ ap (λ (z : Status). first_of z (storable (scene_under t c) c)) add-status)
        stored returned (add_same (scene_under t c) c spot is_add) (add-plain (scene_under t c) c spot is_add))

    add-told : {s : Status} {q : ℕ} {new : List ℕ} → Ends (settled (check_by e.edition) u b xs after r area) s q area new → Ends (placed_outcome t c) s q area new
    add-told v = seen-ends t c i (add_at spot) e on p x r key area b (add-call spot) h at _ (rw (← sp.look) g.status) added v

-- whatever the schema, where the path has these masters
pub add-ends : {s : Status} {q : ℕ} {new : List ℕ} (e : Entry) (on : ℕ) (p : Path) (x : Entry) (all : List Entry) (r : ℕ) (key area b : List ℕ) (spot : Spot) (m : RecordNo)
    → Seen b e p x r key (is_beside spot) m → Spotted spot e p r → (u : Status) (xs : List Store) (after : ℕ)
    → ((t : Schema) → MastersOf t e all
    → (u ≡ add_status b t e area spot on) × (u ≡ Done → (xs ≡ add_stores b t e area spot on (add_place b t e area spot on)) × (after ≡ add_place b t e area spot on)))
    → Ends (settled (check_by e.edition) u b xs after r area) s q area new → AnswersAmong (add_at spot) e on p x all r key area b s q area new
add-ends e on p x all r key area b spot m g sp u xs after w v =
    record { told = λ t c i h at of. add-told t e on p x r key area b spot m g sp u xs after (w t of).0 (w t of).1 c i h at v }

-- and where a test of the paths refuses
pub add-refused-ends : (why : Refusal) (e : Entry) (on : ℕ) (p : Path) (x : Entry) (all : List Entry) (r : ℕ) (key area b : List ℕ) (spot : Spot) (m : RecordNo)
    → Seen b e p x r key (is_beside spot) m → Spotted spot e p r
    → ((t : Schema) → MastersOf t e all → status_by why ≡ add_status b t e area spot on) → AnswersAmong (add_at spot) e on p x all r key area b (status_by why) r area b
add-refused-ends why e on p x all r key area b spot m g sp w =
    add-ends e on p x all r key area b spot m g sp (status_by why) [] r (λ t of. (w t of, refusal_no_done why))
    (settled-err (check_by e.edition) (status_by why) b [] r r area why refl)

-- ---- DELVD

delvd-stores : (y : Scene) (c : Call) → y.operation ≡ Delvd → stores_of y c ≡ del_stores c.base y.schema y.entry c.reference
unfolding stores_of
delvd-stores y c o = rw o refl

delvd-after : (y : Scene) (c : Call) → y.operation ≡ Delvd → reference_after y c ≡ or_link y.path (prior_on c.base y.entry c.reference y.path)
unfolding reference_after
delvd-after y c o = rw o refl

delvd-same : (y : Scene) (c : Call) → y.operation ≡ Delvd → area_after y c ≡ c.area
unfolding area_after given
delvd-same y c o = rw o refl

pub delvd-finds : {n : ℕ} (e : Entry) (on : ℕ) (p : Path) (x : Entry) (all : List Entry) (r : ℕ) (key b : List ℕ) (m : RecordNo) → IsPathAmong e on p x all n → Seen b e p x r key true m
    → find b (masters_kept all on) (key_on b e r (path_of e on)) ≡ At m
delvd-finds e on p x all r key b m h g = rw (← named-among h, ← h.under.path, seen_key b e p x r key m g) g.master

module _ (t : Schema) (e : Entry) (on : ℕ) (p : Path) (x : Entry) (r : ℕ) (key area b : List ℕ) (m : RecordNo) (g : Seen b e p x r key true m) (u : Status) (xs : List Store) (after : ℕ)
    (w : u ≡ del_status b t e r on) (f : u ≡ Done → xs ≡ del_stores b t e r) (l : after ≡ or_link p (prior_on b e r p)) where
  module _ (c : Call) (i : ℕ) (h : Asks c Delvd c.name r key area b) (at : OnPath t c i e on p x) where
    is_delvd : (scene_under t c).operation ≡ Delvd
    is_delvd = operation-here t c ∙ h.operation

    del_status_lem : deletable (scene_under t c) c ≡ u
    del_status_lem = rw (w, at.entry, at.on, schema-here t c, h.base, h.reference) refl

    unlinked : u ≡ Done → stores_of (scene_under t c) c ≡ xs
    unlinked d = delvd-stores (scene_under t c) c is_delvd ∙ (rw (at.entry, schema-here t c, h.base, h.reference) (sym (f d)))

    before : reference_after (scene_under t c) c ≡ after
    before = delvd-after (scene_under t c) c is_delvd ∙ (rw (at.entry, at.path, h.base, h.reference) (sym l))

    deleted : answered (scene_under t c) c (refusal (scene_under t c) c (rest_rungs (scene_under t c))) ≡ settled (check_by e.edition) u b xs after r area
    deleted =
        rw (← h.base, ← h.reference, ← h.area)
        (settled-answers (scene_under t c) c e.edition _ u xs after at.edition (rest-delvd (scene_under t c) c is_delvd ∙ ap (λ (z : Status). first_of z (storable (scene_under t c) c)) del_status_lem)
        unlinked (λ d. before) (delvd-same (scene_under t c) c is_delvd) (rw is_delvd refl))

    delvd-told : {s : Status} {q : ℕ} {new : List ℕ} → Ends (settled (check_by e.edition) u b xs after r area) s q area new → Ends (placed_outcome t c) s q area new
    delvd-told v = seen-ends t c i Delvd e on p x r key area b delvd-call h at _ g.status deleted v

pub delvd-ends : {s : Status} {q : ℕ} {new : List ℕ} (e : Entry) (on : ℕ) (p : Path) (x : Entry) (all : List Entry) (r : ℕ) (key area b : List ℕ) (m : RecordNo)
    → Seen b e p x r key true m → (u : Status) (xs : List Store) (after : ℕ)
    → ((t : Schema) → MastersOf t e all → (u ≡ del_status b t e r on) × (u ≡ Done → xs ≡ del_stores b t e r)) → after ≡ or_link p (prior_on b e r p)
    → Ends (settled (check_by e.edition) u b xs after r area) s q area new → AnswersAmong Delvd e on p x all r key area b s q area new
delvd-ends e on p x all r key area b m g u xs after w l v =
    record { told = λ t c i h at of. delvd-told t e on p x r key area b m g u xs after (w t of).0 (w t of).1 l c i h at v }

pub delvd-refused : (why : Refusal) (e : Entry) (on : ℕ) (p : Path) (x : Entry) (all : List Entry) (r : ℕ) (key area b : List ℕ) (m : RecordNo)
    → Seen b e p x r key true m → ((t : Schema) → MastersOf t e all → status_by why ≡ del_status b t e r on)
    → AnswersAmong Delvd e on p x all r key area b (status_by why) r area b
delvd-refused why e on p x all r key area b m g w =
    delvd-ends e on p x all r key area b m g (status_by why) [] _ (λ t of. (w t of, refusal_no_done why)) refl
    (settled-err (check_by e.edition) (status_by why) b [] _ r area why refl)
