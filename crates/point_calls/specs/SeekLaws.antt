-- Calls on points behind the forms of their parameters: the named master and the referenced record.
use Rattle.std.specs.Prelude.{ℕ, ◌<◌, ◌≡◌, refl, Bool, true, false, not, ◌&&◌, ◌||◌, List, Result, Ok, Err}
use Rattle.std.proofs.Common.{sym, ap, ◌∙◌, arith}
use Rattle.std.proofs.Math.Bool.{cond, and-eq-true_iff}
use Rattle.std.proofs.lemmas.Bool.{not-false}
use Rattle.octets.specs.Octets.{same_bytes}
use Rattle.octets.specs.RunLaws.{same_bytes_eq}
use Rattle.terms.specs.declared.Status.{Status}
use Rattle.terms.specs.declared.Status.TheVariants.{Done, Ivrp, Mrnf, Damg}
use Rattle.terms.specs.declared.Operation.{Operation}
use Rattle.terms.specs.declared.RecordNo.{RecordNo}
use Rattle.terms.specs.declared.Refusal.{Refusal}
use Rattle.terms.specs.Status.{status_number, status_by, status_of}
use Rattle.terms.specs.Laws.{refusal-counts, one_passes}
use Rattle.schema.specs.declared.Path.{Path}
use Rattle.schema.specs.declared.Entry.{Entry}
use Rattle.schema.specs.declared.Schema.{Schema}
use Rattle.records.specs.Records.{is_live, key_on}
use Rattle.masters.specs.declared.Found.{Found}
use Rattle.masters.specs.declared.Found.TheVariants.{At, Missing, Damaged}
use Rattle.masters.specs.Find.{find, is_missing, is_damaged, named_master}
use Rattle.points.specs.Chains.{is_point_of}
use Rattle.calls.proofs.SceneLaws.{operation-here}
use Rattle.calls.specs.Call.{Call, Outcome}
use Rattle.calls.specs.Scene.{scene_under}
use Rattle.calls.specs.Ladder.{seek_rungs, rest_rungs, refusal, is_link}
use Rattle.calls.specs.Outcome.{answered}
use Rattle.forms.specs.Form.{rungs_of}
use Rattle.ends.specs.Asks.{Asks, placed_outcome}
use Rattle.ends.specs.AsksLaws.{given_back, found_among, seek-refuses, seek-passes}
use Rattle.ends.specs.Ends.{Ends}
use Rattle.ends.specs.EndsLaws.{refused-ends}
use Rattle.point_calls.specs.OnPath.{PointCall, looks_at, OnPath, seek_status, looked_at, sighted_of, Seen, AnswersOnPath, AnswersAmong}

-- ---- what the code has read

-- the status of what the code has read
pub sighted-status : (b : List ℕ) (e : Entry) (p : Path) (x : Entry) (r : ℕ) (key : List ℕ) (looks : Bool)
    → status_of (sighted_of b e p x r key looks) ≡ seek_status b e p x r key looks
unfolding seek_status
sighted-status b e p x r key looks = go (find b x key) (looks && not (is_point_of b e p key r))
  where
    go : (f : Found) (z : Bool) → status_of (looked_at z (named_master f)) ≡ cond (is_damaged f) Damg (cond (is_missing f) Mrnf (cond z Ivrp Done))
    go (At m) true = refl
    go (At m) false = refl
    go Missing z = refl
    go Damaged z = refl

-- a search that refuses nothing has found a record
found-one : (f : Found) (z : Bool) {m : RecordNo} → looked_at z (named_master f) ≡ Ok m → f ≡ At m
found-one (At r) true h = absurd cc
found-one (At r) false h = cc
found-one Missing z h = absurd cc
found-one Damaged z h = absurd cc

pub seen : {q : List ℕ} {s : Result RecordNo Refusal} {m : RecordNo} (b : List ℕ) (e : Entry) (p : Path) (x : Entry) (r : ℕ) (key : List ℕ) (looks : Bool)
    → s ≡ sighted_of b e p x r q looks → q ≡ key → s ≡ Ok m → Seen b e p x r key looks m
seen b e p x r key looks h k w =
    let o : sighted_of b e p x r key looks ≡ Ok _ = rw k at (sym h ∙ w) in
    record { status = sym (sighted-status b e p x r key looks) ∙ ap status_of o; master = found-one (find b x key) (looks && not (is_point_of b e p key r)) o }

pub seen_as : {b : List ℕ} {e : Entry} {p : Path} {x : Entry} {r : ℕ} {key : List ℕ} {looks same : Bool} {m : RecordNo} → looks ≡ same → Seen b e p x r key looks m → Seen b e p x r key same m
seen_as q h = rw q at h

-- a record that was looked at is live and of that key
pub seen-point : (b : List ℕ) (e : Entry) (p : Path) (x : Entry) (r : ℕ) (key : List ℕ) (m : RecordNo) → Seen b e p x r key true m → is_point_of b e p key r ≡ true
unfolding seek_status
seen-point b e p x r key m h =
    let f = one_passes (is_damaged (find b x key)) Damg _ (omega arith) h.status in
    let g = one_passes (is_missing (find b x key)) Mrnf _ (omega arith) f.1 in
    not-false _ (one_passes (not (is_point_of b e p key r)) Ivrp Done (omega arith) g.1).0

pub seen_key : (b : List ℕ) (e : Entry) (p : Path) (x : Entry) (r : ℕ) (key : List ℕ) (m : RecordNo) → Seen b e p x r key true m → key_on b e r p ≡ key
seen_key b e p x r key m h =
    same_bytes_eq (key_on b e r p) key ((and-eq-true_iff (is_live b e r) (same_bytes (key_on b e r p) key)).0 (seen-point b e p x r key m h)).1

-- ---- the ladder

-- the two tests of the referenced record in one: `a` for the calls that take LKxx, which it is where `i`, and `n` for those that do not
both : (a i n p : Bool) → cond (a && (not i && not p)) Ivrp (cond (n && not p) Ivrp Done) ≡ cond ((n || a && not i) && not p) Ivrp Done
both true true true p = refl
both true true false p = refl
both true false true true = refl
both true false true false = refl
both true false false p = refl
both false i true p = refl
both false i false p = refl

module _ (t : Schema) (c : Call) (n : ℕ) (o : Operation) (e : Entry) (on : ℕ) (p : Path) (x : Entry) (r : ℕ) (key area b : List ℕ) (k : PointCall o) (h : Asks c o c.name r key area b) (at : OnPath t c n e on p x) where
  seek-points : refusal (scene_under t c) c seek_rungs
      ≡ cond (is_damaged (scene_under t c).found) Damg
      (cond (is_missing (scene_under t c).found) Mrnf
      (cond (looks_at o (scene_under t c).path c.reference && not (is_point_of c.base (scene_under t c).entry (scene_under t c).path c.key c.reference)) Ivrp Done))
  unfolding refusal
  seek-points =
      rw (operation-here t c, h.operation, k.finds, k.needs_it, k.adds_none)
      (ap (λ (s : Status). cond (is_damaged (scene_under t c).found) Damg (cond (is_missing (scene_under t c).found) Mrnf s))
      (both (rungs_of o).link (is_link (scene_under t c) c) (rungs_of o).number
      (is_point_of c.base (scene_under t c).entry (scene_under t c).path c.key c.reference)))

  sought : refusal (scene_under t c) c seek_rungs ≡ seek_status b e p x r key (looks_at o p r)
  unfolding seek_status
  sought = seek-points ∙ (rw (found_among h t at.masters, at.entry, at.path, h.base, h.key, h.reference) refl)

  pub refused-here : (s : Status) → seek_status b e p x r key (looks_at o p r) ≡ s → 0 < status_number s → Ends (placed_outcome t c) s r area b
  refused-here s w g = seek-refuses h t s g (sought ∙ w)

  -- both are there: what is left decides
  pub seen-ends : (u : Outcome) {s : Status} {q : ℕ} {new after : List ℕ} → seek_status b e p x r key (looks_at o p r) ≡ Done
      → answered (scene_under t c) c (refusal (scene_under t c) c (rest_rungs (scene_under t c))) ≡ u → Ends u s q new after → Ends (placed_outcome t c) s q new after
  seen-ends u w g v = seek-passes t c u (sought ∙ w) g v

  -- the rest refuses
  pub rest-refuses : (s : Status) → seek_status b e p x r key (looks_at o p r) ≡ Done → refusal (scene_under t c) c (rest_rungs (scene_under t c)) ≡ s → 0 < status_number s
      → Ends (placed_outcome t c) s r area b
  rest-refuses s w g z = given_back h (seen-ends _ w refl (refused-ends (scene_under t c) c _ s g z))

-- ---- refused by the search or by the look

module _ {q : List ℕ} {s : Result RecordNo Refusal} {why : Refusal} (o : Operation) (k : PointCall o) (e : Entry) (p : Path) (x : Entry) (r : ℕ) (key area b : List ℕ) (looks : Bool)
    (w : s ≡ sighted_of b e p x r q looks) (g : q ≡ key) (l : looks ≡ looks_at o p r) (z : s ≡ Err why) where
  its-status : seek_status b e p x r key (looks_at o p r) ≡ status_by why
  its-status =
      let h : sighted_of b e p x r key (looks_at o p r) ≡ Err why = rw (g, l) at (sym w ∙ z) in
      sym (sighted-status b e p x r key (looks_at o p r)) ∙ ap status_of h

  pub by-seek : AnswersOnPath o e p x r key area b (status_by why) r area b
  by-seek = record { told = λ t c m on h at. refused-here t c m o e on p x r key area b k h at (status_by why) its-status (refusal-counts why) }

  pub by-seek-among : (on : ℕ) (all : List Entry) → AnswersAmong o e on p x all r key area b (status_by why) r area b
  by-seek-among on all = record { told = λ t c m h at of. by-seek.told t c m on h at }
