-- For every operation and all parameters there is a call that asks so: a statement about "every call that asks with these parameters" is
-- never about none. And what such a call has and comes to.
use Rattle.std.specs.Prelude.{ℕ, ◌<◌, ◌≡◌, refl, List}
use Rattle.std.proofs.Common.{◌∙◌}
use Rattle.octets.specs.Text.{text}
use Rattle.octets.specs.Octets.{same_bytes}
use Rattle.terms.specs.declared.Operation.{Operation}
use Rattle.terms.specs.declared.Operation.TheVariants.{Formt, Sinon, AddM, DelM, Readm, Writm, Rqloc, Rdnxt, Readv, Readr, Readd, Writv, Addvc, Addvb, Addva, Delvd, Unknown}
use Rattle.terms.specs.Operation.{operation_of}
use Rattle.terms.specs.declared.Status.{Status}
use Rattle.terms.specs.declared.Status.TheVariants.{Done}
use Rattle.terms.specs.Status.{status_number}
use Rattle.terms.specs.Laws.{not_done}
use Rattle.schema.specs.declared.Entry.{Entry}
use Rattle.schema.specs.declared.Schema.{Schema}
use Rattle.masters.specs.Find.{find}
use Rattle.calls.specs.Call.{Call, Outcome, call_of}
use Rattle.calls.specs.Scene.{scene_under}
use Rattle.calls.proofs.SceneLaws.{found_here}
use Rattle.calls.specs.Ladder.{seek_rungs, rest_rungs, refusal}
use Rattle.calls.specs.Outcome.{answered}
use Rattle.ends.specs.Ends.{Ends}
use Rattle.ends.specs.EndsLaws.{refused-ends}
use Rattle.ends.specs.Asks.{Asks, placed_outcome}

-- the five letters of an operation
abbrev pub operation_letters : Operation → List ℕ
operation_letters Formt = text "FORMT"
operation_letters Sinon = text "SINON"
operation_letters AddM = text "ADD-M"
operation_letters DelM = text "DEL-M"
operation_letters Readm = text "READM"
operation_letters Writm = text "WRITM"
operation_letters Rqloc = text "RQLOC"
operation_letters Rdnxt = text "RDNXT"
operation_letters Readv = text "READV"
operation_letters Readr = text "READR"
operation_letters Readd = text "READD"
operation_letters Writv = text "WRITV"
operation_letters Addvc = text "ADDVC"
operation_letters Addvb = text "ADDVB"
operation_letters Addva = text "ADDVA"
operation_letters Delvd = text "DELVD"
operation_letters Unknown = text "SINOF"

pub letters-ask : (o : Operation) → operation_of (operation_letters o) ≡ o
unfolding operation_of same_bytes
letters-ask Formt = refl
letters-ask Sinon = refl
letters-ask AddM = refl
letters-ask DelM = refl
letters-ask Readm = refl
letters-ask Writm = refl
letters-ask Rqloc = refl
letters-ask Rdnxt = refl
letters-ask Readv = refl
letters-ask Readr = refl
letters-ask Readd = refl
letters-ask Writv = refl
letters-ask Addvc = refl
letters-ask Addvb = refl
letters-ask Addva = refl
letters-ask Delvd = refl
letters-ask Unknown = refl

pub someone_asks : (o : Operation) (name : List ℕ) (r : ℕ) (path key area schema base : List ℕ)
    → Asks (call_of (operation_letters o) name r path key area schema base) o name r key area base
someone_asks o name r path key area schema base =
    record { operation = letters-ask o; name = refl; reference = refl; key = refl; area = refl; base = refl }

-- ---- what a call that asks so has

module _ {c : Call} {o : Operation} {n : List ℕ} {r : ℕ} {k a b : List ℕ} (h : Asks c o n r k a b) where
  -- it asks with the base that it has, under the name that it has, for an operation by another name
  pub asks_its-base : Asks c o n r k a c.base
  asks_its-base = record { operation = h.operation; name = h.name; reference = h.reference; key = h.key; area = h.area; base = refl }

  pub asks_its-name : Asks c o c.name r k a b
  asks_its-name = record { operation = h.operation; name = refl; reference = h.reference; key = h.key; area = h.area; base = h.base }

  pub asks_as : {u : Operation} → o ≡ u → Asks c u n r k a b
  asks_as e = record { operation = h.operation ∙ e; name = h.name; reference = h.reference; key = h.key; area = h.area; base = h.base }

  -- a refusal gives back what was given
  pub given_back : {u : Outcome} {s : Status} → Ends u s c.reference c.area c.base → Ends u s r a b
  given_back w = rw (← h.reference, ← h.area, ← h.base) w

  module _ (t : Schema) where
    -- what the search finds, where the masters are x
    pub found_among : {x : Entry} → (scene_under t c).masters ≡ x → (scene_under t c).found ≡ find b x k
    found_among e = rw (← h.base, ← h.key, ← e) (found_here t c)

    -- a test of the named master or of the referenced record refuses
    pub seek-refuses : (s : Status) → 0 < status_number s → refusal (scene_under t c) c seek_rungs ≡ s → Ends (placed_outcome t c) s r a b
    unfolding placed_outcome
    seek-refuses s l w = given_back (refused-ends (scene_under t c) c _ s (rw (w, not_done s l) refl) l)

-- they refuse nothing: what is left decides
pub seek-passes : (t : Schema) (c : Call) (u : Outcome) {s : Status} {q : ℕ} {new after : List ℕ} → refusal (scene_under t c) c seek_rungs ≡ Done
    → answered (scene_under t c) c (refusal (scene_under t c) c (rest_rungs (scene_under t c))) ≡ u → Ends u s q new after → Ends (placed_outcome t c) s q new after
unfolding placed_outcome
seek-passes t c u g w v = rw (g, w) v
