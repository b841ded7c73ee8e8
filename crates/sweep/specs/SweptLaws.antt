-- RDNXT, step by step down the ladder: the set, the forms of its parameters, the record that it gives.
use Rattle.std.specs.Prelude.{ℕ, ◌*◌, ◌≤◌, ◌≡◌, Bool, true, false, cond, not, List, [], eqb, leb, ltb, length, Option, Some, None, IfSome, Ok, Err}
use Rattle.std.proofs.Math.Path.{refl}
use Rattle.std.proofs.Common.{sym, ◌∙◌, arith, leb-true, ltb-true, ltb-false}
use Rattle.std.proofs.lemmas.Bool.{not-false}
use Rattle.octets.specs.Octets.{word_bytes}
use Rattle.octets.specs.Text.{text}
use Rattle.terms.specs.declared.Status.{Status}
use Rattle.terms.specs.declared.Status.TheVariants.{Done, Fntf, Area, Ivrp}
use Rattle.terms.specs.declared.Operation.TheVariants.{Rdnxt}
use Rattle.terms.specs.declared.Refusal.{Refusal}
use Rattle.terms.specs.declared.Refusal.TheVariants as refusal
use Rattle.terms.specs.Laws.{one_passes}
use Rattle.terms.specs.Status.{status_by}
use Rattle.terms.specs.Operation.{operation_of}
use Rattle.terms.specs.declared.RecordNo.{RecordNo}
use Rattle.schema.specs.declared.Entry.{Entry}
use Rattle.schema.specs.declared.Schema.{Schema}
use Rattle.schema.specs.Decode.{entry_of, set_count}
use Rattle.records.specs.Areas.{area_length}
use Rattle.scan.specs.Scan.{next_live}
use Rattle.calls.proofs.SceneLaws.{entry_here}
use Rattle.calls.specs.Call.{Call, call_of}
use Rattle.calls.specs.Scene.{Scene, scene_under}
use Rattle.schema.specs.Place.{InSet}
use Rattle.schema.specs.Numbers.{record_up_to}
use Rattle.schema.specs.Naming.{set_named, link_of}
use Rattle.schema.proofs.NamingLaws.{set_named_lem}
use Rattle.calls.specs.Ladder.{wrong_kind, place_rungs, form_rungs, seek_rungs, rest_rungs, refusal}
use Rattle.calls.specs.Reply.{or_none, given, reference_after, stores_of}
use Rattle.calls.specs.Outcome.{answered}
use Rattle.calls.proofs.RestLaws.{rest-rdnxt}
use Rattle.forms.specs.Form.{form_status}
use Rattle.forms.specs.FormLaws.{form-tests, form-link, form-on-unasked}
use Rattle.ends.specs.AsksLaws.{operation_letters, someone_asks}
use Rattle.ends.specs.FormFacts.{area-length}
use Rattle.ends.specs.Ends.{Ends, number_of, gave}
use Rattle.ends.specs.EndsLaws.{gave-answers}
use Rattle.ends.specs.Asks.{Asks, placed_status, placed_outcome}
use Rattle.records.specs.InBase.{Laid, IsSetOf}
use Rattle.records.specs.Fields.{Fields}
use Rattle.sweep.specs.Swept.{swept_at, formed_any, Sweeps, SweptOn}

-- ---- the ladder

module _ (t : Schema) (c : Call) (q : operation_of c.operation ≡ Rdnxt) where
  -- 4: both kinds are right, and no path is asked for
  place-sweep : refusal (scene_under t c) c place_rungs ≡ cond (not (ltb (set_named t c.name) (set_count t))) Fntf Done
  unfolding scene_under refusal wrong_kind
  place-sweep = rw q refl

  -- 7 and 11
  form-sweep : refusal (scene_under t c) c form_rungs
      ≡ form_status Rdnxt (entry_of t (set_named t c.name)) 0 0 (entry_of t (set_named t c.name)).key c.reference c.key c.area
  unfolding scene_under
  form-sweep =
      let e = entry_of t (set_named t c.name) in
      form-tests (scene_under t c) c
      ∙ (rw q (form-on-unasked Rdnxt e e.key c.reference c.key c.area _ 0 (link_of (scene_under t c).path) refl
      ∙ form-link Rdnxt e e.key c.reference c.key c.area 0 _ 0 refl))

  -- no master is looked for
  seek-sweep : refusal (scene_under t c) c seek_rungs ≡ Done
  unfolding scene_under refusal
  seek-sweep = rw q refl

  operation-here : (scene_under t c).operation ≡ Rdnxt
  unfolding scene_under
  operation-here = q

-- ---- what is known of the set

-- "Forms for 11: .. RDNXT 0..R"
reference-within : (e : Entry) (on link k ref : ℕ) (key area : List ℕ) → form_status Rdnxt e on link k ref key area ≡ Done → ref ≤ e.records
unfolding form_status
reference-within e on link k ref key area d =
    let p = (one_passes (not (eqb (length area) (area_length e))) Area _ (omega arith) d).1 in
    leb-true ref e.records (not-false _ (one_passes (not (leb ref e.records)) Ivrp _ (omega arith) p).0)

-- ---- the set that the call speaks of

module _ (t : Schema) (n : List ℕ) (r : ℕ) (key area : List ℕ) where
  abbrev i : ℕ
  i = set_named t n

  abbrev e : Entry
  e = entry_of t (set_named t n)

  -- what every call that asks so has of the tests
  first_one : (c : Call) → Asks c Rdnxt n r key area c.base → refusal (scene_under t c) c place_rungs ≡ cond (not (ltb i (set_count t))) Fntf Done
  first_one c h = rw (← h.name) (place-sweep t c h.operation)

  form_so : (c : Call) → Asks c Rdnxt n r key area c.base → refusal (scene_under t c) c form_rungs ≡ form_status Rdnxt e 0 0 e.key r key area
  form_so c h = rw (← h.name, ← h.reference, ← h.key, ← h.area) (form-sweep t c h.operation)

  -- no set has the name
  pub sweep_unplaced : {why : Refusal} → swept_at t i ≡ Err why → (c : Call) → Asks c Rdnxt n r key area c.base → status_by why ≡ placed_status t c
  sweep_unplaced h c a = go (ltb i (set_count t)) refl h
    where
      go : (f : Bool) → ltb i (set_count t) ≡ f → {why : Refusal} → cond f (Ok e) (Err refusal.Fntf) ≡ Err why → status_by why ≡ placed_status t c
      go false f {why} h = let w : why ≡ refusal.Fntf = cc in rw (w, first_one c a, f) refl
      go true f h = absurd cc

  pub sweeps-set : {u : Entry} {s : Status} → Laid t (512 * t.blocks) → swept_at t i ≡ Ok u → s ≡ formed_any u r key area → Sweeps t n r key area u s
  sweeps-set w h g = go (ltb i (set_count t)) refl h g
    where
      go : (f : Bool) → ltb i (set_count t) ≡ f → {u : Entry} {s : Status} → cond f (Ok e) (Err refusal.Fntf) ≡ Ok u → s ≡ formed_any u r key area → Sweeps t n r key area u s
      go false f h g = absurd cc
      go true f {u} {s} h g =
          let k : u ≡ e = cc in
          rw (g, k)
          (record {
            status = λ c h. rw (first_one c h, f) (sym (form_so c h));
            on-set = λ d c h. entry_here t c ∙ (rw h.name refl);
            known = λ d. record {
              set = record { laid = w; number = i; among = ltb-true _ _ f; here = refl };
              reference = reference-within e 0 0 e.key r key area d;
              area = area-length Rdnxt e 0 0 e.key r key area d refl;
            };
          })

-- a set that is there has its fields
pub swept-fields : (t : Schema) (i : ℕ) {u : Entry} {n : ℕ} → Laid t n → swept_at t i ≡ Ok u → Fields u
swept-fields t i w h = go (ltb i (set_count t)) refl h
  where
    go : (f : Bool) → ltb i (set_count t) ≡ f → {u : Entry} → cond f (Ok (entry_of t i)) (Err refusal.Fntf) ≡ Ok u → Fields u
    go false f h = absurd cc
    go true f {u} h = let k : u ≡ entry_of t i = cc in rw k (w.fields i (ltb-true _ _ f))

-- ---- the record that it gives

pub none_within : (e : Entry) (r : ℕ) → or_none e r ≤ e.records
none_within e r = go (ltb e.records r) refl
  where
    go : (b : Bool) → ltb e.records r ≡ b → or_none e r ≤ e.records
    go true h = rw h (omega arith)
    go false h = rw h (ltb-false e.records r h)

-- the answer's number, and that it is one of the set's
module _ (e : Entry) (r : ℕ) where
  pub given-number : {o : Option RecordNo} → o ≡ record_up_to e.records r → number_of o ≡ or_none e r
  given-number h = rw h (go (ltb e.records r))
    where
      go : (t : Bool) → number_of (cond t None (Some (record { 0 = r }))) ≡ cond t 0 r
      go true = refl
      go false = refl

  pub given-within : {o : Option RecordNo} → 1 ≤ r → o ≡ record_up_to e.records r → IfSome o (λ (q : RecordNo). InSet e q.0)
  given-within l h = rw h (go (ltb e.records r) refl)
    where
      go : (t : Bool) → ltb e.records r ≡ t → IfSome (cond t None (Some (record { 0 = r }))) (λ (q : RecordNo). InSet e q.0)
      go true w = tt
      go false w = (l, ltb-false e.records r w)

module _ (e : Entry) (r : ℕ) (area b : List ℕ) where
  sweep-gives : (x : Scene) (c : Call) → x.operation ≡ Rdnxt → x.entry ≡ e → c.reference ≡ r → c.base ≡ b → c.area ≡ area
      → answered x c (refusal x c (rest_rungs x)) ≡ gave b e (or_none e (next_live b e r)) area
  unfolding given reference_after stores_of
  sweep-gives x c o w hr hb ha =
      rw (← hb, ← ha, ← hr, ← w) (gave-answers x c (refusal x c (rest_rungs x)) _ (rest-rdnxt x c o) (rw o refl) (rw o refl) (rw o refl) (rw o refl))

  pub sweep-ends : {s : Status} {q : ℕ} {new : List ℕ} (g : ℕ) → g ≡ or_none e (next_live b e r) → Ends (gave b e g area) s q new b → SweptOn e r area b s q new b
  unfolding placed_outcome
  sweep-ends g k w =
      record {
        told = λ t c key h at.
            rw (seek-sweep t c h.operation, sweep-gives (scene_under t c) c (operation-here t c h.operation) at h.reference h.base h.area, ← k) w;
      }

-- ---- such a call exists

-- on every set of a schema, with all other parameters: no statement on RDNXT is about none
module _ {t : Schema} {e : Entry} {n : ℕ} (s : IsSetOf t e n) (r : ℕ) (key area b : List ℕ) where
  abbrev asking : Call
  asking = call_of (operation_letters Rdnxt) (word_bytes (entry_of t s.number).name) r (text "        ") key area [] b

  pub someone_sweeps : (c : Call) × Asks c Rdnxt c.name r key area b × ((scene_under t c).entry ≡ e)
  someone_sweeps = (
    asking,
    someone_asks Rdnxt asking.name r asking.path key area [] b,
    entry_here t asking ∙ (rw (set_named_lem t s.laid.ok s.number s.among) (sym s.here)),
  )
