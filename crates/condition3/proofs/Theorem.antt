-- Condition 3, proved: `Condition3 outcome`. A data base that a sequence starts with stands for rows (sign-on accepts no other, FORMT leaves
-- none but empty ones); each call keeps that and changes the rows as the plain step changes the lists; and readings show the rows.
use Rattle.std.specs.Prelude.{ℕ, ◌*◌, ◌≡◌, ◌⊎◌, true}
use Rattle.std.proofs.Math.Path.{refl, ap, fun_ext}
use Rattle.std.proofs.Common.{sym, ◌∙◌, inl, inr, ⊎_elim, eqb-true, eq-eqb}
use mathlib.Core.List.{List, [], ◌∷◌, reverse, reverse_aux}
use native.Mathlib.Omega.{arith}
use Rattle.std.proofs.Math.ListN.{length}
use Rattle.std.proofs.lemmas.Bool.{not-false}
use Rattle.octets.specs.Text.{text}
use Rattle.octets.specs.Octets.{same_bytes}
use Rattle.terms.specs.declared.Status.TheVariants.{Done}
use Rattle.terms.specs.declared.Operation.TheVariants.{Formt, Sinon}
use Rattle.terms.specs.Operation.{operation_of}
use Rattle.schema.specs.declared.Entry.{Entry}
use Rattle.schema.specs.declared.Schema.{Schema}
use Rattle.schema.specs.Guarantee.{IsPathOf}
use Rattle.schema.specs.Layout.{keeps_rules}
use Rattle.schema.specs.Decode.{entry_of, schema_of}
use Rattle.schema.proofs.GuaranteeLaws.{guaranteed}
use Rattle.records.proofs.AreaLaws.{fields_of}
use Rattle.blocks.specs.Blocks.{check_by}
use Rattle.plans.specs.Plan.{blocks_sealed, formatted}
use Rattle.sound.specs.Sound.{sound}
use Rattle.calls.specs.Call.{Call, Outcome, one_of}
use Rattle.calls.specs.Scene.{scene_of, scene_under}
use Rattle.calls.specs.Ladder.{general_rungs, final_rungs}
use Rattle.calls.proofs.LadderLaws.{others_pass, holds-passes}
use Rattle.calls.specs.Outcome.{done, outcome, IsOutcome}
use Rattle.calls.proofs.Theorems.{has-outcome, one_outcome}
use Rattle.calls.specs.Reply.{stores_of, base_after}
use Rattle.kept_state.specs.Rows.{World}
use Rattle.kept_state.specs.FreshLaws.{format_represents}
use Rattle.point_steps.specs.Standing.{rows_in, sound_represents, represents_sound}
use Rattle.condition3.specs.Plain.{Lists}
use Rattle.condition3.specs.Readings.{Request, Fixed, schema_in, Lent, lent_after, under, after_calls, plain, NoDamage, Reader, reader_of, Place, set_no, entry_named, path_no, IsPlace, readm, Exists, readv, rdnxt, link}
use Rattle.condition3.specs.Condition.{sinon, formt, SignsOn, Formatted, Start, StartLists, Kept, Condition3}
use Rattle.condition3.proofs.ReadingLaws.{step_unseen, reads-one}
use Rattle.condition3.proofs.PlaceLaws.{place-path}
use Rattle.condition3.specs.Shown.{shown, Ready}
use Rattle.octets.specs.TestLaws.{asked}
use Rattle.condition3.proofs.Outcomes.{parameter_rungs, found_rungs, AllPassed, climbed, outcome-done, done-is, done_rungs}
use Rattle.condition3.proofs.Quiet.{never_damaged}
use Rattle.condition3.proofs.Turns.{AllRows, Shows}
use Rattle.condition3.proofs.Steps.{status?, call_turned}
use Rattle.condition3.proofs.ExistsLaws.{row_or_exists}
use Rattle.condition3.proofs.ReadLaws.{reads-forward, reads-backward}
use Rattle.condition3.proofs.SweepLaws.{live_records, sweep-reads, sweep-same}

-- ---- the reverse of a list of points

reverse_onto : (b : List ℕ) (e : Entry) (us vs : List ℕ) → shown b e (reverse_aux us vs) ≡ reverse_aux (shown b e us) (shown b e vs)
reverse_onto b e [] vs = refl
reverse_onto b e (u ∷ us) vs = reverse_onto b e us (u ∷ vs)

shown-reverse : (b : List ℕ) (e : Entry) (rs : List ℕ) → shown b e (reverse rs) ≡ reverse (shown b e rs)
shown-reverse b e rs = reverse_onto b e rs []

-- ---- where a sequence starts

-- a schema that keeps the rules
world : (s : List ℕ) → keeps_rules s ≡ true → World (schema_of s)
unfolding schema_of
world s h = record { ok = guaranteed s h; fields = λ i l. fields_of s h i l }

-- what every call that is done has passed: "1, 2"
general : (c : Call) → (outcome c).status ≡ Done → (keeps_rules c.schema ≡ true) × (length c.base ≡ 512 * (schema_of c.schema).blocks)
unfolding scene_under
general c d =
    let h = (done_rungs c d).general in
    let z : length c.base ≡ (schema_of c.schema).blocks * 512 = eqb-true _ _ (not-false _ h.1.0) in
    (not-false _ h.0, omega arith)

signing-on : operation_of (text "SINON") ≡ Sinon
unfolding operation_of same_bytes
signing-on = refl

formatting : operation_of (text "FORMT") ≡ Formt
unfolding operation_of same_bytes
formatting = refl

-- SINON's one test of its own
signs_sound : (c : Call) → operation_of c.operation ≡ Sinon → (outcome c).status ≡ Done → sound (schema_of c.schema) c.base ≡ true
unfolding scene_under
signs_sound c q d = not-false _ (asked (one_of (operation_of c.operation) (Sinon ∷ [])) _ (done_rungs c d).final.1.1.1.0 (rw q refl))

-- what FORMT leaves
format-leaves : (c : Call) → operation_of c.operation ≡ Formt → (outcome c).status ≡ Done → (outcome c).base ≡ formatted (check_by (schema_of c.schema).edition) (schema_of c.schema).blocks
unfolding done base_after scene_under
format-leaves c q d = rw (done-is c d) (rw q refl)

-- such a data base stands for rows
signed_ready : (f : Fixed) (d : Lent) → SignsOn (reader_of outcome f d) → Ready f.schema d.base (rows_in (schema_in f) d.base)
signed_ready f d h =
    let c = under f d sinon in
    let k = general c h in
    let w = world f.schema k.0 in
    record { rules = k.0; world = w; stands = sound_represents (schema_in f) d.base w k.1 (signs_sound c signing-on h) }

format_ready : (f : Fixed) (d : Lent) → Formatted outcome f d → Ready f.schema d.base (λ i j key. [])
format_ready f d h =
    let c = under f h.0 formt in
    let k = general c h.1 in
    let w = world f.schema k.0 in
    record { rules = k.0; world = w; stands = rw (ap (λ (z : Lent). z.base) h.2, format-leaves c formatting h.1) (format_represents (schema_in f) w) }

start_ready : (f : Fixed) (d : Lent) → Start outcome f d → (rows : AllRows) × Ready f.schema d.base rows
start_ready f d (inl h) = (rows_in (schema_in f) d.base, signed_ready f d h)
start_ready f d (inr h) = (λ i j key. [], format_ready f d h)

-- ---- sign-on accepts every such data base

module _ (c : Call) (rows : AllRows) (g : Ready c.schema c.base rows) (q : operation_of c.operation ≡ Sinon) where
  sign_rungs : AllPassed (scene_of c) c
  unfolding scene_under stores_of blocks_sealed
  sign_rungs =
      let z : length c.base ≡ (schema_of c.schema).blocks * 512 = omega (arith, g.stands.sized) in
      record {
        general = holds-passes (scene_of c) c Sinon q general_rungs (rw g.rules refl, (rw (eq-eqb _ _ z) refl, tt));
        parameters = holds-passes (scene_of c) c Sinon q parameter_rungs tt;
        found = holds-passes (scene_of c) c Sinon q found_rungs tt;
        others = others_pass (scene_of c) c (rw q refl) (rw q refl) (scene_of c).entry.count;
        final = holds-passes (scene_of c) c Sinon q final_rungs (rw (represents_sound (schema_of c.schema) c.base rows g.world g.stands) refl, (rw q refl, tt));
      }

  sign_done : (outcome c).status ≡ Done
  unfolding done
  sign_done = rw (outcome-done c (climbed (scene_of c) c sign_rungs)) refl

-- ---- every schema that keeps the rules has a start: FORMT formats

module _ (c : Call) (rules : keeps_rules c.schema ≡ true) (sized : length c.base ≡ 512 * (schema_of c.schema).blocks) (q : operation_of c.operation ≡ Formt) where
  format_rungs : AllPassed (scene_of c) c
  unfolding scene_under stores_of blocks_sealed
  format_rungs =
      let z : length c.base ≡ (schema_of c.schema).blocks * 512 = omega arith in
      record {
        general = holds-passes (scene_of c) c Formt q general_rungs (rw rules refl, (rw (eq-eqb _ _ z) refl, tt));
        parameters = holds-passes (scene_of c) c Formt q parameter_rungs tt;
        found = holds-passes (scene_of c) c Formt q found_rungs tt;
        others = others_pass (scene_of c) c (rw q refl) (rw q refl) (scene_of c).entry.count;
        final = holds-passes (scene_of c) c Formt q final_rungs (rw q refl, tt);
      }

  format-done : (outcome c).status ≡ Done
  unfolding done
  format-done = rw (outcome-done c (climbed (scene_of c) c format_rungs)) refl

-- ---- readings show the rows

module _ (f : Fixed) (d : Lent) (rows : AllRows) (g : Ready f.schema d.base rows) where
  abbrev t : Schema
  t = schema_in f

  abbrev b : List ℕ
  b = d.base

  abbrev ask : Reader
  ask = reader_of outcome f d

  -- the lists that show the rows are those that it starts with
  shown-starts : StartLists t ask (λ i j key. shown b (entry_of t i) (rows i j key))
  shown-starts = record {
    read = λ w key p h. reads-forward f d rows g w p key h;
    none = λ w key p n. ⊎_elim (λ z. rw z refl) (λ h. absurd (n h)) (row_or_exists f d rows g w p key);
  }

  -- and no others
  starts-shown : (l : Lists) → StartLists t ask l → (w : Place) → IsPlace t w → Shows t b rows l (set_no t w) (path_no t w)
  starts-shown l h w p key = by (status? (ask (readm w key)).status)
    where
      by : Exists ask w key ⊎ (Exists ask w key → ⊥) → l (set_no t w) (path_no t w) key ≡ shown b (entry_named t w) (rows (set_no t w) (path_no t w) key)
      by (inl k) = reads-one (readv ask w key) (link t w) _ _ (h.read w key p k) (reads-forward f d rows g w p key k)
      by (inr n) = h.none w key p n ∙ sym (shown-starts.none w key p n)

  -- what is kept of one path and key
  rows-kept : (w : Place) (key : List ℕ) → IsPlace t w → Kept t ask w key (shown b (entry_named t w) (rows (set_no t w) (path_no t w) key))
  rows-kept w key p = record {
    same = λ h ys zs r z.
        let e = entry_named t w in
        rw (
          reads-one (readv ask w key) (link t w) ys (shown b e (rows (set_no t w) (path_no t w) key)) r (reads-forward f d rows g w p key h),
          reads-one (rdnxt ask w) 0 zs (shown b e (live_records b e)) z (sweep-reads f d rows g w p key),
        )
        (sweep-same f d rows g w p key);
    forward = λ h. reads-forward f d rows g w p key h;
    backward = λ h. rw (shown-reverse b (entry_named t w) (rows (set_no t w) (path_no t w) key)) at (reads-backward f d rows g w p key h);
    sweep = (shown b (entry_named t w) (live_records b (entry_named t w)), sweep-reads f d rows g w p key, sweep-same f d rows g w p key);
    none = λ n. shown-starts.none w key p n;
  }

-- ---- the sequence

module _ (f : Fixed) where
  -- what is lent stands for the rows
  abbrev Stands : Lent → AllRows → Type 0
  Stands d rows = Ready f.schema d.base rows

  -- one call
  turned_ready : (d : Lent) (rows : AllRows) (g : Stands d rows) (q : Request) → Stands (lent_after (outcome (under f d q))) (call_turned (under f d q) rows g).now
  turned_ready d rows g q = record { rules = g.rules; world = g.world; stands = (call_turned (under f d q) rows g).stands }

  quiet-run : (d : Lent) (rows : AllRows) → Stands d rows → (qs : List Request) → NoDamage outcome f d qs
  quiet-run d rows g [] = tt
  quiet-run d rows g (q ∷ qs) = (never_damaged (under f d q) rows g, quiet-run (lent_after (outcome (under f d q))) _ (turned_ready d rows g q) qs)

  -- the rows at the end, and what the plain lists show there
  abbrev Ended : Lent → Lists → ℕ → ℕ → Type 0
  Ended d l i j = (rows : AllRows) × Stands d rows × Shows (schema_in f) d.base rows l i j

  ends : (d : Lent) (rows : AllRows) → Stands d rows → (qs : List Request) (l : Lists) (i j : ℕ) → IsPathOf (schema_in f) i j → Shows (schema_in f) d.base rows l i j
      → Ended (after_calls outcome f d qs) (plain outcome f d qs l) i j
  unfolding after_calls plain
  ends d rows g [] l i j p h = (rows, g, h)
  ends d rows g (q ∷ qs) l i j p h =
      ends (lent_after (outcome (under f d q))) (call_turned (under f d q) rows g).now (turned_ready d rows g q) qs _ i j p
      (λ key. ap (λ (m : Lists). m i j key) (sym (step_unseen f d q _ _ l)) ∙ (call_turned (under f d q) rows g).shows l i j p h key)

  run_ready : (d : Lent) (rows : AllRows) → Stands d rows → (qs : List Request) → (now : AllRows) × Stands (after_calls outcome f d qs) now
  unfolding after_calls
  run_ready d rows g [] = (rows, g)
  run_ready d rows g (q ∷ qs) = run_ready (lent_after (outcome (under f d q))) (call_turned (under f d q) rows g).now (turned_ready d rows g q) qs

-- ---- the theorem

pub condition_3 : Condition3 outcome
condition_3 = record {
  begins = λ f d h. format-done (under f d formt) h.rules h.sized formatting;
  starts = λ f d h. let r = start_ready f d h in (λ i j key. shown d.base (entry_of (schema_in f) i) (r.0 i j key), shown-starts f d r.0 r.1);
  empty = λ f d h. shown-starts f d (λ i j key. []) (format_ready f d h);
  quiet = λ f d qs h. let r = start_ready f d h in quiet-run f d r.0 r.1 qs;
  accepted = λ f d qs h.
      let r = start_ready f d h in
      let e = run_ready f d r.0 r.1 qs in
      sign_done (under f (after_calls outcome f d qs) sinon) e.0 e.1 signing-on;
  kept = λ f d qs l h k w key p.
      let r = start_ready f d h in
      let i = set_no (schema_in f) w in
      let j = path_no (schema_in f) w in
      let e = ends f d r.0 r.1 qs l i j (place-path (schema_in f) w r.1.world.ok p) (starts-shown f d r.0 r.1 l k w p) in
      rw (e.2 key) (rows-kept f (after_calls outcome f d qs) e.0 e.1 w key p);
}

-- ---- every store that meets condition 2 meets condition 3

-- such a store is `outcome`
pub is_outcome : (answer : Call → Outcome) → ((c : Call) → IsOutcome c (answer c)) → answer ≡ outcome
is_outcome answer h = fun_ext (λ c. one_outcome c (answer c) (outcome c) (h c) (has-outcome c))

pub conditions_2_3 : (answer : Call → Outcome) → ((c : Call) → IsOutcome c (answer c)) → Condition3 answer
conditions_2_3 answer h = rw (is_outcome answer h) condition_3
