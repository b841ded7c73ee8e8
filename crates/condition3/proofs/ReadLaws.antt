-- The chain of a master that exists, read forward by READV and backward by READR: the row, and its reverse, then END. One lemma for both:
-- a call that stands at a node gives what the pointer of that node leads to, and the next call stands there. LKxx stands at node 0, the head.
use Rattle.std.specs.Prelude.{ℕ, ◌≤◌, ◌≡◌, refl, ◌≢◌, ◌⊎◌, Bool, true, false}
use Rattle.std.proofs.Common.{sym, ◌∙◌, inl, inr, arith, eq-eqb, ne_eqb, le-leb}
use mathlib.Core.List.{List, [], ◌∷◌, reverse, reverse_aux}
use Rattle.octets.specs.RunLaws.{eq_same_bytes}
use Rattle.schema.specs.declared.Entry.{Entry}
use Rattle.schema.specs.declared.Schema.{Schema}
use Rattle.schema.specs.Decode.{path_of, masters_on}
use Rattle.records.specs.Records.{master_key}
use Rattle.chains.specs.Members.{All, In}
use Rattle.chains.specs.Segments.{Run, seg-run, seg-reverse}
use Rattle.sound.specs.Sets.{Live}
use Rattle.calls.specs.Call.{Call}
use Rattle.calls.specs.Reply.{given_by, given, reference_after, area_after}
use Rattle.calls.specs.Outcome.{done, outcome}
use Rattle.kept_state.specs.Rows.{Mine, next_node, prior_node}
use Rattle.point_steps.specs.RowFacts.{next_node_at, prior_node_at, row-chain}
use Rattle.point_steps.specs.Neighbours.{read-quiet}
use Rattle.condition3.specs.Readings.{request_of, Fixed, schema_in, Lent, under, reader_of, Reads, Place, set_no, entry_named, path_no, IsPlace, Exists, readv, readr, link}
use Rattle.condition3.specs.Shown.{shown, Ready}
use Rattle.condition3.proofs.Outcomes.{outcome-done, Gives}
use Rattle.condition3.proofs.ReadTests.{read_of, read_text, chain_scene, chain_scene_lem, Granted, Followed, read-passes}
use Rattle.condition3.proofs.ExistsLaws.{place-variable, place-master, granted, place-rows, exists_says}

-- what holds of all elements holds of all of the reverse
all_turned : (P : ℕ → Type 0) (xs ys : List ℕ) → All P xs → All P ys → All P (reverse_aux xs ys)
all_turned P [] ys h k = k
all_turned P (x ∷ xs) ys h k = all_turned P xs (x ∷ ys) h.1 (h.0, k)

-- the answer of READV or READR that is done and comes to record n, or to the end where n is 0
gives : (back : Bool) (c : Call) (n : ℕ) → given_by (read_of back) (chain_scene back c) c ≡ n → Gives c.base (chain_scene back c).entry (done (chain_scene back c) c) n
unfolding done reference_after area_after given
gives true c n q = record { status = refl; reference = rw q refl; area = λ d. rw (q, ne_eqb n 0 d) refl }
gives false c n q = record { status = refl; reference = rw q refl; area = λ d. rw (q, ne_eqb n 0 d) refl }

module _ (f : Fixed) (d : Lent) (rows : ℕ → ℕ → List ℕ → List ℕ) (g : Ready f.schema d.base rows) (w : Place) (p : IsPlace (schema_in f) w) (key : List ℕ) where
  abbrev s : List ℕ
  s = f.schema

  abbrev t : Schema
  t = schema_in f

  abbrev b : List ℕ
  b = d.base

  abbrev i : ℕ
  i = set_no t w

  abbrev j : ℕ
  j = path_no t w

  abbrev e : Entry
  e = entry_named t w

  abbrev x : Entry
  x = masters_on t e j

  abbrev mine : ℕ → Type 0
  mine = Mine t b i j key

  -- the call with the reference r
  abbrev call : Bool → ℕ → Call
  call back r = under f d (request_of (read_text back) w.set r w.path key w.point-area)

  -- the number of a record, which is low: it is neither LKxx nor END.
  low : (r : ℕ) → Live b e r → (1 ≤ r) × (r ≤ 65535)
  low r l = (l.0.0, omega (arith, (g.world.ok.set i p.set).many))

  -- the reference may be LKxx, or the number of a record of the row
  at_link : (back : Bool) → Followed true (call back (link t w))
  at_link back =
      record {
        variable = place-variable t g.world.ok w p;
        path = p.path;
        link = eq-eqb (link t w) (link t w) refl;
        form = refl;
        point = refl;
      }

  at_record : (back : Bool) (r : ℕ) → mine r → Followed false (call back r)
  at_record back r h =
      record {
        variable = place-variable t g.world.ok w p;
        path = p.path;
        link = ne_eqb r (link t w) (λ q. omega (arith, low r h.0));
        form = rw (le-leb 1 r h.0.0.0, le-leb r e.records h.0.0.1) refl;
        point = rw (h.0.1, eq_same_bytes _ _ h.1) refl;
      }

  module _ (m : ℕ) (l : Live b x m) (k : master_key b x m ≡ key) where
    -- the pointer that it follows
    abbrev lead : Bool → ℕ → ℕ
    lead true = prior_node t b i j m
    lead false = next_node t b i j m

    -- the call has all that it must have
    grants : (back : Bool) (r : ℕ) → Granted x m (call back r)
    grants back r = granted (call back r) rows (path_of e j).master.0 m g (place-master t g.world.ok w p) l k p.set p.point-area

    -- it comes to what the pointer leads to
    given-link : (back : Bool) → given_by (read_of back) (chain_scene back (call back (link t w))) (call back (link t w)) ≡ lead back 0
    given-link true = rw ((at_link true).link, (grants true 0).found) refl
    given-link false = rw ((at_link false).link, (grants false 0).found) refl

    given_record : (back : Bool) (r : ℕ) → mine r → given_by (read_of back) (chain_scene back (call back r)) (call back r) ≡ lead back r
    given_record true r h = rw (at_record true r h).link (sym (prior_node_at t b i j m r h.0.0.0))
    given_record false r h = rw (at_record false r h).link (sym (next_node_at t b i j m r h.0.0.0))

    -- and answers it
    answers : (back linked : Bool) (r n : ℕ) → Followed linked (call back r) → given_by (read_of back) (chain_scene back (call back r)) (call back r) ≡ n
        → (n ≡ 0) ⊎ In n (rows i j key) → Gives b e (outcome (call back r)) n
    answers back linked r n f q h =
        let quiet = read-quiet t b i j (rows i j) m key linked n (place-rows s b rows g w p) l k h in
        let c = call back r in
        let scene = chain_scene_lem back c refl in
        rw (outcome-done c (rw scene (read-passes c m linked (grants back r) f back n q quiet)), scene) (gives back c n q)

    -- so from node a on, where the reference r stands, the calls give the run of the pointer
    reads : (back linked : Bool) (r a : ℕ) (xs : List ℕ) → Followed linked (call back r)
        → given_by (read_of back) (chain_scene back (call back r)) (call back r) ≡ lead back a → Run (lead back) a xs → All mine xs
        → Reads (λ r. outcome (call back r)) r (shown b e xs)
    reads back linked r a [] f q run h = let z = answers back linked r 0 f (q ∙ run) (inl refl) in (z.status, z.reference)
    reads back linked r a (y ∷ ys) f q run h =
        let z = answers back linked r y f (q ∙ run.0) (inr (rw h.0.1 at ((place-rows s b rows g w p).full y h.0.0))) in
        let some = low y h.0.0 in
        let not0 : y ≢ 0 = λ k. omega arith in
        (z.status, rw (ne_eqb y 0 not0) at z.reference, z.area not0, omega arith, reads back false y y ys (at_record back y h.0) (given_record back y h.0) run.1 h.1)

  pub reads-forward : Exists (reader_of outcome f d) w key → Reads (readv (reader_of outcome f d) w key) (link t w) (shown b e (rows i j key))
  reads-forward h =
      let o = exists_says f d rows g w p key h in
      reads o.0 o.1 o.2 false true (link t w) 0 (rows i j key) (at_link false) (given-link o.0 o.1 o.2 false)
      (seg-run _ _ 0 (rows i j key) (row-chain t b i j (rows i j) key (place-rows s b rows g w p) o.0 o.1 o.2)) ((place-rows s b rows g w p).mine key)

  pub reads-backward : Exists (reader_of outcome f d) w key → Reads (readr (reader_of outcome f d) w key) (link t w) (shown b e (reverse (rows i j key)))
  reads-backward h =
      let o = exists_says f d rows g w p key h in
      reads o.0 o.1 o.2 true true (link t w) 0 (reverse (rows i j key)) (at_link true) (given-link o.0 o.1 o.2 true)
      (seg-run _ _ 0 (reverse (rows i j key)) (seg-reverse _ _ 0 (rows i j key) 0 (row-chain t b i j (rows i j) key (place-rows s b rows g w p) o.0 o.1 o.2)))
      (all_turned mine (rows i j key) [] ((place-rows s b rows g w p).mine key) tt)
