-- How each call on points ends, from what its code has read.
use Rattle.std.specs.Prelude.{ℕ, ◌≤◌, ◌≡◌, refl, Bool, true, false, cond, not, ◌&&◌, List, [], ◌∷◌, ◌⊎◌, eqb, Option, Some, None, IfSome}
use Rattle.std.proofs.Common.{sym, ap, ◌∙◌, ⊎_elim, arith, eq-eqb}
use Rattle.octets.specs.TestLaws.{never_both, neither}
use Rattle.terms.specs.declared.Status.{Status}
use Rattle.terms.specs.declared.Status.TheVariants.{Done, Damg}
use Rattle.terms.specs.declared.Operation.TheVariants.{Formt, Readd}
use Rattle.terms.specs.declared.RecordNo.{RecordNo}
use Rattle.schema.specs.declared.Path.{Path}
use Rattle.schema.specs.declared.Entry.{Entry}
use Rattle.schema.specs.declared.Schema.{Schema}
use Rattle.schema.specs.Place.{InSet}
use Rattle.masters.specs.declared.Found.TheVariants.{At}
use Rattle.points.specs.Chains.{read_damaged, bad_neighbour, uneven_ends}
use Rattle.points.specs.SideLaws.{neighbour_ok}
use Rattle.calls.proofs.SceneLaws.{operation-here}
use Rattle.calls.specs.Call.{Call, one_of}
use Rattle.calls.specs.Scene.{Scene, scene_under}
use Rattle.calls.specs.Reply.{master_in, or_end, given, reference_after, stores_of}
use Rattle.schema.specs.Naming.{link_of}
use Rattle.calls.specs.Ladder.{rest_rungs, refusal, is_link}
use Rattle.calls.specs.Outcome.{answered}
use Rattle.calls.proofs.RestLaws.{rest-readv, rest-readr, rest_readd}
use Rattle.ends.specs.AsksLaws.{found_among}
use Rattle.ends.specs.Ends.{Ends, number_of, gave}
use Rattle.ends.specs.EndsLaws.{gave-answers}
use Rattle.ends.specs.Asks.{Asks}
use Rattle.point_calls.specs.OnPath.{PointCall, read_by, looks_at, OnPath, seek_status, Seen, pointer_on, AnswersOnPath}
use Rattle.point_calls.specs.PathLaws.{readv-call, readr-call, readd_call}
use Rattle.point_calls.specs.SeekLaws.{seen-ends, rest-refuses}

-- ---- READD

module _ (e : Entry) (r : ℕ) (area b : List ℕ) where
  readd_gives : (y : Scene) (c : Call) → y.operation ≡ Readd → y.entry ≡ e → c.reference ≡ r → c.base ≡ b → c.area ≡ area
      → answered y c (refusal y c (rest_rungs y)) ≡ gave b e r area
  unfolding given reference_after stores_of
  readd_gives y c o w hr hb ha =
      rw (← hb, ← ha, ← w, ← hr) (gave-answers y c (refusal y c (rest_rungs y)) c.reference (rest_readd y c o) (rw o refl) (rw o refl) (rw o refl) (rw o refl))

pub readd_ends : {s : Status} {q : ℕ} {new : List ℕ} (e : Entry) (p : Path) (x : Entry) (r : ℕ) (key area b : List ℕ) (m : RecordNo) → Seen b e p x r key true m
    → Ends (gave b e r area) s q new b → AnswersOnPath Readd e p x r key area b s q new b
readd_ends e p x r key area b m g w =
    record {
      told = λ t c n on h at.
          seen-ends t c n Readd e on p x r key area b readd_call h at (gave b e r area) g.status
          (readd_gives e r area b (scene_under t c) c (operation-here t c ∙ h.operation) at.entry h.reference h.base h.area) w;
    }

-- ---- READV and READR

pub read-call : (back : Bool) → PointCall (read_by back)
read-call true = readr-call
read-call false = readv-call

-- the pointer that the call uses
abbrev along : Bool → Scene → Call → ℕ
along back y c = pointer_on back c.base y.entry y.path y.masters (master_in y) c.reference (is_link y c)

read-rest : (back : Bool) (y : Scene) (c : Call) → y.operation ≡ read_by back
    → refusal y c (rest_rungs y) ≡ cond (read_damaged c.base y.entry y.path y.masters (master_in y) c.key (is_link y c) (along back y c)) Damg Done
read-rest true y c o = rest-readr y c o
read-rest false y c o = rest-readv y c o

read-given : (back : Bool) (y : Scene) (c : Call) → y.operation ≡ read_by back → given y c ≡ along back y c
unfolding given
read-given true y c o = rw o refl
read-given false y c o = rw o refl

read-after : (back : Bool) (y : Scene) (c : Call) → y.operation ≡ read_by back → reference_after y c ≡ or_end (given y c)
unfolding reference_after
read-after true y c o = rw o refl
read-after false y c o = rw o refl

read-stores : (back : Bool) (y : Scene) (c : Call) → y.operation ≡ read_by back → (stores_of y c ≡ []) × (one_of y.operation (Formt ∷ []) ≡ false)
unfolding stores_of
read-stores true y c o = (rw o refl, rw o refl)
read-stores false y c o = (rw o refl, rw o refl)

pub read_looks : (back : Bool) (p : Path) (r : ℕ) → not (eqb r (link_of p)) ≡ looks_at (read_by back) p r
read_looks true p r = refl
read_looks false p r = refl

module _ (back linked : Bool) (e : Entry) (p : Path) (x : Entry) (r : ℕ) (key area b : List ℕ) (m : RecordNo) (n : ℕ) (l : linked ≡ eqb r (link_of p))
    (g : Seen b e p x r key (not linked) m) (w : n ≡ pointer_on back b e p x m.0 r linked) where
  looked : seek_status b e p x r key (looks_at (read_by back) p r) ≡ Done
  looked = rw (← read_looks back p r, ← l) g.status

  module _ (t : Schema) (c : Call) (i on : ℕ) (h : Asks c (read_by back) c.name r key area b) (at : OnPath t c i e on p x) where
    abbrev y : Scene
    y = scene_under t c

    is_read : y.operation ≡ read_by back
    is_read = operation-here t c ∙ h.operation

    found_at : y.found ≡ At m
    found_at = found_among h t at.masters ∙ g.master

    used : along back y c ≡ n
    used = rw (at.entry, at.path, at.masters, found_at, h.base, h.reference, ← l) (sym w)

    rest-is : refusal y c (rest_rungs y) ≡ cond (read_damaged b e p x m.0 key linked n) Damg Done
    rest-is = read-rest back y c is_read ∙ (rw (used, at.entry, at.path, at.masters, found_at, h.base, h.key, h.reference, ← l) refl)

    gives : read_damaged b e p x m.0 key linked n ≡ false → answered y c (refusal y c (rest_rungs y)) ≡ gave b e n area
    gives d =
        rw (← h.base, ← h.area, ← at.entry)
        (gave-answers y c (refusal y c (rest_rungs y)) n (rest-is ∙ (rw d refl)) (read-given back y c is_read ∙ used)
        (read-after back y c is_read ∙ ap or_end (read-given back y c is_read ∙ used)) (read-stores back y c is_read).0 (read-stores back y c is_read).1)

  pub read-refused : read_damaged b e p x m.0 key linked n ≡ true → AnswersOnPath (read_by back) e p x r key area b Damg r area b
  read-refused d =
      record { told = λ t c i on h at. rest-refuses t c i (read_by back) e on p x r key area b (read-call back) h at Damg looked (rest-is t c i on h at ∙ (rw d refl)) (omega arith) }

  pub read-ends : {s : Status} {q : ℕ} {new : List ℕ} → read_damaged b e p x m.0 key linked n ≡ false → Ends (gave b e n area) s q new b
      → AnswersOnPath (read_by back) e p x r key area b s q new b
  read-ends d v =
      record { told = λ t c i on h at. seen-ends t c i (read_by back) e on p x r key area b (read-call back) h at (gave b e n area) looked (gives t c i on h at d) v }

pub read_low : (b : List ℕ) (e : Entry) (p : Path) (x : Entry) (m : ℕ) (key : List ℕ) (linked : Bool) (n : ℕ) → read_damaged b e p x m key linked n ≡ false → n ≤ e.records
unfolding read_damaged
read_low b e p x m key linked n h =
    ⊎_elim (λ z. omega arith) (λ u. u.in_set.1) (neighbour_ok b e p key n (neither (linked && uneven_ends b x m p) (bad_neighbour b e p key n) h).1)

-- a reference that is no LKxx is a record's number
pub not-linked : {linked : Bool} (e : Entry) (r link : ℕ) → linked ≡ eqb r link → (r ≡ link) ⊎ InSet e r → linked ≡ false → InSet e r
not-linked e r link l w f = ⊎_elim (λ z. absurd (never_both (eqb r link) (eq-eqb r link z) (sym l ∙ f))) (λ i. i) w

-- a pointer that is not damaged leads to none, or to a record of the set
pub pointed_within : {n : ℕ} (e : Entry) (o : Option RecordNo) → number_of o ≡ n → IfSome o (λ (r : RecordNo). 1 ≤ r.0) → n ≤ e.records
    → IfSome o (λ (r : RecordNo). InSet e r.0)
pointed_within e (Some r) h k l = (k, omega (arith, h))
pointed_within e None h k l = tt
