-- The sweep of a data base that stands for rows: RDNXT from 0 on gives every live record of the set once, in ascending order, and then END.;
-- those that have a key on a path are the records of that row.
use Prim.Native.Nat.{ℕ, zero, suc, ◌+◌, ◌*◌, ◌-◌, ◌≤◌, ◌<◌}
use Rattle.std.specs.Prelude.{◌≡◌, ◌≢◌, Bool, cond, List, [], ◌∷◌, ◌++◌, length}
use Rattle.std.proofs.Math.Path.{refl}
use Rattle.std.proofs.Common.{sym, ◌∙◌, ne_eqb, lt-ltb, le-ltb}
use Rattle.std.proofs.Math.Bool.{true, false}
use native.Mathlib.Omega.{arith}
use Rattle.octets.specs.Below.{lowest_from, concat_below}
use Rattle.terms.specs.Laws.{end_ref_high}
use Rattle.schema.specs.declared.Entry.{Entry}
use Rattle.schema.specs.declared.Schema.{Schema}
use Rattle.schema.specs.Decode.{entry_of, path_of}
use Rattle.schema.specs.Place.{InSet}
use Rattle.schema.specs.Guarantee.{IsPathOf}
use Rattle.schema.proofs.GuaranteeLaws.{lies}
use Rattle.records.specs.Records.{is_live, key_on}
use Rattle.records.specs.Areas.{area_key_on, area_of}
use Rattle.records.proofs.KindLaws.{is_variable}
use Rattle.records.proofs.RecordLaws.{whole-inside}
use Rattle.scan.specs.Scan.{next_live}
use Rattle.chains.specs.Members.{all_in}
use Rattle.sound.specs.Sound.{records_with}
use Rattle.sound.proofs.ListLaws.{records_with_in, in_records_with, nodup-records_with}
use Rattle.calls.specs.Call.{Outcome}
use Rattle.calls.specs.Reply.{or_none}
use Rattle.calls.specs.Outcome.{outcome}
use Rattle.kept_state.specs.Rows.{World, Mine, PathRows}
use Rattle.point_steps.specs.RowFacts.{row-nodup}
use Rattle.condition3.specs.Readings.{Fixed, schema_in, Lent, reader_of, Reads, Place, set_no, entry_named, path_no, IsPlace, rdnxt, of_key, SameOnce}
use Rattle.condition3.proofs.PlaceLaws.{place-path}
use Rattle.condition3.specs.Shown.{shown, Ready}
use Rattle.condition3.proofs.Outcomes.{Gives}
use Rattle.condition3.proofs.AreaKeys.{area-key_of}
use Rattle.condition3.proofs.PointLaws.{same_once}
use Rattle.condition3.proofs.SweepCall.{rdnxt_asks, sweep-gives}

-- the live records of a set, in ascending order
abbrev pub live_records : List ℕ → Entry → List ℕ
live_records b e = records_with e (is_live b e)

-- ---- the records that pass a test, from below

-- of the n numbers from k on those that f holds of
unfoldable from : (ℕ → Bool) → ℕ → ℕ → List ℕ
from f zero k = []
from f (suc n) k = cond (f k) (k ∷ from f n (k + 1)) (from f n (k + 1))

abbrev last : (ℕ → Bool) → ℕ → List ℕ
last f k = cond (f k) (k ∷ []) []

-- one more number, at the end
from_snoc : (f : ℕ → Bool) (n k : ℕ) → from f (suc n) k ≡ from f n k ++ last f (k + n)
unfolding from
from_snoc f zero k = let z : k + 0 ≡ k = omega arith in rw z refl
from_snoc f (suc n) k =
    let z : k + suc n ≡ k + 1 + n = omega arith in
    rw (from_snoc f n (k + 1), z) (by (f k))
  where
    by : (t : Bool) → cond t (k ∷ (from f n (k + 1) ++ last f (k + 1 + n))) (from f n (k + 1) ++ last f (k + 1 + n)) ≡ cond t (k ∷ from f n (k + 1)) (from f n (k + 1)) ++ last f (k + 1 + n)
    by true = refl
    by false = refl

from_first : (f : ℕ → Bool) (n : ℕ) → concat_below (λ k. last f (k + 1)) n ≡ from f n 1
unfolding concat_below from
from_first f zero = refl
from_first f (suc n) = let z : n + 1 ≡ 1 + n = omega arith in rw (from_first f n, z) (sym (from_snoc f n 1))

-- ---- a sweep

module _ (b : List ℕ) (e : Entry) (ask : ℕ → Outcome) (many : e.records ≤ 65535) (gives : (r : ℕ) → r ≤ e.records → Gives b e (ask r) (or_none e (next_live b e r))) where
  -- an answer past the last record is END.; one within is the record
  ends : (r : ℕ) → r ≤ e.records → e.records < next_live b e r → Reads ask r []
  ends r l h = let g = gives r l in (g.status, g.reference ∙ (rw (lt-ltb _ _ h) refl))

  goes_on : (r k : ℕ) (rs : List ℕ) → r < k → k ≤ e.records → next_live b e r ≡ k → Reads ask k (shown b e rs) → Reads ask r (shown b e (k ∷ rs))
  goes_on r k rs l m q more =
      let g = gives r (omega arith) in
      let given : or_none e (next_live b e r) ≡ k = rw (q, le-ltb e.records k m) refl in
      let some : k ≢ 0 = λ z. omega arith in
      (g.status, g.reference ∙ (rw (given, ne_eqb k 0 some) refl), rw given at (g.area (rw given some)), λ z. omega (arith, end_ref_high), more)

  -- behind r the live records from k on are left, and n numbers to try
  reads-from : (n k r : ℕ) → k + n ≡ e.records + 1 → r < k → next_live b e r ≡ lowest_from (is_live b e) n k
      → Reads ask r (shown b e (from (is_live b e) n k))
  unfolding from lowest_from
  reads-from zero k r s l q = ends r (omega arith) (omega arith)
  reads-from (suc n) k r s l q =
      let left : e.records - k ≡ n = omega arith in
      by (is_live b e k) refl (reads-from n (k + 1) k (omega arith) (omega arith) (rw left refl)) (reads-from n (k + 1) r (omega arith) (omega arith))
    where
      by : (t : Bool) → is_live b e k ≡ t → Reads ask k (shown b e (from (is_live b e) n (k + 1)))
          → (next_live b e r ≡ lowest_from (is_live b e) n (k + 1) → Reads ask r (shown b e (from (is_live b e) n (k + 1))))
          → Reads ask r (shown b e (cond t (k ∷ from (is_live b e) n (k + 1)) (from (is_live b e) n (k + 1))))
      by true h more on = goes_on r k (from (is_live b e) n (k + 1)) l (omega arith) (q ∙ (rw h refl)) more
      by false h more on = on (q ∙ (rw h refl))

  swept : Reads ask 0 (shown b e (live_records b e))
  swept =
      let all : e.records - 0 ≡ e.records = omega arith in
      rw (from_first (is_live b e) e.records) (reads-from e.records 1 0 (omega arith) (omega arith) (rw all refl))

-- ---- the data base that stands for rows

-- the live records with a key on a path are the row of that key
module _ (t : Schema) (b : List ℕ) (i j : ℕ) (rows : List ℕ → List ℕ) (key : List ℕ) (world : World t) (sized : length b ≡ 512 * t.blocks) (is : IsPathOf t i j)
    (path : PathRows t b i j rows) where
  area-key : (r : ℕ) → InSet (entry_of t i) r → area_key_on (entry_of t i) (area_of b (entry_of t i) r) j ≡ key_on b (entry_of t i) r (path_of (entry_of t i) j)
  area-key r l =
      area-key_of b (entry_of t i) r j (world.fields i is.1) (is_variable t world.ok i is.0 is.1) (whole-inside r (lies i world.ok is.1 sized) l) is.2

  row-points : SameOnce (of_key (entry_of t i) j key (shown b (entry_of t i) (live_records b (entry_of t i)))) (shown b (entry_of t i) (rows key))
  row-points =
      let e = entry_of t i in
      same_once b e j key (live_records b e) (rows key) (nodup-records_with e (is_live b e)) (row-nodup t b i j rows key path)
      (λ r m k. let l = records_with_in e (is_live b e) r m in rw (sym (area-key r l.0) ∙ k) at (path.full r l))
      (λ r m.
      let d = all_in (Mine t b i j key) r (rows key) (path.mine key) m in
      (in_records_with e (is_live b e) r d.0.0 d.0.1, area-key r d.0.0 ∙ d.1))

module _ (f : Fixed) (d : Lent) (rows : ℕ → ℕ → List ℕ → List ℕ) (g : Ready f.schema d.base rows) (w : Place) (p : IsPlace (schema_in f) w) (key : List ℕ) where
  abbrev t : Schema
  t = schema_in f

  abbrev b : List ℕ
  b = d.base

  -- RDNXT from 0 on gives every live record of the set in ascending order, then END.
  pub sweep-reads : Reads (rdnxt (reader_of outcome f d) w) 0 (shown b (entry_named t w) (live_records b (entry_named t w)))
  sweep-reads =
      swept b (entry_named t w) (rdnxt (reader_of outcome f d) w) (g.world.ok.set (set_no t w) p.set).many
      (λ r l. sweep-gives _ rdnxt_asks g.rules g.stands.sized p.set p.point-area l)

  -- and those of the key are the points of the row, each once
  pub sweep-same : SameOnce (of_key (entry_named t w) (path_no t w) key (shown b (entry_named t w) (live_records b (entry_named t w))))
      (shown b (entry_named t w) (rows (set_no t w) (path_no t w) key))
  sweep-same =
      let is = place-path t w g.world.ok p in
      row-points t b (set_no t w) (path_no t w) (rows (set_no t w) (path_no t w)) key g.world g.stands.sized is
      (g.stands.paths (set_no t w) (path_no t w) is)
