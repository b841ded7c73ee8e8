-- Every store into a record of a set fits: it lies in front of the check of the record's block, and that block is there.
use Rattle.std.specs.Prelude.{ℕ, ◌+◌, ◌/◌, ◌≤◌, ◌≡◌, List, length}
use Rattle.std.proofs.Common.{arith}
use Rattle.schema.specs.declared.Entry.{Entry}
use Rattle.blocks.specs.Blocks.{block_with}
use Rattle.schema.specs.Place.{InSet, LiesIn, block_of, place_of, part_of}
use Rattle.schema.proofs.PlaceLaws.{place_in_block, block_inside, block_of_place, block_of_record}
use Rattle.plans.specs.Plan.{store_run, store_record}
use Rattle.plans.specs.declared.Word.{Word}
use Rattle.plans.specs.PlanOk.{Fits, WordOk}
use Rattle.plans.specs.Stores.{word_in, word_store}

pub run_fits : {e : Entry} {n : ℕ} (r o : ℕ) (ys : List ℕ) → LiesIn e n → InSet e r → o + length ys ≤ e.size → Fits n (store_run e r o ys)
run_fits {e} r o ys ok in_set h =
    let b : (place_of e r + o) / 512 ≡ block_of e r = block_of_place r o ok (omega arith) in
    record { inside = rw b (omega (arith, place_in_block r ok)); whole = rw b (block_inside r ok in_set) }

pub record_fits : {e : Entry} {n : ℕ} (r : ℕ) (ys : List ℕ) → LiesIn e n → InSet e r → length ys ≤ e.size → Fits n (store_record e r ys)
record_fits {e} r ys ok in_set h =
    let b : place_of e r / 512 ≡ block_of e r = block_of_record r ok in
    record { inside = rw b (omega (arith, place_in_block r ok)); whole = rw b (block_inside r ok in_set) }

-- a word of a record lies in it
pub word_ok : {e : Entry} {n : ℕ} (r o v : ℕ) → LiesIn e n → o + 4 ≤ e.size → WordOk (word_in (part_of e r) o v)
word_ok {e} r o v ok h =
    let b : place_of e r / 512 ≡ block_of e r = block_of_record r ok in
    record { field = h; inside = rw b (place_in_block r ok).1 }

-- its block is its record's
pub word_block : (w : Word) → WordOk w → block_with (w.at + w.offset) ≡ block_with w.at
word_block w h = omega (arith, h.field, h.inside)

-- and its record lies in the base, if the store does
pub word_inside : {n : ℕ} (w : Word) → WordOk w → Fits n (word_store w) → w.at + w.size ≤ n
word_inside {n} w h f = omega (arith, h.inside, rw (word_block w h) at f.whole)
