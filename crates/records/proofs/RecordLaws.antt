-- What is read of a record's part is what stands in the data base, and what is stored into the part is stored into the data base.
use Rattle.std.specs.Prelude.{ℕ, ◌+◌, ◌≤◌, ◌≡◌, refl, List}
use Rattle.std.proofs.Common.{arith}
use Rattle.octets.specs.Octets.{run, byte_at}
use Rattle.schema.specs.declared.Entry.{Entry}
use Rattle.schema.specs.Place.{InSet, LiesIn, place_of, record_of}
use Rattle.schema.proofs.PlaceLaws.{place_inside}
use Rattle.octets.specs.SpliceLaws.{get_d_run}
use Rattle.records.specs.Records.{state_of}

-- the state is the first byte of the record
pub state-part : (b : List ℕ) (e : Entry) (r : ℕ) → 1 ≤ e.size → byte_at (record_of b e r) 0 ≡ state_of b e r
state-part b e r h =
    let z : place_of e r + 0 ≡ place_of e r = omega arith in
    rw z at (get_d_run b (place_of e r) e.size 0 h)

-- the fields and the D bytes of a record lie in the data base
pub whole-inside : {e : Entry} {n : ℕ} (r : ℕ) → LiesIn e n → InSet e r → place_of e r + (e.body + e.room) ≤ n
whole-inside r ok i = omega (arith, place_inside r ok i, ok.sized)

-- the record's part, by its fields and D bytes
pub part-is : {n : ℕ} (b : List ℕ) (e : Entry) (r : ℕ) → LiesIn e n → record_of b e r ≡ run b (place_of e r) (e.body + e.room)
part-is b e r ok = rw ok.sized refl
