-- `records::fields::wipe` meets its contract: zeros stored over the record's part are stored into the data base. Assumes nothing.
use Prim.Native.Nat.{ℕ, ◌+◌}
use mathlib.Core.Path.{◌≡◌}
use native.Mathlib.Omega.{arith}
use native.Mathlib.Nat.{add-sub_cancel_left}
use lib.ListN.{length-replicate}
use Rattle.octets.specs.Octets.{zeros}
use Rattle.octets.specs.SpliceLaws.{splice-part}
use Rattle.schema.specs.Place.{place_of}
use Rattle.schema.proofs.PlaceLaws.{place_inside}
use Rattle.records.proofs.fields.wipe.Goals as goal

pub overflow_add-end : goal.overflow_add-end
overflow_add-end c = omega (arith, place_inside c.args.r.0 c.requires.lies_in c.requires.in_set, c.place_of-at.ensures)

pub slice_bounds-zero-end : goal.slice_bounds-zero-end
slice_bounds-zero-end c = omega (arith, place_inside c.args.r.0 c.requires.lies_in c.requires.in_set, c.place_of-at.ensures)

pub returns : goal.returns
returns c =
    let a = c.args in
    let z : place_of a.e a.r.0 + 0 ≡ place_of a.e a.r.0 = omega arith in
    rw (add-sub_cancel_left c.place_of-at.result a.e.size, c.zero.ensures, add-sub_cancel_left c.place_of-at.result a.e.size, c.place_of-at.ensures)
    (rw z at (splice-part (place_of a.e a.r.0) a.e.size a.base.now 0 (zeros a.e.size) (omega (arith, length-replicate {A = ℕ} a.e.size 0))))
