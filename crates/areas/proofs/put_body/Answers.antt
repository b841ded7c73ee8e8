-- `areas::put_body` meets its contract: what is stored into the record's part is stored into the data base. Assumes nothing.
use native.Mathlib.Omega.{arith}
use native.Mathlib.Nat.{add-sub_cancel_left}
use Rattle.octets.specs.SpliceLaws.{splice-part}
use Rattle.schema.specs.Place.{place_of}
use Rattle.schema.proofs.PlaceLaws.{place_inside}
use Rattle.areas.proofs.put_body.Goals as goal

pub overflow_add-end : goal.overflow_add-end
overflow_add-end c = omega (arith, place_inside c.args.r.0 c.requires.lies_in c.requires.in_set, c.place_of-at.ensures)

pub slice_bounds-copy_in-end : goal.slice_bounds-copy_in-end
slice_bounds-copy_in-end c = omega (arith, place_inside c.args.r.0 c.requires.lies_in c.requires.in_set, c.place_of-at.ensures)

pub returns : goal.returns
returns c =
    let e = c.args.area.now.entry.now in
    rw (add-sub_cancel_left c.place_of-at.result e.size, c.copy_in.ensures, add-sub_cancel_left c.place_of-at.result e.size, c.place_of-at.ensures, ← c.body.ensures.value)
    (splice-part (place_of e c.args.r.0) e.size c.args.base.now e.body c.body.result.now (omega (arith, c.body.ensures.len, c.requires.lies_in.sized)))
