-- `areas::put_master` meets its contract: what is stored into the record's part is stored into the data base. Assumes nothing.
use mathlib.Core.Path.{◌≡◌}
use native.Mathlib.Omega.{arith}
use native.Mathlib.Nat.{add-sub_cancel_left}
use lib.ListN.{length}
use borrow.Author.Tests.{eq-eqb}
use Prim.Native.Nat.{◌+◌}
use Rattle.octets.specs.SpliceLaws.{splice-part}
use Rattle.schema.specs.Place.{place_of}
use Rattle.schema.proofs.PlaceLaws.{place_inside}
use Rattle.records.specs.Areas.{new_master}
use Rattle.records.proofs.NewLaws.{length-new_master}
use Rattle.areas.proofs.put_master.Goals as goal

pub overflow_add-end : goal.overflow_add-end
overflow_add-end c = omega (arith, place_inside c.args.r.0 c.requires.lies_in c.requires.in_set, c.place_of-at.ensures)

pub slice_bounds-new_master-end : goal.slice_bounds-new_master-end
slice_bounds-new_master-end c = omega (arith, place_inside c.args.r.0 c.requires.lies_in c.requires.in_set, c.place_of-at.ensures)

pub returns : goal.returns
returns c =
    let a = c.args in
    let e = a.area.now.entry.now in
    let ys = new_master e a.root a.area.now.bytes.now in
    let l : length ys ≡ e.body + e.room = length-new_master e a.root a.area.now.bytes.now (eq-eqb _ _ c.requires.kind_value) (c.args.area.now.fields.key (eq-eqb _ _ c.requires.kind_value)) c.args.area.now.sized in
    let z : place_of e a.r.0 + 0 ≡ place_of e a.r.0 = omega arith in
    rw (add-sub_cancel_left c.place_of-at.result e.size, c.new_master.ensures, add-sub_cancel_left c.place_of-at.result e.size, c.place_of-at.ensures)
    (rw z at (splice-part (place_of e a.r.0) e.size a.base.now 0 ys (omega (arith, l, c.requires.lies_in.sized))))
