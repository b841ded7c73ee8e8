-- `schema::layout::record_of` meets its contract: the record lies within the data base.
use Rattle.std.proofs.Common.{arith}
use Rattle.schema.proofs.PlaceLaws.{place_inside}
use Rattle.schema.proofs.layout.record_of.Goals as goal

pub overflow_add-end : goal.overflow_add-end
overflow_add-end c = omega (arith, place_inside c.args.r.0 c.requires.lies_in c.requires.in_set, c.place_of-at.ensures)

pub slice_bounds-result-end : goal.slice_bounds-result-end
slice_bounds-result-end c = omega (arith, place_inside c.args.r.0 c.requires.lies_in c.requires.in_set, c.place_of-at.ensures)
