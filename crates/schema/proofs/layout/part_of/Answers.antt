-- `schema::layout::part_of` meets its contract: the record lies within the widest data base.
use Rattle.std.proofs.Common.{arith}
use Rattle.schema.proofs.PlaceLaws.{place_inside}
use Rattle.schema.proofs.layout.part_of.Goals as goal

pub overflow_cast-result : goal.overflow_cast-result
overflow_cast-result c = omega (arith, place_inside c.args.r.0 c.requires.lies_in c.requires.in_set, c.place_of-at.ensures)
