-- `schema::layout::stretch_from` meets its contract: the record lies within the widest data base, and a remainder is smaller than what it is taken by. Assumes nothing.
use Prim.Native.Nat.{◌-◌}
use native.Mathlib.Omega.{arith}
use native.Mathlib.Nat.{mod-lt}
use Rattle.schema.proofs.PlaceLaws.{place_inside}
use Rattle.schema.proofs.layout.stretch_from.Goals as goal

pub overflow_cast-result : goal.overflow_cast-result
overflow_cast-result c = omega (arith, place_inside c.args.r.0 c.requires.lies_in c.requires.in_set, c.place_of-at.ensures)

pub overflow_sub-per : goal.overflow_sub-per
overflow_sub-per c = omega (arith, mod-lt (c.args.r.0 - 1) {m = c.args.e.per} c.requires.lies_in.per)

pub returns : goal.returns
returns c = cc
