-- `commit::move_into` meets its contract: a record stored over itself changes nothing. Assumes nothing.
use mathlib.Core.Path.{sym}
use Rattle.octets.specs.SpliceLaws.{splice-run_id}
use Rattle.schema.specs.Place.{place_of}
use Rattle.schema.proofs.PlaceLaws.{place_inside}
use Rattle.commit.proofs.move_into.Goals as goal

pub returns-then-from-to : goal.returns-then-from-to
returns-then-from-to c =
    let a = c.args in
    rw c.if-from-to.true (sym (splice-run_id a.base.now (place_of a.e a.to.0) a.e.size (place_inside a.to.0 c.requires.lies_in c.requires.in_set_2)))
