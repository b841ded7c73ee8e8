-- `signon::set_in_place` meets its contract: a schema's set has a state and three zeros in front of each record, and one that is no set of
-- masters has its paths.
use Rattle.std.proofs.Common.{arith}
use Rattle.records.proofs.InBaseLaws.{set_in_lem, points-by-kind}
use Rattle.signon.proofs.set_in_place.Goals as goal

pub of-requires-clause-front : goal.of-requires-clause-front
of-requires-clause-front c = omega (arith, (set_in_lem c.requires).head)

pub set_clean-requires : goal.set_clean-requires
set_clean-requires c = rw c.of.ensures.1 (set_in_lem c.requires).head

pub paths_in_place-requires : goal.paths_in_place-requires
paths_in_place-requires c = points-by-kind c.requires c.if-e-eq1.false
