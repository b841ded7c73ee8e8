use Prim.Native.Nat.{◌+◌, ◌-◌}
use native.Mathlib.Omega.{arith}
use Rattle.octets.specs.BelowLaws.{lowest_from_ge}
use Rattle.records.specs.Records.{is_live}
use Rattle.records.proofs.InBaseLaws.{set_in_lem}
use Rattle.sweep.specs.SweptLaws.{given-number, given-within, sweep-ends}
use Rattle.sweep.proofs.rdnxt.Goals as goal

pub of-requires-clause-front : goal.of-requires-clause-front
of-requires-clause-front c = omega (arith, (set_in_lem c.requires.set.set).head)

pub give-requires-clause-in_set : goal.give-requires-clause-in_set
give-requires-clause-in_set c =
    let a = c.args in
    given-within a.e _ (omega (arith, lowest_from_ge (is_live a.base.now a.e) (a.e.records - a.reference.0) (a.reference.0 + 1))) (rw (c.of.ensures.0, c.of.ensures.1) at c.next_live.ensures)

pub returns : goal.returns
returns c = sweep-ends c.args.e _ _ _ _ (given-number c.args.e _ (rw (c.of.ensures.0, c.of.ensures.1) at c.next_live.ensures)) c.give.ensures
