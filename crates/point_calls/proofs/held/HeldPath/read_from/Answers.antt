use mathlib.Core.Path.{sym, ◌∙◌}
use mathlib.Core.Bool.{not}
use Rattle.terms.specs.Terms.{key_of}
use Rattle.masters.proofs.FindLaws.{find_at}
use Rattle.point_calls.specs.OnPath.{Seen}
use Rattle.point_calls.specs.CallLaws.{read-refused, read-ends, read_low, not-linked, pointed_within}
use Rattle.point_calls.proofs.held.HeldPath.read_from.Goals as goal
use Rattle.point_calls.proofs.held.HeldPath.read_from.Goals.{After-pointer_on-n}

pub pointer_on-n-requires-clause-in_set : goal.pointer_on-n-requires-clause-in_set
pointer_on-n-requires-clause-in_set c = (find_at _ _ _ _ c.requires.seen.master).in_set

pub pointer_on-n-requires-clause-in_set_2 : goal.pointer_on-n-requires-clause-in_set_2
pointer_on-n-requires-clause-in_set_2 c = not-linked c.args.self.now.entry.now _ _ c.is_link-linked.ensures c.requires.fact

pub read_damaged-requires-clause-in_set : goal.read_damaged-requires-clause-in_set
read_damaged-requires-clause-in_set c = (find_at _ _ _ _ c.requires.seen.master).in_set

saw : (c : After-pointer_on-n) → Seen c.args.self.now.base.now c.args.self.now.entry.now c.args.self.now.path c.args.self.now.masters.now c.args.reference.0 (key_of c.args.key) (not c.is_link-linked.result) c.args.m
saw c = rw c.is_link-linked.ensures c.requires.seen

pub returns-then-read_damaged : goal.returns-then-read_damaged
returns-then-read_damaged c =
    read-refused c.args.back _ _ _ _ _ _ _ _ _ _ c.is_link-linked.ensures (saw (goal.at.returns-then-read_damaged c).After-pointer_on-n) c.pointer_on-n.ensures
    (sym c.read_damaged.ensures ∙ c.if-read_damaged.true)

pub give-requires-clause-in_set : goal.give-requires-clause-in_set
give-requires-clause-in_set c =
    pointed_within c.args.self.now.entry.now _ c.pointed.ensures.number c.pointed.ensures.record (read_low _ _ _ _ _ _ _ _ (sym c.read_damaged.ensures ∙ c.if-read_damaged.false))

pub returns : goal.returns
returns c =
    read-ends c.args.back _ _ _ _ _ _ _ _ _ _ c.is_link-linked.ensures (saw (goal.at.returns c).After-pointer_on-n) c.pointer_on-n.ensures
    (sym c.read_damaged.ensures ∙ c.if-read_damaged.false) (rw c.pointed.ensures.number at c.give.ensures)
