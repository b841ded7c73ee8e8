-- `rules::entry` meets its contract: a used entry keeps the rules for a set, and any other is zero.
use borrow.Author.Tests.{lt-ltb, le-ltb}
use Rattle.schema.specs.Rules.{entry_rule}
use Rattle.rules.proofs.entry.Goals as goal

pub returns-then-i-sets : goal.returns-then-i-sets
unfolding entry_rule
returns-then-i-sets c = rw (lt-ltb _ _ (rw c.sets.ensures at c.if-i-sets.true)) c.set.ensures

pub returns : goal.returns
unfolding entry_rule
returns c = rw (le-ltb _ _ (rw c.sets.ensures at c.if-i-sets.false)) c.zeros.ensures
