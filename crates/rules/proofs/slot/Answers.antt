-- `rules::slot` meets its contract: a used slot keeps the rule for a path, and any other is zero.
use borrow.Author.Tests.{lt-ltb, le-ltb}
use Rattle.schema.specs.Rules.{slot_rule}
use Rattle.rules.proofs.slot.Goals as goal

pub returns-then-j-paths : goal.returns-then-j-paths
unfolding slot_rule
returns-then-j-paths c = rw (lt-ltb _ _ (rw c.paths.ensures at c.if-j-paths.true)) c.path.ensures

pub returns : goal.returns
unfolding slot_rule
returns c = rw (le-ltb _ _ (rw c.paths.ensures at c.if-j-paths.false)) c.zeros.ensures
