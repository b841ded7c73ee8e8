-- `rules::head` meets its contract: its four tests, joined.
use Rattle.schema.specs.Rules.{head_rule}
use Rattle.rules.proofs.head.Goals as goal

pub returns : goal.returns
unfolding head_rule
returns c = cc
