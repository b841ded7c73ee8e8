-- `rules::path` meets its contract: its four tests, joined.
use Rattle.schema.specs.Rules.{path_rule}
use Rattle.rules.proofs.path.Goals as goal

pub returns : goal.returns
unfolding path_rule
returns c = cc
