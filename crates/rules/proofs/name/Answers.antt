-- `rules::name` meets its contract: the four characters, joined.
use Rattle.schema.specs.Rules.{name_rule}
use Rattle.rules.proofs.name.Goals as goal

pub returns : goal.returns
unfolding name_rule
returns c = cc
