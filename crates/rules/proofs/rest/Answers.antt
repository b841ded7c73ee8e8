-- `rules::rest` meets its contract: the run of zeros.
use Rattle.schema.specs.Rules.{rest_rule}
use Rattle.rules.proofs.rest.Goals as goal

pub returns : goal.returns
unfolding rest_rule
returns c = cc
