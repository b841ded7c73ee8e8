-- `rules::count` meets its contract: R's two bounds.
use Rattle.schema.specs.Rules.{records_rule}
use Rattle.rules.proofs.count.Goals as goal

pub returns : goal.returns
unfolding records_rule
returns c = cc
