-- `rules::set` meets its contract: its five rules, joined.
use Rattle.schema.specs.Rules.{set_rule}
use Rattle.rules.proofs.set.Goals as goal

pub returns : goal.returns
unfolding set_rule
returns c = cc
