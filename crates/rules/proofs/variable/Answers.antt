-- `rules::variable` meets its contract: its three tests, joined.
use mathlib.Core.Path.{refl}
use Rattle.schema.specs.Rules.{variable_rule}
use Rattle.rules.proofs.variable.Goals as goal

pub returns : goal.returns
unfolding variable_rule
returns c = refl
