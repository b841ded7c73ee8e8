-- `rules::master` meets its contract: its three tests, joined.
use mathlib.Core.Path.{refl}
use Rattle.schema.specs.Rules.{master_rule}
use Rattle.rules.proofs.master.Goals as goal

pub returns : goal.returns
unfolding master_rule
returns c = refl
