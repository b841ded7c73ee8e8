use Rattle.probes.specs.ProbeLaws.{set_low, set_high, set_at}
use mathlib.Core.Path.{◌∙◌}
use Rattle.probes.proofs.place_in_set.Goals as goal

pub returns-then-number-lt1 : goal.returns-then-number-lt1
returns-then-number-lt1 c = set_low _ _ c.if-number-lt1.true

pub returns-then-e-number : goal.returns-then-e-number
returns-then-e-number c = set_high _ _ c.if-e-number.true

pub returns : goal.returns
returns c = c.place_of.ensures ∙ set_at _ _ c.if-number-lt1.false c.if-e-number.false
