use Rattle.probes.specs.ProbeLaws.{blocks-some, blocks-none}
use mathlib.Core.Path.{sym, ◌∙◌}
use Rattle.probes.proofs.yarugota_schema_blocks.Goals as goal

pub returns-in-Some : goal.returns-in-Some
returns-in-Some c = blocks-some _ (sym c.decode.ensures ∙ c.in-Some.is)

pub returns-in-None : goal.returns-in-None
returns-in-None c = blocks-none _ (sym c.decode.ensures ∙ c.in-None.is)
