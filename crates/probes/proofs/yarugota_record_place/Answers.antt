use Rattle.probes.specs.ProbeLaws.{place-some, place_none}
use Rattle.schema.proofs.GuaranteeLaws.{decoded_ok}
use mathlib.Core.Path.{sym, ◌∙◌}
use Rattle.probes.proofs.yarugota_record_place.Goals as goal

pub place_under-requires : goal.place_under-requires
place_under-requires c = decoded_ok _ (sym c.decode.ensures ∙ c.in-Some.is)

pub returns-in-Some : goal.returns-in-Some
returns-in-Some c = c.place_under.ensures ∙ place-some _ (sym c.decode.ensures ∙ c.in-Some.is) _ _

pub returns-in-None : goal.returns-in-None
returns-in-None c = place_none _ (sym c.decode.ensures ∙ c.in-None.is) _ _
