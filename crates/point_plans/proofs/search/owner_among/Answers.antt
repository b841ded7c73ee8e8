-- `point_plans::search::owner_among` meets its contract, by what the search found.
use mathlib.Core.Path.{sym, ◌∙◌}
use Rattle.masters.proofs.FindLaws.{find_at}
use Rattle.schema.proofs.PlaceLaws.{lies_most}
use Rattle.point_plans.proofs.search.owner_among.Goals as goal

pub part_of-requires : goal.part_of-requires
part_of-requires c =
    record { in_set = (find_at _ _ _ _ (sym c.find.ensures.found_value ∙ c.in-At.is)).in_set; lies_in = lies_most c.args.masters.now.lies_in }

pub returns-in-At : goal.returns-in-At
returns-in-At c = rw (sym c.find.ensures.found_value ∙ c.in-At.is, c.part_of.ensures)

pub returns-in-Some : goal.returns-in-Some
returns-in-Some c = rw (sym c.find.ensures.found_value ∙ c.in-Missing.is, c.in-Some.is)

pub returns-in-None : goal.returns-in-None
returns-in-None c = rw (sym c.find.ensures.found_value ∙ c.in-Missing.is, c.in-None.is)

pub returns-in-Damaged : goal.returns-in-Damaged
returns-in-Damaged c = rw (sym c.find.ensures.found_value ∙ c.in-Damaged.is)
