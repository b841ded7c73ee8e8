-- `point_plans::search::owner_on` meets its contract: on the named path the master that was found before is the one that would be found.
use Rattle.masters.proofs.FindLaws.{find_at}
use Rattle.schema.proofs.PlaceLaws.{lies_most}
use Rattle.point_plans.proofs.search.owner_on.Goals as goal

pub part_of-requires : goal.part_of-requires
part_of-requires c =
    record { in_set = (find_at _ _ _ _ (c.requires.key_value c.if-k-named.true)).in_set; lies_in = lies_most c.args.masters.now.lies_in }

pub returns-then-k-named : goal.returns-then-k-named
returns-then-k-named c =
    rw (c.requires.key_value c.if-k-named.true, c.part_of.ensures)
