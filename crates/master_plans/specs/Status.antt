-- Document 01, "Status numbers": what is left of the order of the tests when the master was looked for, "14; 15; 16". ADD-M has no 14 and
-- DEL-M no 15. A block to be stored into that has a false check is left to the commit.
use Rattle.std.specs.Prelude.{ℕ, cond, List}
use Rattle.terms.specs.declared.Status.{Status}
use Rattle.terms.specs.declared.Status.TheVariants.{Done, Imdl, Full, Damg}
use Rattle.schema.specs.declared.Entry.{Entry}
use Rattle.schema.specs.declared.Schema.{Schema}
use Rattle.masters.specs.Root.{add_master_full, add_master_damaged, del_master_damaged}
use Rattle.points.specs.Chains.{has_points}

-- ADD-M of a key whose home in set e is h
unfoldable pub add_master_status : List ℕ → Entry → ℕ → Status
add_master_status b e h = cond (add_master_full b e h) Full (cond (add_master_damaged b e h) Damg Done)

-- DEL-M of the record r of set e, number n of the schema; h is the home of its key
unfoldable pub del_master_status : Schema → List ℕ → ℕ → Entry → ℕ → ℕ → Status
del_master_status t b n e h r = cond (has_points t b n r) Imdl (cond (del_master_damaged b e h r) Damg Done)
