-- `point_plans::search::Paths::all_owners` meets its contract. The invariant: every path passed has its master, and where it lies is kept.
use mathlib.Core.Path.{◌≡◌}
use lib.ListN.{length, take, drop}
use Rattle.octets.specs.Below.{upto}
use Rattle.terms.specs.declared.Status.TheVariants.{Done}
use Rattle.records.specs.InBase.{masters_kept}
use Rattle.point_plans.specs.Rest.{other_masters}
use Rattle.point_plans.specs.Paths.{absent_status, owner_on, key_at}
use Rattle.point_plans.proofs.held.Paths.all_owners.Given as goal

abbrev pub invariant-loop-k : goal.invariant-loop-k
invariant-loop-k l =
    (length l.parts ≡ 4)
    × (other_masters l.self.base.now (masters_kept l.self.masters.now) l.named.on (absent_status l.absent) (key_at l.src l.self.entry.now l.at) l.k ≡ Done)
    × (take l.k l.parts ≡ upto (owner_on l.self.base.now (masters_kept l.self.masters.now) (key_at l.src l.self.entry.now l.at)) l.k)
    × (drop l.k l.parts ≡ drop l.k l.initial.parts)
