use borrow.Author.Rules.{rules}
use Rattle.std.proofs.Common.{◌≡◌, true}
use Rattle.masters.specs.Find.{held_by_own}
use Rattle.master_plans.specs.TestLaws.{stands_as}
use Rattle.master_plans.specs.AddLaws.{synonym_stands, beside-own}
use Rattle.master_plans.proofs.add_beside.Goals as goal

pub returns-then-is_at_home-clause-stands_for : goal.returns-then-is_at_home-clause-stands_for
returns-then-is_at_home-clause-stands_for c =
    let a = c.args in
    let q = c.requires in
    let s = a.masters.now in
    let own : held_by_own s.base.now s.entry.now a.h.0 ≡ true = search rules in
    stands_as (synonym_stands s.base.now s.entry.now s.lies_in s.master_ok a.f.0 a.last.0 q.in_set_2 (q.in_set_3 own) c.synonym_plan.ensures)
    (beside-own s.base.now s.entry.now a.h.0 a.f.0 a.last.0 own)
