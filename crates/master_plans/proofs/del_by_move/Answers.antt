use borrow.Author.Rules.{rules}
use Rattle.std.proofs.Common.{◌≡◌, false}
use Rattle.records.specs.Records.{root_next}
use Rattle.masters.specs.Root.{bad_root}
use Rattle.master_plans.specs.TestLaws.{not_bad}
use Rattle.master_plans.specs.DelLaws.{move_stands}
use Rattle.master_plans.proofs.del_by_move.Goals as goal

pub returns-clause-stands_for : goal.returns-clause-stands_for
returns-clause-stands_for c =
    let a = c.args in
    let q = c.requires in
    let s = a.masters.now in
    let sound : bad_root s.base.now s.entry.now (root_next s.base.now s.entry.now a.s.0) ≡ false = search rules in
    move_stands s.base.now s.entry.now s.lies_in s.master_ok a.h.0 a.s.0 q.in_set q.in_set_2 (not_bad s.base.now s.entry.now _ sound) (search rules)
