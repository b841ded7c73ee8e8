use borrow.Author.Rules.{rules}
use Rattle.std.proofs.Common.{◌≡◌, true, false, ◌∙◌}
use Rattle.records.specs.Records.{root_next}
use Rattle.masters.specs.Root.{synonym_moves}
use Rattle.master_plans.specs.Shape.{neighbours_damaged}
use Rattle.master_plans.specs.TestLaws.{stands_as, stands_as-ok}
use Rattle.master_plans.specs.DelLaws.{del_damaged_lem, del_near, move_damaged, unlink-sound, move_stores, unlink-stores, unlink-stands}
use Rattle.master_plans.proofs.del_unpointed.Goals as goal

pub returns-then-ne-prior-clause-status_value : goal.returns-then-ne-prior-clause-status_value
returns-then-ne-prior-clause-status_value c =
    let a = c.args in
    let s = a.masters.now in
    let d : neighbours_damaged s.base.now s.entry.now a.h.0 a.r.0 ≡ true = search rules in
    rw (del_damaged_lem s.base.now s.entry.now a.h.0 a.r.0 d)

pub returns-then-eq-next-clause-status_value : goal.returns-then-eq-next-clause-status_value
returns-then-eq-next-clause-status_value c =
    let a = c.args in
    let s = a.masters.now in
    let d : neighbours_damaged s.base.now s.entry.now a.h.0 a.r.0 ≡ false = search rules in
    let m : synonym_moves s.base.now s.entry.now a.h.0 a.r.0 ≡ true = search rules in
    let n : c.root_next-next.result ≡ root_next s.base.now s.entry.now a.r.0 = search rules in
    (rw n at c.del_by_move.ensures.status_value) ∙ (rw (move_damaged s.base.now s.entry.now a.h.0 a.r.0 d m))

pub returns-then-eq-next-clause-stands_for : goal.returns-then-eq-next-clause-stands_for
returns-then-eq-next-clause-stands_for c =
    let a = c.args in
    let s = a.masters.now in
    let m : synonym_moves s.base.now s.entry.now a.h.0 a.r.0 ≡ true = search rules in
    let n : c.root_next-next.result ≡ root_next s.base.now s.entry.now a.r.0 = search rules in
    stands_as-ok s.base.now s.entry.now c.del_by_move.result (rw n at c.del_by_move.ensures.stands_for) (move_stores s.base.now s.entry.now a.h.0 a.r.0 m)

pub returns-clause-status_value : goal.returns-clause-status_value
returns-clause-status_value c =
    let a = c.args in
    let s = a.masters.now in
    let d : neighbours_damaged s.base.now s.entry.now a.h.0 a.r.0 ≡ false = search rules in
    let m : synonym_moves s.base.now s.entry.now a.h.0 a.r.0 ≡ false = search rules in
    rw (unlink-sound s.base.now s.entry.now a.h.0 a.r.0 d m)

pub returns-clause-stands_for : goal.returns-clause-stands_for
returns-clause-stands_for c =
    let a = c.args in
    let s = a.masters.now in
    let d : neighbours_damaged s.base.now s.entry.now a.h.0 a.r.0 ≡ false = search rules in
    let m : synonym_moves s.base.now s.entry.now a.h.0 a.r.0 ≡ false = search rules in
    let near = del_near s.base.now s.entry.now a.h.0 a.r.0 d in
    stands_as (unlink-stands s.base.now s.entry.now s.lies_in s.master_ok a.r.0 c.requires.in_set_2 near.0 near.1 (search rules))
    (unlink-stores s.base.now s.entry.now a.h.0 a.r.0 m)
