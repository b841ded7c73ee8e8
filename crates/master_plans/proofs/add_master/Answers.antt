use borrow.Author.Rules.{rules}
use Rattle.std.proofs.Common.{ap, sym, ◌∙◌}
use Rattle.std.proofs.lemmas.Result.{err_from_is_err_and}
use Rattle.terms.specs.declared.RecordNo.{RecordNo}
use Rattle.terms.specs.Status.{status_of}
use Rattle.schema.specs.Numbers.{no_record_up_to}
use Rattle.master_plans.specs.TestLaws.{stands_as, stands_as-ok}
use Rattle.master_plans.specs.AddLaws.{home-stands, add-home-status, add-home-stores, add-full, add-beside-status, add-beside-stores, free_in, free_apart, free_least}
use Rattle.master_plans.proofs.add_master.Goals as goal

pub returns-then-not-is_live-clause-status_value : goal.returns-then-not-is_live-clause-status_value
returns-then-not-is_live-clause-status_value c = let s = c.args.masters.now in add-home-status s.base.now s.entry.now c.args.h.0 (search rules)

pub returns-then-not-is_live-clause-stands_for : goal.returns-then-not-is_live-clause-stands_for
returns-then-not-is_live-clause-stands_for c =
    let s = c.args.masters.now in
    stands_as (home-stands s.base.now s.entry.now s.lies_in s.master_ok c.args.h.0 c.requires.in_set c.start.ensures)
    (add-home-stores s.base.now s.entry.now c.args.h.0 (search rules))

pub returns-in_err-free-clause-status_value : goal.returns-in_err-free-clause-status_value
returns-in_err-free-clause-status_value c =
    let s = c.args.masters.now in
    let w = c.in_err-free.ensures in
    let f = no_record_up_to s.entry.now.records _ (sym w.ok_part ∙ (rw (c.of.ensures.0, c.of.ensures.1) at c.lowest_free.ensures)) in
    let p = err_from_is_err_and c.from_residual.result c.from_residual.ensures.1 in
    rw (p.1, p.2) (ap (status_of {A = RecordNo}) (rw w.ok_part at w.value) ∙ add-full s.base.now s.entry.now c.args.h.0 (search rules) f)

pub add_beside-requires-clause-in_set_2 : goal.add_beside-requires-clause-in_set_2
add_beside-requires-clause-in_set_2 c =
    let s = c.args.masters.now in
    let f = free_least s.base.now s.entry.now (sym c.in_ok-free.ensures.ok_part ∙ (rw (c.of.ensures.0, c.of.ensures.1) at c.lowest_free.ensures)) in
    rw f.0 (free_in s.base.now s.entry.now c.args.h.0 (search rules) f.1)

pub add_beside-requires-clause-fact : goal.add_beside-requires-clause-fact
add_beside-requires-clause-fact c =
    let s = c.args.masters.now in
    let f = free_least s.base.now s.entry.now (sym c.in_ok-free.ensures.ok_part ∙ (rw (c.of.ensures.0, c.of.ensures.1) at c.lowest_free.ensures)) in
    rw f.0 (free_apart s.base.now s.entry.now c.args.h.0 (search rules) f.1)

pub returns-clause-status_value : goal.returns-clause-status_value
returns-clause-status_value c =
    let s = c.args.masters.now in
    let f = free_least s.base.now s.entry.now (sym c.in_ok-free.ensures.ok_part ∙ (rw (c.of.ensures.0, c.of.ensures.1) at c.lowest_free.ensures)) in
    c.add_beside.ensures.status_value ∙ add-beside-status s.base.now s.entry.now c.args.h.0 (search rules) f.1

pub returns-clause-stands_for : goal.returns-clause-stands_for
returns-clause-stands_for c =
    let s = c.args.masters.now in
    let f = free_least s.base.now s.entry.now (sym c.in_ok-free.ensures.ok_part ∙ (rw (c.of.ensures.0, c.of.ensures.1) at c.lowest_free.ensures)) in
    stands_as-ok s.base.now s.entry.now c.add_beside.result (rw f.0 at c.add_beside.ensures.stands_for)
    (add-beside-stores s.base.now s.entry.now c.args.h.0 (search rules) f.1 c.args.last.0 (λ o. (c.requires.last_value o).0))
