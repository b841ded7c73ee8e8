use borrow.Author.Rules.{rules}
use Rattle.std.proofs.Common.{◌≡◌, false}
use Rattle.master_plans.specs.Shape.{stranger_damaged}
use Rattle.master_plans.specs.AddLaws.{stranger_near, stranger-stands}
use Rattle.master_plans.proofs.add_for_stranger.Goals as goal

pub returns-clause-stands_for : goal.returns-clause-stands_for
returns-clause-stands_for c =
    let a = c.args in
    let q = c.requires in
    let s = a.masters.now in
    let sound : stranger_damaged s.base.now s.entry.now a.h.0 ≡ false = search rules in
    let near = stranger_near s.base.now s.entry.now a.h.0 sound in
    stranger-stands s.base.now s.entry.now s.lies_in s.master_ok a.h.0 a.f.0 q.in_set q.in_set_2 q.fact near.0 near.1 (search rules)
