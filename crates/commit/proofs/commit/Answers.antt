-- `commit::commit` meets its contract: the blocks that the plan touches answer for its stores.
use Rattle.std.proofs.Common.{rules, ◌∙◌}
use Rattle.commit.specs.CommitLaws.{touched-within, touched-sealed, touched-committed, commit_refused, commit_done}
use Rattle.commit.proofs.commit.Goals as goal

pub all_sealed-requires : goal.all_sealed-requires
all_sealed-requires c =
    let a = c.args in
    touched-within a.base.now a.e a.area.now a.p c.requires.lies_in c.requires.plan_ok _ (c.as_slice.ensures ∙ c.touched-blocks.ensures.0)

pub seal_all-requires : goal.seal_all-requires
seal_all-requires c =
    let a = c.args in
    rw c.store.auto.base (touched-within a.base.now a.e a.area.now a.p c.requires.lies_in c.requires.plan_ok _ (c.as_slice-2.ensures ∙ c.touched-blocks.ensures.0))

pub returns-then-not-all_sealed : goal.returns-then-not-all_sealed
returns-then-not-all_sealed c =
    let a = c.args in
    let whether = c.all_sealed.ensures ∙ touched-sealed a.base.now a.e a.area.now a.p c.requires.lies_in c.requires.plan_ok _ (c.as_slice.ensures ∙ c.touched-blocks.ensures.0) c.from-kind.result in
    let p = commit_refused _ _ whether c.if-not-all_sealed.true in
    rw (← c.from-kind.ensures) record { value = p.0; base_after = p.1 }

pub returns : goal.returns
returns c =
    let a = c.args in
    let whether = c.all_sealed.ensures ∙ touched-sealed a.base.now a.e a.area.now a.p c.requires.lies_in c.requires.plan_ok _ (c.as_slice.ensures ∙ c.touched-blocks.ensures.0) c.from-kind.result in
    let after = touched-committed a.base.now a.e a.area.now a.p c.requires.lies_in c.requires.plan_ok _ (c.as_slice-2.ensures ∙ c.touched-blocks.ensures.0) c.from-kind.result c.store.new.base c.seal_all.new.base (λ i. search rules) c.store.ensures c.seal_all.ensures in
    let p = commit_done a.base.now whether c.if-not-all_sealed.false after in
    rw (← c.from-kind.ensures) record { value = p.0; base_after = p.1 }
