-- `commit::Blocks::with` meets its contract: a new number stands behind the others.
use Rattle.std.proofs.Common.{sym, ◌∙◌, ◌≡◌, length, arith}
use Rattle.std.proofs.lemmas.Bool.{not-true, not-false}
use Rattle.commit.specs.TouchedLaws.{list_any-bare, block_added, block_known}
use Rattle.commit.proofs.Blocks.with.Goals as goal

pub returns-then-contains : goal.returns-then-contains
returns-then-contains c =
    let any = sym c.contains.ensures.value ∙ c.if-contains.true in
    (block_known c.args.self c.args.n.0 (not-true _ (rw c.as_slice.ensures at (sym (list_any-bare c.args.n.0 c.as_slice.result.now) ∙ any))), omega arith)

pub returns : goal.returns
returns c =
    let whole : length c.args.self.numbers ≡ 12 = c.well_formed.0.1.1.0.1.0.1 in
    let any = sym c.contains.ensures.value ∙ c.if-contains.false in
    (block_added c.args.self c.args.n whole c.requires (not-false _ (rw c.as_slice.ensures at (sym (list_any-bare c.args.n.0 c.as_slice.result.now) ∙ any))), omega arith)
