-- `commit::all_sealed` meets its contract: a test of each block.
use Rattle.std.proofs.Common.{rules, tests, ◌∙◌}
use Rattle.std.proofs.lemmas.Iterator.{YieldsList-from_slice}
use Rattle.std.proofs.lemmas.Iterator.Adapters.{serves_from_places}
use Rattle.std.proofs.lemmas.Iterator.Search.{all_from_yields_List}
use Rattle.terms.specs.declared.BlockNo.{BlockNo}
use Rattle.std.specs.Prelude.{Bool}
use Rattle.blocks.specs.Blocks.{is_sealed, HasBlock}
use Rattle.commit.specs.TouchedLaws.{list_all-bare, block_within_lem}
use Rattle.commit.proofs.all_sealed.Goals as goal

pub all-requires-clause-callable : goal.all-requires-clause-callable
all-requires-clause-callable c = serves_from_places (YieldsList-from_slice c.args.blocks.now (c.iter.ensures.rest)) (λ x q k. search rules) (λ x k l e.
    let has : HasBlock c.args.base.now x.now.0 = rw e (block_within_lem c.args.blocks.now _ k x.now c.requires l) in
    search (rules, has))

pub returns : goal.returns
returns c =
    let f : BlockNo → Bool = λ m. is_sealed c.args.kind c.args.base.now m.0 in
    all_from_yields_List f _ _ _ c.all.ensures.ran (YieldsList-from_slice c.args.blocks.now (c.iter.ensures.rest)) (λ x b q k. search (rules, tests))
    ∙ list_all-bare (is_sealed c.args.kind c.args.base.now) c.args.blocks.now
