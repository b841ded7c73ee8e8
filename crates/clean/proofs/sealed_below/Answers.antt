-- `clean::sealed_below` meets its contract: the blocks are the numbers below n.
use Rattle.std.proofs.Common.{rules, tests, refl, ◌∙◌, arith}
use Rattle.std.proofs.lemmas.Iterator.{YieldsList-from_range}
use Rattle.std.proofs.lemmas.Iterator.Search.{all_from_yields_List}
use Rattle.blocks.specs.Blocks.{is_sealed}
use Rattle.octets.specs.BelowLaws.{list_all-below}
use Rattle.clean.proofs.sealed_below.Goals as goal

pub returns : goal.returns
returns c =
    let f = is_sealed c.args.k c.args.base.now in
    all_from_yields_List f _ _ _ c.all.ensures.ran (YieldsList-from_range 0 c.args.n c.args.n refl (omega arith)) (λ x b q k. search (rules, tests)) ∙ list_all-below f c.args.n
