use Rattle.std.proofs.Common.{sym, ◌∙◌}
use Rattle.commit.specs.TouchedLaws.{block_within_lem, seal-turn, seal_end}
use Rattle.commit.proofs.seal_all.Goals as goal

pub seal-requires : goal.seal-requires
seal-requires c = rw c.loop-n.invariant.len (block_within_lem c.args.blocks.now _ c.loop-n.n-index _ c.requires c.loop-n-test.true)

pub loop-n-preserved : goal.loop-n-preserved
loop-n-preserved c = record {
  len = c.seal.auto.base ∙ c.loop-n.invariant.len;
  left = rw c.seal.ensures (sym (seal-turn c.args.kind c.loop-n.base c.args.blocks.now c.loop-n.n-index c.loop-n-test.true) ∙ c.loop-n.invariant.left);
}

pub returns : goal.returns
returns c = sym (seal_end c.args.kind c.loop-n.base c.args.blocks.now c.loop-n.n-index c.loop-n-test.false) ∙ c.loop-n.invariant.left
