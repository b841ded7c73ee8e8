-- `commit::head_blocks` meets its contract: each head names the records that it stores into.
use Rattle.std.proofs.Common.{ap, arith}
use Rattle.plans.specs.declared.Head.{Head}
use Rattle.plans.specs.declared.Head.TheVariants.{Stranger}
use Rattle.plans.specs.PlanOk.{HeadOk}
use Rattle.commit.specs.Touched.{add_all, head_blocks}
use Rattle.commit.specs.TouchedLaws.{one-in_set, one-block_of}
use Rattle.commit.specs.DistinctLaws.{one_block, two_blocks}
use Rattle.commit.proofs.head_blocks.Goals as goal

pub block_of-requires : goal.block_of-requires
block_of-requires c = record { in_set = one-in_set c.args.e c.args.r.0 c.args.q.0 c.args.head c.in-Body.is c.requires.head_ok; lies_in = c.requires.lies_in }

pub block_of-requires-in-Stranger : goal.block_of-requires-in-Stranger
block_of-requires-in-Stranger c =
    let h : HeadOk Stranger c.args.e c.args.r.0 c.args.q.0 = rw c.in-Stranger.is at c.requires.head_ok in
    record { in_set = h.1; lies_in = c.requires.lies_in }

pub block_of-requires-in-Stranger-2 : goal.block_of-requires-in-Stranger-2
block_of-requires-in-Stranger-2 c =
    let h : HeadOk Stranger c.args.e c.args.r.0 c.args.q.0 = rw c.in-Stranger.is at c.requires.head_ok in
    record { in_set = h.0; lies_in = c.requires.lies_in }

pub returns-in-Nothing : goal.returns-in-Nothing
unfolding add_all
returns-in-Nothing c = (rw c.in-Nothing.is c.none-none.ensures.0, omega arith)

pub returns-in-Body : goal.returns-in-Body
returns-in-Body c =
    (one_block c.none-none.ensures.0 c.with.ensures.0 c.block_of.ensures (one-block_of c.args.e c.args.r.0 c.args.q.0 c.args.head c.in-Body.is), omega (arith, c.with.ensures.1))

pub returns-in-Stranger : goal.returns-in-Stranger
returns-in-Stranger c =
    let named = ap (λ (x : Head). head_blocks x c.args.e c.args.r.0 c.args.q.0) c.in-Stranger.is in (
      two_blocks c.none-none.ensures.0 c.with-in-Stranger.ensures.0 c.with-in-Stranger-2.ensures.0 c.block_of-in-Stranger.ensures c.block_of-in-Stranger-2.ensures named,
      omega (arith, c.with-in-Stranger-2.ensures.1, c.with-in-Stranger.ensures.1),
    )
