-- `commit::wiped_block` meets its contract: record 0 is none. Assumes nothing.
use mathlib.Core.Path.{refl}
use native.Mathlib.Omega.{arith}
use borrow.Author.Tests.{eq-eqb, ne_eqb}
use Rattle.commit.specs.Touched.{add_all}
use Rattle.commit.proofs.wiped_block.Goals as goal

pub returns-then-r-eq0 : goal.returns-then-r-eq0
unfolding add_all
returns-then-r-eq0 c = (rw (eq-eqb _ _ c.if-r-eq0.true) refl, omega arith)

pub returns : goal.returns
unfolding add_all
returns c = (rw (ne_eqb _ _ c.if-r-eq0.false, ← c.block_of.ensures) c.with.ensures.0, omega (arith, c.with.ensures.1))
