-- `commit::store_wiped` meets its contract: record 0 is none. Assumes nothing.
use mathlib.Core.Path.{refl}
use borrow.Author.Tests.{eq-eqb, ne_eqb}
use Rattle.plans.specs.Plan.{store_all}
use Rattle.commit.proofs.store_wiped.Goals as goal

pub returns-then-r-eq0 : goal.returns-then-r-eq0
unfolding store_all
returns-then-r-eq0 c = rw (eq-eqb _ _ c.if-r-eq0.true) refl

pub returns : goal.returns
unfolding store_all
returns c = rw (ne_eqb _ _ c.if-r-eq0.false) c.wipe.ensures
