-- `master_plans::start` meets its contract: the plan is a head alone. Assumes nothing.
use mathlib.Core.Path.{refl}
use native.Mathlib.Omega.{arith}
use Rattle.plans.specs.Stores.{word_stores}
use Rattle.master_plans.proofs.start.Goals as goal

pub returns : goal.returns
unfolding word_stores
returns c =
    rw c.of.ensures (record { head = refl; target = refl; other = refl; links = refl; few = omega arith; words = refl; records = tt; wiped = refl })
