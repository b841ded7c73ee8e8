use mathlib.Core.Path.{◌≡◌, refl}
use native.Mathlib.Omega.{arith}
use borrow.Author.Rules.{rules}
use Rattle.octets.specs.BelowLaws.{fill_step, rest-step}
use Rattle.point_plans.specs.Paths.{link_on}
use Rattle.point_plans.proofs.links.own_links.Goals as goal

pub loop-k-init : goal.loop-k-init
loop-k-init c = (refl, refl, refl)

pub loop-k-preserved : goal.loop-k-preserved
loop-k-preserved c =
    let a = c.args in (
      search rules,
      fill_step (link_on a.base.now a.entry.now a.r.0) c.loop-k.links c.loop-k.k _ (omega arith) c.loop-k.invariant.1 (search rules),
      rest-step c.loop-k.links _ c.loop-k.k _ c.loop-k.invariant.2,
    )

pub returns : goal.returns
returns c =
    let k : c.loop-k.k ≡ c.args.entry.now.count = omega arith in
    record { result_value = rw k at c.loop-k.invariant.1; result_value_2 = rw k at c.loop-k.invariant.2 }
