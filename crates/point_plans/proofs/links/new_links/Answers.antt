use mathlib.Core.Path.{◌≡◌, refl}
use native.Mathlib.Omega.{arith}
use borrow.Author.Rules.{rules}
use Rattle.octets.specs.BelowLaws.{fill_step, rest-step}
use Rattle.point_plans.specs.Paths.{link_at}
use Rattle.point_plans.proofs.links.new_links.Goals as goal

pub loop-k-init : goal.loop-k-init
loop-k-init c = (refl, refl, refl)

pub loop-k-preserved : goal.loop-k-preserved
loop-k-preserved c =
    let a = c.args in (
      search rules,
      fill_step (link_at a.base.now a.entry.now a.owners a.spot a.named) c.loop-k.links c.loop-k.k _ (omega arith) c.loop-k.invariant.1
          (rw (c.of-on.ensures.0, c.of-on.ensures.1, c.of-on.ensures.2, c.path_of-p.ensures) at c.new_link.ensures),
      rest-step c.loop-k.links _ c.loop-k.k _ c.loop-k.invariant.2,
    )

pub returns : goal.returns
returns c =
    let k : c.loop-k.k ≡ c.args.entry.now.count = omega arith in
    record { result_value = rw k at c.loop-k.invariant.1; result_value_2 = rw k at c.loop-k.invariant.2 }
