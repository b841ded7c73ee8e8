use mathlib.Core.Path.{◌≡◌, refl, ap}
use native.Mathlib.Omega.{arith}
use borrow.Author.Rules.{rules}
use Rattle.octets.specs.BelowLaws.{fill_step, rest-step}
use Rattle.schema.specs.declared.Path.{Path}
use Rattle.schema.specs.Decode.{path_of}
use Rattle.point_plans.proofs.search.record_places.Goals as goal

pub loop-k-init : goal.loop-k-init
loop-k-init c = (search rules, refl, refl)

pub loop-k-preserved : goal.loop-k-preserved
loop-k-preserved c =
    let e = c.args.e in (
      search rules,
      fill_step (λ j. (path_of e j).at) c.loop-k.at c.loop-k.k _ (omega arith) c.loop-k.invariant.1 (ap (λ (x : Path). x.at) c.path_of.ensures),
      rest-step c.loop-k.at _ c.loop-k.k _ c.loop-k.invariant.2,
    )

pub returns : goal.returns
returns c =
    let k : c.loop-k.k ≡ c.args.e.count = omega arith in
    record { result_value = rw k at c.loop-k.invariant.1; result_value_2 = rw k at c.loop-k.invariant.2 }
