use mathlib.Core.Path.{◌≡◌, refl, ap, sym}
use native.Mathlib.Omega.{arith}
use borrow.Author.Rules.{rules}
use Rattle.octets.specs.BelowLaws.{fill_step, rest-step}
use Rattle.schema.specs.declared.Path.{Path}
use Rattle.schema.specs.Decode.{path_of}
use Rattle.records.specs.Areas.{area_key_place}
use Rattle.records.proofs.AreaLaws.{area-key-first, area-key-turn}
use Rattle.point_plans.proofs.search.area_places.Goals as goal

pub loop-k-init : goal.loop-k-init
loop-k-init c =
    (sym (area-key-first c.args.e), search rules, search rules, refl, refl)

pub loop-k-preserved : goal.loop-k-preserved
loop-k-preserved c =
    let e = c.args.e in
    let p : c.path_of.result.len ≡ (path_of e c.loop-k.k).len = ap (λ (x : Path). x.len) c.path_of.ensures in (
      omega (arith, area-key-turn e c.loop-k.k, c.loop-k.invariant.0),
      search rules,
      search rules,
      fill_step (area_key_place e) c.loop-k.at c.loop-k.k c.loop-k.from (omega arith) c.loop-k.invariant.3 c.loop-k.invariant.0,
      rest-step c.loop-k.at _ c.loop-k.k _ c.loop-k.invariant.4,
    )

pub returns : goal.returns
returns c =
    let k : c.loop-k.k ≡ c.args.e.count = omega arith in
    record { result_value = rw k at c.loop-k.invariant.3; result_value_2 = rw k at c.loop-k.invariant.4 }
