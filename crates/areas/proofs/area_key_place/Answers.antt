use mathlib.Core.Path.{ap}
use native.Mathlib.Omega.{arith}
use borrow.Author.Rules.{rules}
use Rattle.octets.specs.Below.{sum_below}
use Rattle.schema.specs.declared.Path.{Path}
use Rattle.records.specs.Areas.{area_key_place}
use Rattle.records.proofs.AreaLaws.{area-key-turn}
use Rattle.areas.proofs.area_key_place.Goals as goal

pub loop-k-init : goal.loop-k-init
unfolding area_key_place sum_below
loop-k-init c = search rules

pub loop-k-preserved : goal.loop-k-preserved
loop-k-preserved c =
    (omega (arith, area-key-turn c.args.e c.loop-k.k, ap (λ (x : Path). x.len) c.path_of.ensures), search rules)
