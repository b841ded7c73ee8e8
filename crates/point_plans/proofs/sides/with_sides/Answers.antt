use Prim.Native.Nat.{◌<◌}
use mathlib.Core.Path.{◌≡◌}
use native.Mathlib.Omega.{arith}
use Rattle.point_plans.specs.Paths.{words_on}
use Rattle.octets.specs.BelowLaws.{concat_below-none}
use Rattle.point_plans.specs.PlanLaws.{longer_none, longer_turn}
use Rattle.point_plans.proofs.sides.with_sides.Goals as goal

pub loop-k-init : goal.loop-k-init
loop-k-init c =
    longer_none c.args.plan 0 _ c.requires.count_value (concat_below-none (words_on c.args.e.now c.args.owners c.args.links c.args.values))

pub with_path-made-requires : goal.with_path-made-requires
with_path-made-requires c =
    let h : c.loop-k.k < c.args.e.now.count = omega arith in
    let k = c.loop-k.k in record {
      count_bound = omega (arith, c.loop-k.invariant.count, c.requires.points_in.few);
      lies_in = c.requires.points_in.lies;
      path_in = rw c.path_of-p.ensures (c.requires.points_in.path k h);
      link_bound = rw c.path_of-p.ensures (c.requires.owners_in.owner k h).link;
      link_in = c.requires.links_in.inside k h;
    }

pub loop-k-preserved : goal.loop-k-preserved
loop-k-preserved c =
    let a = c.args in
    longer_turn a.plan c.loop-k.made c.with_path-made.result (words_on a.e.now a.owners a.links a.values) c.loop-k.k _ c.loop-k.invariant c.with_path-made.ensures (rw c.path_of-p.ensures)

pub returns : goal.returns
returns c =
    let k : c.loop-k.k ≡ c.args.e.now.count = omega arith in
    rw k at c.loop-k.invariant
