use Prim.Native.Nat.{◌*◌}
use mathlib.Core.Path.{refl, ◌∙◌}
use native.Mathlib.Omega.{arith}
use Rattle.blocks.specs.declared.Check.TheVariants.{Sum}
use Rattle.format.specs.FormatLaws.{length-zeros, seals_begin, seals_turn, seals_end, still_zero}
use Rattle.format.proofs.set_checks.Goals as goal

pub loop-i-init : goal.loop-i-init
loop-i-init c = (λ k. seals_begin k _, refl)

-- the block is still all zero, of whatever kind the checks before it are
pub seal_zeros-requires : goal.seal_zeros-requires
seal_zeros-requires c =
    record { has_block = omega (arith, length-zeros c.args.base.now (c.args.blocks * 512) c.requires); n_value = still_zero Sum _ _ c.args.blocks c.loop-i.i c.requires (c.loop-i.invariant.0 Sum) (omega (arith, c.loop-i-test.true)) }

pub loop-i-preserved : goal.loop-i-preserved
loop-i-preserved c =
    (λ k. seals_turn k _ _ _ c.loop-i.i (c.loop-i.invariant.0 k) (c.seal_zeros.ensures k), c.seal_zeros.auto.base ∙ c.loop-i.invariant.1)

pub shape_of-base : goal.shape_of-base
shape_of-base c = c.loop-i.invariant.1

pub returns : goal.returns
returns c =
    λ k. seals_end k _ _ _ _ c.requires (c.loop-i.invariant.0 k) (omega arith) c.loop-i-test.false
