use mathlib.Core.Path.{refl}
use Rattle.octets.specs.Octets.{every}
use Rattle.rules.specs.RulesLaws.{zeros-turn, zeros_end}
use Rattle.rules.proofs.zeros.Goals as goal

pub loop-b-init : goal.loop-b-init
unfolding every
loop-b-init c = refl

pub loop-b-preserved : goal.loop-b-preserved
loop-b-preserved c = zeros-turn _ c.loop-b.b-index c.loop-b-test.true c.loop-b.invariant

pub returns : goal.returns
returns c = zeros_end c.args.s.now c.args.at c.args.n c.loop-b-test.false c.loop-b.invariant
