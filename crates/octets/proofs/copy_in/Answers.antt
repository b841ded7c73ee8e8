use Rattle.std.proofs.Common.{◌≡◌, length, refl, ◌∙◌, arith, length-set}
use lib.Seq.{take-length}
use Rattle.octets.specs.Octets.{splice}
use Rattle.octets.specs.SpliceLaws.{splice-turn}
use Rattle.octets.proofs.copy_in.Goals as goal

pub loop-i-init : goal.loop-i-init
unfolding splice
loop-i-init c = (refl, refl)

pub loop-i-preserved : goal.loop-i-preserved
loop-i-preserved c =
    let h = c.loop-i.invariant in
    (rw h.0 (splice-turn _ _ _ _ (omega arith)), simp length-set h.1)

pub shape_of-dst : goal.shape_of-dst
shape_of-dst c = c.loop-i.invariant.1

pub returns : goal.returns
returns c =
    let e : c.loop-i.i ≡ length c.args.src.now = omega arith in
    c.loop-i.invariant.0 ∙ rw (e, take-length) refl
