use native.Mathlib.Omega.{arith}
use Rattle.octets.specs.Below.{sum_below}
use Rattle.decode.specs.DecodeLaws.{key_place-turn}
use Rattle.schema.specs.Layout.{key_place}
use borrow.Author.Rules.{rules}
use Rattle.decode.proofs.build.key_place.Goals as goal

pub loop-k-init : goal.loop-k-init
unfolding key_place sum_below
loop-k-init c = search rules

pub loop-k-preserved : goal.loop-k-preserved
loop-k-preserved c =
    let a = c.args in
    (rw c.past_key-at.ensures.0 (key_place-turn a.s.now a.i c.loop-k.k c.loop-k.invariant.0 c.key_length.ensures), omega (arith, c.past_key-at.ensures))
