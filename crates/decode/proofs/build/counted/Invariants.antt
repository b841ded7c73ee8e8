-- `decode::build::counted` meets its contract. The invariant: the paths in the slots passed are counted.
use Rattle.decode.specs.Decoding.{Counted}
use Rattle.decode.proofs.build.counted.Given as goal

abbrev pub invariant-loop-q : goal.invariant-loop-q
invariant-loop-q l = Counted l.s l.q l.l
