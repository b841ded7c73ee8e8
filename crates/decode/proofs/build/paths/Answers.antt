use mathlib.Core.Path.{◌≡◌}
use native.Mathlib.Omega.{arith}
use Rattle.schema.specs.Fields.{count_of}
use Rattle.schema.specs.Decode.{path_from}
use Rattle.decode.proofs.build.paths.Goals as goal

pub returns : goal.returns
unfolding path_from
returns c =
    let a = c.args in
    let e : c.loop-j.j ≡ count_of a.s.now a.i = omega arith in
    rw e at c.loop-j.invariant.1
