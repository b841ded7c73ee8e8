-- `decode::build::body` meets its contract: a master's D bytes stand behind its linkage fields, a variable's behind its last path.
use native.Mathlib.Omega.{arith}
use Rattle.decode.specs.DecodeLaws.{body_of_master, body_of_variable}
use Rattle.decode.proofs.build.body.Goals as goal

pub returns-then-i-masters : goal.returns-then-i-masters
returns-then-i-masters c =
    let h = rw c.masters.ensures at c.if-i-masters.true in
    body_of_master c.args.s.now c.args.i h (c.requires.counted.total c.args.i (omega (arith, h, c.requires.formed.head))) c.past_links.ensures

pub returns : goal.returns
returns c =
    body_of_variable c.args.s.now c.args.i (rw c.masters.ensures at c.if-i-masters.false) c.paths.ensures c.key_place.ensures
