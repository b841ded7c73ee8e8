use mathlib.Core.Path.{◌≡◌}
use native.Mathlib.Omega.{arith}
use Rattle.decode.specs.DecodeLaws.{LaidOut, laid_none, laid_next, laid-all, blocks_ready, too_long, too_many}
use Rattle.schema.specs.Fields.{sets_of}
use Rattle.decode.proofs.build.laid_out.Goals as goal

pub loop-i-init : goal.loop-i-init
loop-i-init c = laid_none c.args.s.now c.no_entry-entries.ensures

pub returns-then-e-gt508 : goal.returns-then-e-gt508
returns-then-e-gt508 c =
    too_long c.args.s.now c.loop-i.i c.set-e.ensures (omega arith) (omega arith)

pub blocks_held-first-requires : goal.blocks_held-first-requires
blocks_held-first-requires c =
    blocks_ready c.args.s.now c.loop-i.i c.set-e.ensures c.requires.formed (omega arith) (omega arith)

pub loop-i-preserved : goal.loop-i-preserved
loop-i-preserved c =
    laid_next c.args.s.now c.loop-i.i c.set-e.ensures c.loop-i.invariant (omega (arith, c.requires.formed.head)) (omega arith) c.blocks_held-first.ensures

pub returns-then-first-gt4096 : goal.returns-then-first-gt4096
returns-then-first-gt4096 c =
    let s = c.args.s.now in
    let e : c.loop-i.i ≡ sets_of s = omega arith in
    let d : LaidOut s (sets_of s) c.loop-i.first c.loop-i.entries = rw e at c.loop-i.invariant in
    too_many s d (omega arith)

pub returns : goal.returns
returns c =
    let s = c.args.s.now in
    let e : c.loop-i.i ≡ sets_of s = omega arith in
    let d : LaidOut s (sets_of s) c.loop-i.first c.loop-i.entries = rw e at c.loop-i.invariant in
    laid-all s d c.requires.s_value (omega arith)
