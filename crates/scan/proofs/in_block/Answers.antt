use Rattle.std.proofs.Common.{sym, ◌∙◌, arith}
use Rattle.std.specs.Prelude.{eqb}
use Rattle.octets.specs.Octets.{byte_at}
use Rattle.schema.specs.Numbers.{lowest_here, not_here, lowest_nowhere, number_here, number_nowhere}
use Rattle.scan.specs.Wanted.{wanted_in}
use Rattle.scan.specs.ScanLaws.{wanted-is}
use Rattle.scan.proofs.in_block.Goals as goal

pub returns-then-state-live : goal.returns-then-state-live
returns-then-state-live c =
    let a = c.args in
    let test = rw c.loop-i.invariant.at at (sym (wanted-is a.live (eqb (byte_at a.records.now c.loop-i.p) 1)) ∙ c.if-state-live.true) in
    number_here a.n c.loop-i.i _ c.loop-i-test.true (lowest_here (wanted_in a.live a.records.now a.size) a.n c.loop-i.i c.loop-i.invariant.left c.loop-i-test.true test)

pub loop-i-preserved : goal.loop-i-preserved
loop-i-preserved c =
    let a = c.args in
    let test = rw c.loop-i.invariant.at at (sym (wanted-is a.live (eqb (byte_at a.records.now c.loop-i.p) 1)) ∙ c.if-state-live.false) in
    record {
      at = omega (arith, c.loop-i.invariant.at);
      left = not_here (wanted_in a.live a.records.now a.size) a.n c.loop-i.i c.loop-i.invariant.left c.loop-i-test.true test;
    }

pub returns : goal.returns
returns c =
    let a = c.args in
    let x = lowest_nowhere (wanted_in a.live a.records.now a.size) a.n c.loop-i.i c.loop-i.invariant.left c.loop-i-test.false in
    number_nowhere a.n _ (omega (arith, c.loop-i-test.false, x))
