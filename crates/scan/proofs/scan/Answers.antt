use Rattle.std.proofs.Common.{◌+◌, ◌*◌, ◌-◌, refl, sym, ◌∙◌, arith}
use Rattle.octets.specs.SpliceLaws.{length_run}
use Rattle.octets.specs.BelowLaws.{lowest_from_end}
use Rattle.schema.specs.Numbers.{some_number, no_number_below, record_here, record_nowhere}
use Rattle.schema.proofs.PlaceLaws.{some-held, few-held, stretch_inside, stretch_next}
use Rattle.scan.specs.Wanted.{wanted}
use Rattle.scan.specs.ScanLaws.{scan_hit, scan_miss}
use Rattle.scan.proofs.scan.Goals as goal

pub records_of-requires-clause-size_in_bounds : goal.records_of-requires-clause-size_in_bounds
records_of-requires-clause-size_in_bounds c =
    stretch_inside c.loop-passed.passed c.loop-passed.s c.args.set.now.lies_in c.loop-passed-test.true (c.loop-passed.invariant.enters c.loop-passed-test.true)

pub in_block-requires-clause-size_in_bounds : goal.in_block-requires-clause-size_in_bounds
in_block-requires-clause-size_in_bounds c =
    let ends = stretch_inside c.loop-passed.passed c.loop-passed.s c.args.set.now.lies_in c.loop-passed-test.true (c.loop-passed.invariant.enters c.loop-passed-test.true) in
    rw (c.records_of.ensures, length_run c.args.set.now.base.now c.loop-passed.s.at (c.loop-passed.s.count * c.args.set.now.entry.now.size) ends) (omega arith)

pub overflow_add-result-in-Some : goal.overflow_add-result-in-Some
overflow_add-result-in-Some c =
    let few = few-held c.loop-passed.passed c.loop-passed.s c.args.set.now.lies_in c.loop-passed-test.true (c.loop-passed.invariant.enters c.loop-passed-test.true) in
    omega (arith, few, (some_number c.loop-passed.s.count _ c.in-Some.ensures).1, c.args.set.now.lies_in.many)

pub returns-in-Some : goal.returns-in-Some
returns-in-Some c =
    let a = c.args in
    let s = c.loop-passed.s in
    let enters = c.loop-passed.invariant.enters c.loop-passed-test.true in
    let few = few-held c.loop-passed.passed s c.args.set.now.lies_in c.loop-passed-test.true enters in
    let i = some_number s.count _ c.in-Some.ensures in
    let hit = scan_hit c.loop-passed.passed s c.args.set.now.lies_in c.loop-passed-test.true enters (omega (arith, c.args.set.now.front)) a.live a.set.now.base.now c.in-Some.i _ c.records_of.ensures i.0 i.1 in
    record_here a.set.now.entry.now.records (c.loop-passed.passed + 1 + c.in-Some.i) _ (omega (arith, few, i.1)) (sym (hit ∙ c.loop-passed.invariant.left))

pub next_stretch-s-requires : goal.next_stretch-s-requires
next_stretch-s-requires c =
    let enters = c.loop-passed.invariant.enters c.loop-passed-test.true in
    let ends = stretch_inside c.loop-passed.passed c.loop-passed.s c.args.set.now.lies_in c.loop-passed-test.true enters in
    (few-held c.loop-passed.passed c.loop-passed.s c.args.set.now.lies_in c.loop-passed-test.true enters, omega (arith, ends, c.args.set.now.lies_in.small))

pub loop-passed-smaller : goal.loop-passed-smaller
loop-passed-smaller c =
    omega (arith, some-held c.loop-passed.passed c.loop-passed.s c.args.set.now.lies_in c.loop-passed-test.true (c.loop-passed.invariant.enters c.loop-passed-test.true), c.loop-passed-test.true)

pub loop-passed-preserved : goal.loop-passed-preserved
loop-passed-preserved c =
    let s = c.loop-passed.s in
    let enters = c.loop-passed.invariant.enters c.loop-passed-test.true in
    let i = no_number_below s.count _ c.in_default.ensures in
    let miss = scan_miss c.loop-passed.passed s c.args.set.now.lies_in c.loop-passed-test.true enters (omega (arith, c.args.set.now.front)) c.args.live c.args.set.now.base.now _ _ c.records_of.ensures refl i in
    record {
      few = few-held c.loop-passed.passed s c.args.set.now.lies_in c.loop-passed-test.true enters;
      enters = λ h. c.next_stretch-s.ensures ∙ stretch_next c.loop-passed.passed s c.args.set.now.lies_in c.loop-passed-test.true enters h;
      left = sym miss ∙ c.loop-passed.invariant.left;
    }

pub returns : goal.returns
returns c =
    let a = c.args in
    let x = lowest_from_end (wanted a.live a.set.now.base.now a.set.now.entry.now) (a.set.now.entry.now.records - c.loop-passed.passed) (c.loop-passed.passed + 1) (omega (arith, c.loop-passed-test.false)) in
    record_nowhere a.set.now.entry.now.records _ (omega (arith, x, c.loop-passed.invariant.left, c.loop-passed-test.false))
