use Rattle.std.proofs.Common.{arith, take_all, rules}
use Rattle.std.proofs.lemmas.Result.{err_from_is_err_and}
use Rattle.std.proofs.KnownBytes.{Appends-nil, Appends-trans}
use Rattle.console.specs.Session.{bytes_taken}
use Rattle.console.specs.SessionLaws.{taken-one}
use Rattle.yarugota.specs.Printed.{bytes_printed}
use Rattle.yarugota.proofs.Written.{printed_one}
use Rattle.yarugota.proofs.take_bytes.Goals as goal

pub loop-byte-init : goal.loop-byte-init
unfolding bytes_taken bytes_printed
loop-byte-init g c = record { in_range = omega arith; kept = c.requires.1; line = c.requires.0; leads = λ s h. h; written = λ s h. Appends-nil _ }

pub returns-in_err-at-clause-led : goal.returns-in_err-at-clause-led
returns-in_err-at-clause-led g c =
    let p = err_from_is_err_and c.from_residual.result c.from_residual.ensures.1 in
    let w = c.in_err-at.ensures.led in
    rw p.1 (
      c.loop-byte.byte-index,
      omega arith,
      search rules,
      w.0,
      w.1,
      λ s h.
          rw (taken-one c.args.schema.now s c.args.bytes.now c.loop-byte.byte-index (omega arith)) (w.2 _ (c.loop-byte.invariant.leads s h)),
    )

pub loop-byte-preserved : goal.loop-byte-preserved
loop-byte-preserved g c = record {
  in_range = omega arith;
  kept = c.in_ok-at.ensures.len_bound;
  line = search rules;
  leads = λ s h.
      rw (taken-one c.args.schema.now s c.args.bytes.now c.loop-byte.byte-index (omega arith)) (c.in_ok-at.ensures.leads _ (c.loop-byte.invariant.leads s h));
  written = λ s h.
      rw (printed_one c.args.schema.now s c.args.bytes.now c.loop-byte.byte-index (omega arith))
      (Appends-trans _ _ _ _ _ (c.loop-byte.invariant.written s h) (c.in_ok-at.ensures.written _ (c.loop-byte.invariant.leads s h)));
}

pub returns-clause-leads : goal.returns-clause-leads
returns-clause-leads g c = λ s h. rw (take_all c.loop-byte.byte-index c.args.bytes.now (omega arith)) at (c.loop-byte.invariant.leads s h)

pub returns-clause-written : goal.returns-clause-written
returns-clause-written g c = λ s h. rw (take_all c.loop-byte.byte-index c.args.bytes.now (omega arith)) at (c.loop-byte.invariant.written s h)
