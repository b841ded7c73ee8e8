use Rattle.std.proofs.Common.{refl}
use Rattle.std.proofs.lemmas.Result.{err_from_is_err_and}
use Rattle.console.specs.SessionLaws.{line_taken, byte_kept}
use Rattle.yarugota.proofs.Written.{newline_printed}
use Rattle.yarugota.proofs.take_byte.Goals as goal

-- a line is answered by what is kept of it, whether or not the answer is written
pub returns-in_err-end_line-clause-led : goal.returns-in_err-end_line-clause-led
returns-in_err-end_line-clause-led g c =
    let p = err_from_is_err_and c.from_residual.result c.from_residual.ensures.1 in
    rw p.1 (_, 0, λ s h. line_taken c.args.schema.now h c.if-byte-eq10.true refl c.end_line.ensures.kept)

pub returns-then-byte-eq10-clause-leads : goal.returns-then-byte-eq10-clause-leads
returns-then-byte-eq10-clause-leads g c =
    λ s h. line_taken c.args.schema.now h c.if-byte-eq10.true refl c.end_line.ensures.kept

pub returns-then-byte-eq10-clause-written : goal.returns-then-byte-eq10-clause-written
returns-then-byte-eq10-clause-written g c =
    λ s h. rw (newline_printed c.args.schema.now h c.if-byte-eq10.true) c.in_ok-end_line.ensures.written

pub returns-clause-leads : goal.returns-clause-leads
returns-clause-leads g c =
    λ s h. byte_kept c.args.schema.now h c.if-byte-eq10.false c.keep-more.ensures.kept_line
