use Rattle.std.proofs.lemmas.Result.{on_ok_weaker}
use Rattle.console.specs.SessionLaws.{last_answered}
use Rattle.yarugota.proofs.Written.{last_printed}
use Rattle.yarugota.proofs.last_line.Goals as goal

pub returns-then-len-ne0-clause-last : goal.returns-then-len-ne0-clause-last
returns-then-len-ne0-clause-last g c =
    λ s h. last_answered c.args.schema.now h c.requires.0 c.if-len-ne0.true c.end_line.ensures.kept

pub returns-then-len-ne0-clause-written : goal.returns-then-len-ne0-clause-written
returns-then-len-ne0-clause-written g c =
    on_ok_weaker c.end_line.result (λ w s h. rw (last_printed c.args.schema.now h c.requires.0 c.if-len-ne0.true) w) c.end_line.ensures.written
