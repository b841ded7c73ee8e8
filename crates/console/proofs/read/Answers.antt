-- `console::read` meets its contract: the area is shown where the read gave a record.
use Rattle.std.proofs.Common.{refl, sym, ◌∙◌}
use Rattle.octets.specs.Text.{text}
use Rattle.console.specs.ConsoleLaws.{replied}
use Rattle.console.proofs.read.Goals as goal

pub returns-then-record_given : goal.returns-then-record_given
returns-then-record_given c =
    replied c.args.number _ c.answer-at.result c.args.asked.now.operation c.args.out.now c.answer-at.new.out _ _ c.call-a.ensures
    (rw (c.requires, sym c.record_given.ensures ∙ c.if-record_given.true) refl) c.answer-at.ensures.1 c.answer-at.ensures.2 c.finish.ensures.0 c.finish.ensures.1 c.finish.ensures.2 c.finish.ensures.3

pub returns : goal.returns
returns c =
    replied c.args.number _ c.answer-at.result c.args.asked.now.operation c.args.out.now c.answer-at.new.out _ (text "-") c.call-a.ensures
    (rw (c.requires, sym c.record_given.ensures ∙ c.if-record_given.false) refl) c.answer-at.ensures.1 c.answer-at.ensures.2 c.finish-2.ensures.0 c.finish-2.ensures.1 c.finish-2.ensures.2 c.finish-2.ensures.3
