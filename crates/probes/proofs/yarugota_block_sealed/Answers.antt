use Rattle.probes.specs.ProbeLaws.{sealed-length, sealed_false, sealed_true}
use mathlib.Core.Path.{sym, ◌∙◌}
use Rattle.probes.proofs.yarugota_block_sealed.Goals as goal

pub returns-then-block-ne512 : goal.returns-then-block-ne512
returns-then-block-ne512 c = sealed-length _ _ _ c.if-block-ne512.true

pub returns-then-word-check_of : goal.returns-then-word-check_of
returns-then-word-check_of c = sealed_false _ _ _ c.if-block-ne512.false (λ e. c.if-word-check_of.true (c.word.ensures ∙ e ∙ sym c.check_of.ensures))

pub returns : goal.returns
returns c = sealed_true _ _ _ c.if-block-ne512.false (sym c.word.ensures ∙ c.if-word-check_of.false ∙ c.check_of.ensures)
