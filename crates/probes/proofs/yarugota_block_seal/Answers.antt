use Rattle.probes.specs.ProbeLaws.{seal-refused, seal-done}
use Rattle.probes.proofs.yarugota_block_seal.Goals as goal

pub returns-then-block-ne512 : goal.returns-then-block-ne512
returns-then-block-ne512 c = seal-refused _ _ _ c.if-block-ne512.true

pub returns : goal.returns
returns c = seal-done _ _ _ c.if-block-ne512.false c.check_of-v.ensures c.put_word.ensures
