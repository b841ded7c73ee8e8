use Rattle.std.proofs.Common.{refl}
use Rattle.ends.specs.EndsLaws.{settled-done, settled-damaged}
use Rattle.ends.proofs.settle.Goals as goal

pub returns-then-commit : goal.returns-then-commit
returns-then-commit c given = settled-done _ _ _ _ _ _ _ refl c.commit.ensures.value c.if-commit.true c.commit.ensures.base_after refl refl

pub returns-else-commit : goal.returns-else-commit
returns-else-commit c given = settled-damaged _ _ _ _ _ _ _ refl c.commit.ensures.value c.if-commit.false c.commit.ensures.base_after refl refl
