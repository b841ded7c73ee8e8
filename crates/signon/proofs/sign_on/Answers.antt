-- `signon::sign_on` meets its contract: the checks, then the sets.
use Rattle.std.proofs.Common.{sym, ◌∙◌}
use Rattle.sound.specs.Linear.{in_place}
use Rattle.signon.proofs.sign_on.Goals as goal

pub returns-then-checks_true : goal.returns-then-checks_true
unfolding in_place
returns-then-checks_true c = rw (sym c.checks_true.ensures ∙ c.if-checks_true.true) c.sets_in_place.ensures

pub returns-else-checks_true : goal.returns-else-checks_true
unfolding in_place
returns-else-checks_true c = rw (sym c.checks_true.ensures ∙ c.if-checks_true.false) c.if-checks_true.false
