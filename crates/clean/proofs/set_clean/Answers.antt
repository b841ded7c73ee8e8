-- `clean::set_clean` meets its contract: the records, then the room behind them.
use Rattle.std.proofs.Common.{sym, ◌∙◌}
use Rattle.sound.specs.Sound.{set_clean}
use Rattle.clean.proofs.set_clean.Goals as goal

pub returns-then-records_clean : goal.returns-then-records_clean
unfolding set_clean
returns-then-records_clean c = rw (sym c.records_clean.ensures ∙ c.if-records_clean.true) c.leftovers_clean.ensures

pub returns-else-records_clean : goal.returns-else-records_clean
unfolding set_clean
returns-else-records_clean c = rw (sym c.records_clean.ensures ∙ c.if-records_clean.false) c.if-records_clean.false
