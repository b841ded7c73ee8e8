-- `rules::clashes` meets its contract: two slots that do not both hold a path do not clash; else the last two tests decide.
use mathlib.Core.Bool.{not}
use mathlib.Core.Path.{ap}
use Rattle.rules.specs.RulesLaws.{clash-none, clash-some}
use Rattle.rules.proofs.clashes.Goals as goal

pub returns-then-not-used : goal.returns-then-not-used
returns-then-not-used c =
    let a = c.args in
    clash-none a.s.now a.p a.q c.used.ensures c.used-2.ensures (ap not c.if-not-used.true)

pub returns : goal.returns
returns c =
    let a = c.args in
    clash-some a.s.now a.p a.q c.used.ensures c.used-2.ensures (ap not c.if-not-used.false) c.same_run.ensures
