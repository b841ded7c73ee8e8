-- `rules::form` meets its contract: a buffer of another length, a false check or a false head answer at once.
use mathlib.Core.Bool.{not}
use mathlib.Core.Path.{ap}
use Rattle.rules.specs.RulesLaws.{form-short, form-refused, form_body, few_sets}
use Rattle.rules.proofs.form.Goals as goal

pub returns-then-s-ne512 : goal.returns-then-s-ne512
returns-then-s-ne512 c = form-short c.args.s.now c.if-s-ne512.true

pub returns-then-not-sealed-head : goal.returns-then-not-sealed-head
returns-then-not-sealed-head c = form-refused c.args.s.now c.sealed.ensures c.head.ensures c.if-s-ne512.false (ap not c.if-not-sealed-head.true)

pub body-requires : goal.body-requires
body-requires c = (c.if-s-ne512.false, few_sets c.args.s.now c.sealed.ensures c.head.ensures (ap not c.if-not-sealed-head.false))

pub returns : goal.returns
returns c =
    form_body c.args.s.now c.sealed.ensures c.head.ensures c.if-s-ne512.false (ap not c.if-not-sealed-head.false) c.body.ensures
