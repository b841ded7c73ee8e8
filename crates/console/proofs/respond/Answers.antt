use Rattle.console.specs.ConsoleLaws.{unmade-line}
use Rattle.console.specs.AskedLaws.{asked_short, asked_replied}
use Rattle.console.proofs.respond.Goals as goal

pub ask-requires : goal.ask-requires
ask-requires c = asked_short c.in-Some.ensures

pub returns-in-None : goal.returns-in-None
returns-in-None c =
    let a = c.args in
    unmade-line a.number _ a.line.now a.schema.now a.base.now a.out.now _ c.in-None.ensures c.form.ensures.0 c.form.ensures.1 c.form.ensures.2

pub returns-in-Some : goal.returns-in-Some
returns-in-Some c = asked_replied c.args.number c.args.schema.now c.args.base.now c.in-Some.ensures c.ask.ensures
