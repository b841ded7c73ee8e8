-- `decode::decode` meets its contract: a schema that breaks the form's rules is refused.
use mathlib.Core.Bool.{not}
use mathlib.Core.Path.{ap}
use Rattle.decode.specs.DecodeLaws.{no_form}
use Rattle.decode.proofs.decode.Goals as goal

pub returns-then-not-form : goal.returns-then-not-form
returns-then-not-form c = no_form c.args.s.now c.form.ensures (ap not c.if-not-form.true)
