-- `forms::wrong_reference` meets its contract: the four tests, joined. The check finds this alone; written out, a fault in the definition is
-- refused by the equation that fails, and not by a search that gives up.
use Rattle.std.proofs.Common.{refl}
use Rattle.forms.proofs.wrong_reference.Goals as goal

pub returns : goal.returns
returns c = rw c.eq.ensures refl
