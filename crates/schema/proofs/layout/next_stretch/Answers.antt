-- `schema::layout::next_stretch` meets its contract: the stretch begins where the callees say. The check finds this alone; written out, a
-- fault in the place is refused by the equation that fails, and not by a search that gives up.
use Rattle.schema.proofs.layout.next_stretch.Goals as goal

pub returns : goal.returns
returns c = cc
