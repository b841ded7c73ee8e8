-- `names::set_named` meets its contract: the four characters are one word.
use Rattle.schema.specs.Naming.{set_named}
use Rattle.names.proofs.set_named.Goals as goal

pub returns : goal.returns
unfolding set_named
returns c = rw c.word.ensures at c.set_of.ensures
