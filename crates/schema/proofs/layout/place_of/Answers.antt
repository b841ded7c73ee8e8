-- `schema::layout::place_of` meets its contract: the definition, opened.
use Rattle.std.proofs.Common.{rules}
use Rattle.schema.specs.Place.{place_of}
use Rattle.schema.proofs.layout.place_of.Goals as goal

pub returns : goal.returns
unfolding place_of
returns c = search rules
