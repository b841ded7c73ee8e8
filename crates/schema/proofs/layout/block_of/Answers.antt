-- `schema::layout::block_of` meets its contract: the definition, opened.
use Rattle.std.proofs.Common.{refl}
use Rattle.schema.specs.Place.{block_of}
use Rattle.schema.proofs.layout.block_of.Goals as goal

pub returns : goal.returns
unfolding block_of
returns c = refl
