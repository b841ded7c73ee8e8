-- `console::small::schema` meets its contract: the four parts stand where document 01 puts them.
use Rattle.std.proofs.Common.{ℕ, List, ap}
use Rattle.blocks.specs.declared.Check.TheVariants.{Sum}
use Rattle.blocks.specs.Blocks.{seal}
use Rattle.cases.specs.Small.{small_schema}
use Rattle.console.specs.SmallLaws.{stored_sets}
use Rattle.console.proofs.small.schema.Goals as goal

pub returns : goal.returns
unfolding small_schema
returns c =
    rw (c.seal.ensures, c.copy_in-4.ensures, c.copy_in-3.ensures, c.copy_in-2.ensures, c.copy_in.ensures)
    (ap (λ (l : List ℕ). seal Sum l 0) stored_sets)
