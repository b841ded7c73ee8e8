-- `commit::Blocks::as_slice` meets its contract: the first numbers, taken before or after they are bare.
use Rattle.commit.specs.TouchedLaws.{bare-take}
use Rattle.commit.proofs.Blocks.as_slice.Goals as goal

pub returns : goal.returns
returns c = bare-take c.args.self.now.count c.args.self.now.numbers
