-- `format::seal_zeros` meets its contract: the check of a block of zeros is its number.
use mathlib.Core.Path.{◌∙◌}
use Rattle.format.specs.FormatLaws.{zero_seal}
use borrow.Author.Rules.{rules}
use Rattle.format.proofs.seal_zeros.Goals as goal

pub returns : goal.returns
returns c = λ k. c.put_check.ensures ∙ zero_seal k _ _ c.requires.n_value (search rules)
