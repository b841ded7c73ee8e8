use mathlib.Core.Path.{refl, ◌∙◌}
use Rattle.master_calls.specs.CallLaws.{told-home, rqloc_ends}
use Rattle.master_calls.proofs.rqloc.Goals as goal

pub returns : goal.returns
returns c = λ r area b. rqloc_ends _ _ _ _ _ refl (c.into.ensures ∙ told-home _ _ _ c.home.ensures c.of-k.ensures.0)
