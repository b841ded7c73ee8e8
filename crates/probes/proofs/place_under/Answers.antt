use native.Mathlib.Omega.{arith}
use Rattle.probes.specs.ProbeLaws.{under_none, lies-found, under-found}
use Rattle.probes.proofs.place_under.Goals as goal

pub returns-then-from-entry : goal.returns-then-from-entry
returns-then-from-entry c = under_none _ _ _ (omega arith)

pub place_in_set-requires : goal.place_in_set-requires
place_in_set-requires c = lies-found _ _ c.requires (omega arith) c.entry_of-e.ensures

pub returns : goal.returns
returns c = under-found _ _ c.requires (omega arith) c.entry_of-e.ensures _ c.place_in_set.ensures
