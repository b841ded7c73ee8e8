use borrow.Author.Rules.{rules}
use Rattle.std.proofs.Common.{arith}
use Rattle.records.proofs.HeldLaws.{front-inside}
use Rattle.ends.specs.EndsLaws.{gave-none, gave_some}
use Rattle.ends.proofs.give.Goals as goal

pub returns-in_default : goal.returns-in_default
returns-in_default c = search (rules, gave-none)

pub returns : goal.returns
returns c = rw c.in-Some.is (gave_some _ _ _ _ (let h = rw c.in-Some.is at c.requires.in_set in λ z. omega arith) (search rules) (search rules))

pub of-requires-clause-front : goal.of-requires-clause-front
of-requires-clause-front c = omega (arith, c.requires.lies_in.sized, front-inside c.requires.fields)
