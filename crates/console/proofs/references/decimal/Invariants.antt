-- what is left, read onto n, gives the answer
use Rattle.std.proofs.Common.{◌≡◌, ◌<◌, drop}
use Rattle.console.specs.ReferenceLaws.{spelled}
use Rattle.console.proofs.references.decimal.Given as goal

abbrev pub invariant-loop-x : goal.invariant-loop-x
invariant-loop-x l = record {
  fits : l.n < 4294967296;
  spells : spelled l.n (drop l.x-index l.f) ≡ spelled 0 l.f;
}
