-- `masters::walk::Masters::seek_from` meets its contract. The invariant: from where the walk stands there is left to find what the whole search
-- finds, and the chain ends where it ended from the home. The measure: what may still be visited.
use Prim.Native.Nat.{◌-◌, ◌≤◌}
use mathlib.Core.Path.{◌≡◌}
use Rattle.terms.specs.Terms.{key_of}
use Rattle.masters.specs.Find.{seek, tail_from}
use Rattle.masters.proofs.WalkLaws.{seek_on, tail_on}
use Rattle.masters.proofs.held.Masters.seek_from.Given as goal

abbrev pub invariant-loop-r : goal.invariant-loop-r
invariant-loop-r l =
    (l.w.visited ≤ l.self.entry.now.records) × (seek_on l.self.base.now l.self.entry.now (key_of l.k) l.w ≡ seek l.self.entry.now.records l.self.base.now l.self.entry.now (key_of l.k) l.h.0) × (tail_on l.self.base.now l.self.entry.now l.w ≡ tail_from l.self.entry.now.records l.self.base.now l.self.entry.now l.h.0)

abbrev pub decreases-loop-r : goal.decreases-loop-r
decreases-loop-r l = l.self.entry.now.records - l.w.visited
