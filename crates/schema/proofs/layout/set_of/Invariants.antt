-- `schema::layout::set_of` meets its contract. The invariant: the sets that are left decide.
use Rattle.std.proofs.Common.{◌≡◌, ◌-◌, ℕ}
use Rattle.std.specs.Prelude.{eqb}
use Rattle.octets.specs.Below.{lowest_from}
use Rattle.schema.specs.Decode.{entry_of}
use Rattle.schema.specs.Naming.{set_of}
use Rattle.schema.proofs.layout.set_of.Given as goal

abbrev pub invariant-loop-i : goal.invariant-loop-i
invariant-loop-i l = lowest_from (λ (k : ℕ). eqb (entry_of l.t k).name l.name) (l.n - l.i) l.i ≡ set_of l.t l.name
