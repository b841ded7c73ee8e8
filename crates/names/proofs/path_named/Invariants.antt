-- `names::path_named` meets its contract. The invariant: the paths that are left decide.
use Rattle.std.proofs.Common.{◌≡◌, ◌-◌, ℕ}
use Rattle.octets.specs.Octets.{same_bytes}
use Rattle.octets.specs.Below.{lowest_from}
use Rattle.schema.specs.Decode.{path_of}
use Rattle.schema.specs.Naming.{path_name, path_named}
use Rattle.names.proofs.path_named.Given as goal

abbrev pub invariant-loop-j : goal.invariant-loop-j
invariant-loop-j l = lowest_from (λ (k : ℕ). same_bytes (path_name l.t (path_of l.e k)) l.name) (l.e.count - l.j) l.j ≡ path_named l.t l.e l.name
