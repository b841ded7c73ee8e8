-- `point_calls::reads::HeldPath::read_damaged` meets its contract: first and last are read in the master's part.
use Prim.Native.Nat.{ℕ}
use mathlib.Core.Path.{◌≡◌, ap, ◌∙◌}
use mathlib.Core.List.{List}
use lib.ListN.{length}
use borrow.Author.Rules.{rules}
use Rattle.terms.specs.Terms.{key_of}
use Rattle.schema.specs.Place.{record_of}
use Rattle.points.specs.Chains.{read_damaged, bad_neighbour}
use Rattle.point_plans.specs.Paths.{uneven_at}
use Rattle.point_plans.specs.DamageLaws.{uneven_from}
use Rattle.point_calls.proofs.held.HeldPath.read_damaged.Goals as goal

pub uneven_ends-uneven-requires : goal.uneven_ends-uneven-requires
uneven_ends-uneven-requires c =
    let sized : length c.bytes-master.result.now ≡ c.args.self.now.masters.now.size = search rules in
    rw sized c.args.self.now.reached.masters.link

pub returns : goal.returns
unfolding read_damaged
returns c =
    let a = c.args in
    let read : c.bytes-master.result.now ≡ record_of a.self.now.base.now a.self.now.masters.now a.m.0 = search rules in
    let bad : c.bad_neighbour-bad.result ≡ bad_neighbour a.self.now.base.now a.self.now.entry.now a.self.now.path (key_of a.key) a.n = search rules in
    rw (bad, c.uneven_ends-uneven.ensures ∙ ap (λ (r : List ℕ). uneven_at r a.self.now.path.link) read ∙ uneven_from a.self.now.masters.now a.self.now.path a.m.0 c.args.self.now.reached.masters.link a.self.now.base.now)
