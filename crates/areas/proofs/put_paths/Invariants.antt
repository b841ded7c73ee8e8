-- `areas::put_paths` meets its contract. The loop's invariant: what is left, stored from path j's place on, makes of the part what all
-- of it makes of the part at entry. Assumes nothing.
use Prim.Native.Nat.{◌-◌}
use mathlib.Core.Path.{◌≡◌}
use lib.ListN.{length}
use Rattle.octets.specs.Octets.{splice}
use Rattle.records.specs.Areas.{new_paths}
use Rattle.records.specs.Fields.{path_place}
use Rattle.areas.proofs.put_paths.Given as goal

abbrev pub invariant-loop-j : goal.invariant-loop-j
invariant-loop-j l =
    let e = l.area.entry.now in
    let area = l.area.bytes.now in
    (length l.part ≡ length l.initial.part)
    × (splice l.part (path_place e l.j) (new_paths e l.links area (e.count - l.j) l.j) ≡ splice l.initial.part 4 (new_paths e l.links area e.count 0))
