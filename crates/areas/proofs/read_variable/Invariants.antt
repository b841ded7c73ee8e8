-- `areas::read_variable` meets its contract. The loop's invariant: what is left, stored from `at` on, makes of the area what all of it
-- makes of the area at entry. Assumes nothing.
use Prim.Native.Nat.{ℕ}
use mathlib.Core.Path.{◌≡◌}
use mathlib.Core.List.{List, ◌++◌}
use lib.ListN.{length, drop}
use Rattle.octets.specs.Octets.{run, splice}
use Rattle.schema.specs.declared.Entry.{Entry}
use Rattle.schema.specs.Decode.{paths_of}
use Rattle.records.specs.Areas.{area_key_place}
use Rattle.records.proofs.AreaLaws.{keys_in}
use Rattle.areas.proofs.read_variable.Given as goal

-- what is left from path j on: its key and those behind it, and the D bytes
abbrev pub Left : List ℕ → Entry → ℕ → List ℕ
Left part e j = keys_in part (drop j (paths_of e)) ++ run part e.body e.room

abbrev pub invariant-loop-j : goal.invariant-loop-j
invariant-loop-j l =
    (l.at ≡ area_key_place l.e l.j) × (length l.area ≡ length l.initial.area) × (splice l.area l.at (Left l.part l.e l.j) ≡ splice l.initial.area 0 (Left l.part l.e 0))
