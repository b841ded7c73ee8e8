-- `areas::area_key_place` meets its contract. The loop's invariant: `at` is the place of path k's key, and at most 255 for each path
-- passed, so that no sum wraps. Assumes nothing.
use Prim.Native.Nat.{◌*◌, ◌≤◌}
use mathlib.Core.Path.{◌≡◌}
use Rattle.records.specs.Areas.{area_key_place}
use Rattle.areas.proofs.area_key_place.Given as goal

abbrev pub invariant-loop-k : goal.invariant-loop-k
invariant-loop-k l = (l.at ≡ area_key_place l.e l.k) × (l.at ≤ 255 * l.k)
