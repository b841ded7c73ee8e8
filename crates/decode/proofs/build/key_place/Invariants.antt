-- `decode::build::key_place` meets its contract. The invariant: where path k's key stands, with a bound that fits.
use Prim.Native.Nat.{◌+◌, ◌*◌, ◌≤◌}
use mathlib.Core.Path.{◌≡◌}
use Rattle.schema.specs.Layout.{key_place}
use Rattle.decode.proofs.build.key_place.Given as goal

abbrev pub invariant-loop-k : goal.invariant-loop-k
invariant-loop-k l = (l.at ≡ key_place l.s l.i l.k) × (l.at ≤ 4 + 263 * l.k)
