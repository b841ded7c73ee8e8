-- `areas::area_length` meets its contract: the keys are no more than the places in front of the D bytes, so the sum fits. Assumes nothing.
use native.Mathlib.Omega.{arith}
use Rattle.records.proofs.AreaLaws.{keys_inside}
use Rattle.areas.proofs.area_length.Goals as goal

pub overflow_add-result : goal.overflow_add-result
overflow_add-result c = omega (arith, keys_inside c.args.e c.requires)
