-- `areas::read_master` meets its contract: the key and the D bytes of the record's part, stored into the whole area, are the area.
-- Assumes nothing.
use mathlib.Core.Path.{◌∙◌}
use native.Mathlib.Omega.{arith}
use borrow.Author.Tests.{eq-eqb}
use Rattle.records.proofs.RecordLaws.{part-is, whole-inside}
use Rattle.records.proofs.AreaLaws.{master-area}
use Rattle.areas.proofs.read_master.Goals as goal

pub copy_part-requires-clause-n_in_bounds_2 : goal.copy_part-requires-clause-n_in_bounds_2
copy_part-requires-clause-n_in_bounds_2 c =
    let a = c.args in
    omega (arith, c.bytes-part.ensures.len, c.args.record.now.lies_in.sized, c.requires.fields.key (eq-eqb _ _ c.requires.kind_value))

pub copy_part-requires-2-clause-n_in_bounds_2 : goal.copy_part-requires-2-clause-n_in_bounds_2
copy_part-requires-2-clause-n_in_bounds_2 c =
    let a = c.args in
    omega (arith, c.bytes-part.ensures.len, c.args.record.now.lies_in.sized)

pub returns : goal.returns
returns c =
    let a = c.args in
    rw (c.copy_part-2.ensures, c.copy_part.ensures, c.bytes-part.ensures.value ∙ part-is a.record.now.base.now a.record.now.entry.now a.record.now.number.0 c.args.record.now.lies_in)
    (master-area a.record.now.base.now a.record.now.entry.now a.record.now.number.0 c.requires.fields (whole-inside a.record.now.number.0 c.args.record.now.lies_in c.args.record.now.in_set) a.area.now c.requires.area_len (eq-eqb _ _ c.requires.kind_value))
