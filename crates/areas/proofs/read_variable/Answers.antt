use Prim.Native.Nat.{◌<◌}
use mathlib.Core.Path.{refl, sym, ap, ◌∙◌}
use native.Mathlib.Omega.{arith}
use Rattle.octets.specs.Octets.{run}
use Rattle.schema.specs.declared.Path.{Path}
use Rattle.records.proofs.RecordLaws.{part-is, whole-inside}
use Rattle.records.proofs.AreaLaws.{area-key-first, area-key-turn, area-key-inside, keys_inside, path_inside, variable_keys, keys_turn, keys_end, variable-area}
use Rattle.areas.proofs.read_variable.Goals as goal

pub loop-j-init : goal.loop-j-init
loop-j-init c = (sym (area-key-first c.args.record.now.entry.now), refl, refl)

pub copy_part-requires-clause-n_in_bounds : goal.copy_part-requires-clause-n_in_bounds
copy_part-requires-clause-n_in_bounds c =
    let e = c.args.record.now.entry.now in
    omega (arith, c.loop-j.invariant, area-key-inside e c.loop-j.j e.count (omega arith), variable_keys e c.requires.e_value, c.requires.area_len, ap (λ (p : Path). p.len) c.path_of-p.ensures)

pub copy_part-requires-clause-n_in_bounds_2 : goal.copy_part-requires-clause-n_in_bounds_2
copy_part-requires-clause-n_in_bounds_2 c =
    let a = c.args in
    omega (
      arith,
      c.bytes-part.ensures.len,
      c.args.record.now.lies_in.sized,
      path_inside a.record.now.entry.now c.requires.fields c.requires.e_value c.loop-j.j (omega arith),
      ap (λ (p : Path). p.len) c.path_of-p.ensures,
      ap (λ (p : Path). p.at) c.path_of-p.ensures,
    )

pub overflow_add-at : goal.overflow_add-at
overflow_add-at c =
    let e = c.args.record.now.entry.now in
    omega (
      arith,
      c.loop-j.invariant,
      area-key-inside e c.loop-j.j e.count (omega arith),
      variable_keys e c.requires.e_value,
      keys_inside e c.requires.fields,
      whole-inside c.args.record.now.number.0 c.args.record.now.lies_in c.args.record.now.in_set,
      c.args.record.now.lies_in.small,
      ap (λ (p : Path). p.len) c.path_of-p.ensures,
    )

pub loop-j-preserved : goal.loop-j-preserved
loop-j-preserved c =
    let e = c.args.record.now.entry.now in
    let part = c.bytes-part.result.now in
    let h : c.loop-j.j < e.count = omega arith in (
      omega (arith, area-key-turn e c.loop-j.j, c.loop-j.invariant.0, ap (λ (p : Path). p.len) c.path_of-p.ensures),
      c.copy_part.auto.dst ∙ c.loop-j.invariant.1,
      rw (c.copy_part.ensures, c.path_of-p.ensures)
          (keys_turn e c.requires.fields part c.loop-j.area (run part e.body e.room) c.loop-j.at c.loop-j.j h
          (omega (
            arith,
            c.bytes-part.ensures.len,
            c.args.record.now.lies_in.sized,
            path_inside e c.requires.fields c.requires.e_value c.loop-j.j h,
          ))
          ∙ c.loop-j.invariant.2),
    )

pub copy_part-requires-2-clause-n_in_bounds_2 : goal.copy_part-requires-2-clause-n_in_bounds_2
copy_part-requires-2-clause-n_in_bounds_2 c =
    let a = c.args in
    omega (arith, c.bytes-part.ensures.len, c.args.record.now.lies_in.sized)

pub returns : goal.returns
returns c =
    let a = c.args in
    let part = c.bytes-part.result.now in
    rw c.copy_part-2.ensures
    (keys_end a.record.now.entry.now c.requires.fields part c.loop-j.area (run part a.record.now.entry.now.body a.record.now.entry.now.room) c.loop-j.at c.loop-j.j (omega arith)
    ∙ c.loop-j.invariant.2
    ∙ (rw (c.bytes-part.ensures.value ∙ part-is a.record.now.base.now a.record.now.entry.now a.record.now.number.0 c.args.record.now.lies_in)
    (variable-area a.record.now.base.now a.record.now.entry.now a.record.now.number.0 c.requires.fields (whole-inside a.record.now.number.0 c.args.record.now.lies_in c.args.record.now.in_set) a.area.now c.requires.area_len c.requires.e_value)))
