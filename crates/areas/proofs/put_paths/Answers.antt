use Prim.Native.Nat.{◌+◌, ◌-◌, ◌<◌}
use mathlib.Core.Path.{◌≡◌, refl, sym, ap, ◌∙◌}
use native.Mathlib.Omega.{arith}
use Rattle.schema.specs.declared.Path.{Path}
use Rattle.records.proofs.AreaLaws.{path_place-first, path_place-turn, path_inside}
use Rattle.records.specs.Fields.{path_place}
use Rattle.records.proofs.NewLaws.{paths-turn, paths_end}
use Rattle.areas.proofs.put_paths.Goals as goal

pub loop-j-init : goal.loop-j-init
loop-j-init c =
    let e = c.args.area.now.entry.now in
    let n : e.count - 0 ≡ e.count = omega arith in
    (refl, rw (path_place-first e, n) refl)

pub put_path-requires : goal.put_path-requires
put_path-requires c =
    let s = c.args.area.now in
    omega (
      arith,
      c.key_on.ensures.len,
      ap (λ (p : Path). p.at) c.path_of-p.ensures,
      path_inside s.entry.now s.fields c.requires.e_value c.loop-j.j (omega arith),
      c.loop-j.invariant.0,
      c.requires.part_len,
    )

pub loop-j-preserved : goal.loop-j-preserved
loop-j-preserved c =
    let s = c.args.area.now in
    let e = s.entry.now in
    let j = c.loop-j.j in
    let i = c.loop-j.invariant in
    let h : j < e.count = omega arith in (
      c.put_path.auto.part ∙ i.0,
      rw (c.put_path.ensures, c.key_on.ensures.value, c.path_of-p.ensures, s.fields.packed j h, path_place-turn e j)
          (paths-turn e c.args.links s.bytes.now s.fields c.requires.e_value s.sized c.loop-j.part (path_place e j) (e.count - j) (e.count - (j + 1)) j (omega arith) h ∙ i.1),
    )

pub returns : goal.returns
returns c =
    let s = c.args.area.now in
    let e = s.entry.now in
    sym (paths_end e c.args.links s.bytes.now s.fields c.requires.e_value s.sized c.loop-j.part (path_place e c.loop-j.j) (e.count - c.loop-j.j) c.loop-j.j (omega arith)) ∙ c.loop-j.invariant.1
