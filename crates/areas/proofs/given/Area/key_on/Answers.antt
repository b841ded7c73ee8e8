-- `areas::given::Area::key_on` meets its contract: the key of a path lies within the area's keys. Assumes nothing.
use mathlib.Core.Path.{◌≡◌, ap}
use mathlib.Core.Bool.{false}
use native.Mathlib.Omega.{arith}
use Prim.Native.Nat.{ℕ, ◌+◌, ◌<◌, ◌≤◌}
use Rattle.schema.specs.declared.Entry.{Entry}
use Rattle.schema.specs.declared.Path.{Path}
use Rattle.schema.specs.Decode.{path_of}
use Rattle.records.specs.Areas.{is_master, area_key_place, area_length}
use Rattle.records.proofs.AreaLaws.{area-key-inside, variable_keys}
use Rattle.areas.proofs.given.Area.key_on.Goals as goal

inside : (e : Entry) (j : ℕ) → is_master e ≡ false → j < e.count → area_key_place e j + (path_of e j).len ≤ area_length e
inside e j v h = omega (arith, area-key-inside e j e.count h, variable_keys e v)

pub overflow_add-result : goal.overflow_add-result
overflow_add-result c =
    let s = c.args.self.now in
    omega (arith, c.area_key_place-at.ensures, ap (λ (p : Path). p.len) c.path_of-len.ensures, inside s.entry.now c.args.j c.requires.0 c.requires.1, s.sized)

pub slice_bounds-result-end : goal.slice_bounds-result-end
slice_bounds-result-end c =
    let s = c.args.self.now in
    omega (arith, c.area_key_place-at.ensures, ap (λ (p : Path). p.len) c.path_of-len.ensures, inside s.entry.now c.args.j c.requires.0 c.requires.1, s.sized)
