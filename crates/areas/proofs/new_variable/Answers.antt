-- `areas::new_variable` meets its contract: the fields, stored one behind the other, are one splice. Assumes nothing.
use native.Mathlib.Omega.{arith}
use Rattle.records.proofs.AreaLaws.{head_inside}
use Rattle.records.proofs.NewLaws.{variable-made}
use Rattle.areas.proofs.new_variable.Goals as goal

pub put_word-requires : goal.put_word-requires
put_word-requires c = omega (arith, head_inside c.args.area.now.entry.now c.args.area.now.fields c.requires.e_value)

pub returns : goal.returns
returns c =
    let s = c.args.area.now in
    rw (c.copy_in.ensures, c.body.ensures.value, c.put_paths.ensures, c.put_word.ensures)
    (variable-made s.entry.now c.args.links s.bytes.now s.fields c.requires.e_value s.sized c.args.part.now)
