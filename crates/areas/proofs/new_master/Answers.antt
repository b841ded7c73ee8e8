-- `areas::new_master` meets its contract: the fields, stored one behind the other, are one splice. Assumes nothing.
use borrow.Author.Tests.{eq-eqb}
use Rattle.records.proofs.AreaLaws.{master_keys}
use Rattle.records.proofs.NewLaws.{master-made}
use Rattle.areas.proofs.new_master.Goals as goal

pub returns : goal.returns
returns c =
    let s = c.args.area.now in
    let m = eq-eqb _ _ c.requires.kind_value in
    rw (c.copy_in-2.ensures, c.body.ensures.value, master_keys s.entry.now m, c.zero.ensures, c.copy_in.ensures, c.master_key.ensures.value, c.put_word-3.ensures, c.put_word-2.ensures, c.put_word.ensures)
    (master-made s.entry.now c.args.root s.bytes.now m (s.fields.key m) s.sized c.args.part.now)
