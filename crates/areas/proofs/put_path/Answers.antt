-- `areas::put_path` meets its contract: the key and the two words, stored one behind the other, are one splice. Assumes nothing.
use mathlib.Core.Path.{refl}
use Rattle.records.proofs.NewLaws.{path_made}
use Rattle.areas.proofs.put_path.Goals as goal

pub returns : goal.returns
returns c =
    let a = c.args in
    rw (c.put_word-2.ensures, c.put_word.ensures, c.copy_in.ensures) (path_made a.part.now a.at a.key.now _ a.link.prior a.link.next refl)
