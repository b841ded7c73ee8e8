-- `names::is_named` meets its contract: a name of another length or of another master is not the path's, and then LKxx decides.
use Prim.Native.Nat.{◌<◌}
use mathlib.Core.Path.{◌≡◌, sym, ap, ◌∙◌}
use Rattle.schema.specs.declared.Entry.{Entry}
use Rattle.schema.specs.Decode.{entry_of}
use Rattle.names.specs.NameLaws.{other_length, other_master-name, by-link}
use borrow.Author.Rules.{rules}
use Rattle.names.proofs.is_named.Goals as goal

pub returns-then-name-ne8 : goal.returns-then-name-ne8
returns-then-name-ne8 c =
    sym (other_length _ c.args.p.letters c.args.name.now c.requires.letters c.if-name-ne8.true)

pub returns-then-master-mmmm : goal.returns-then-master-mmmm
returns-then-master-mmmm c =
    let l : c.entry_of-x.result.name < 4294967296 = search rules in
    sym (rw c.entry_of-x.ensures at
    (other_master-name c.entry_of-x.result.name c.args.p.letters c.args.name.now l (λ e. c.if-master-mmmm.true (e ∙ sym c.word-mmmm.ensures))))

pub returns : goal.returns
returns c =
    let a = c.args in
    let l = c.reference-link.ensures in
    let e : c.entry_of-x.result.name ≡ (entry_of a.t a.p.master.0).name = ap (λ (y : Entry). y.name) c.entry_of-x.ensures in
    let m = sym e ∙ c.if-master-mmmm.false ∙ c.word-mmmm.ensures in
    rw (c.word.ensures, l.0)
    (by-link _ a.p.letters a.name.now c.requires.letters c.if-name-ne8.false (λ i. (c.type_inv.name i).fits) m l.1 l.2)
