-- `forms::same_stored_key` meets its contract: the key of a path lies in front of the record's D bytes.
use Rattle.std.proofs.Common.{ap, ◌∙◌, arith}
use Rattle.schema.specs.declared.Entry.{Entry}
use Rattle.schema.specs.declared.Path.{Path}
use Rattle.records.proofs.AreaLaws.{path_inside}
use Rattle.forms.proofs.same_stored_key.Goals as goal

pub key_is-requires : goal.key_is-requires
key_is-requires c =
    let s = c.args.area.now in (
      omega (arith, c.of.ensures.1, c.key_on.ensures.len),
      omega (
        arith,
        c.of.ensures.1,
        c.key_on.ensures.len,
        c.from.ensures ∙ ap (λ (p : Path). p.at) c.path_of-p.ensures,
        path_inside s.entry.now s.fields c.requires.among.0 c.args.j c.requires.among.1,
        c.args.record.now.lies_in.sized,
        ap (λ (e : Entry). e.size) c.requires.entry,
        ap (λ (e : Entry). e.body) c.requires.entry,
      ),
    )
