use Rattle.octets.specs.WordLaws.{word_at-part}
use Rattle.schema.specs.Place.{place_of}
use Rattle.records.proofs.held.Record.word.Goals as goal

pub returns : goal.returns
returns c =
    let s = c.args.self.now in
    rw (c.word.ensures, c.bytes.ensures.value) (word_at-part (place_of s.entry.now s.number.0) s.entry.now.size s.base.now c.args.o c.requires)
