use Rattle.std.proofs.Common.{ap, ◌∙◌, length}
use Rattle.schema.proofs.PlaceLaws.{record_length}
use Rattle.records.proofs.held.Record.bytes.Goals as goal

pub returns-clause-len : goal.returns-clause-len
returns-clause-len c =
    let s = c.args.self.now in
    ap length c.record_of.ensures ∙ record_length s.base.now s.entry.now s.number.0 s.lies_in s.in_set
