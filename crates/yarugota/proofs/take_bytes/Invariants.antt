use Rattle.std.proofs.Common.{◌≡◌, ◌≤◌, length, take}
use Rattle.std.specs.Io.KnownBytes.{Appends}
use Rattle.console.specs.Session.{Stand, StandsAt, bytes_taken, Leads}
use Rattle.yarugota.specs.Printed.{bytes_printed}
use Rattle.yarugota.proofs.take_bytes.Given as goal

-- the program stands where the bytes passed lead, and what they ask for is written
abbrev pub invariant-loop-byte : goal.invariant-loop-byte
invariant-loop-byte g l = record {
  in_range : l.byte-index ≤ length l.bytes;
  kept : l.at.len ≤ 129;
  line : length l.line ≡ 129;
  leads : Leads (λ s. bytes_taken l.schema s (take l.byte-index l.bytes)) l.initial.at.number l.initial.at.len l.initial.line l.initial.base l.at.number l.at.len l.line l.base;
  written : (s : Stand) → StandsAt s l.initial.at.number l.initial.at.len l.initial.line l.initial.base → Appends (g.W.Write.contents l.initial.to) (g.W.Write.contents l.to) (bytes_printed l.schema s (take l.byte-index l.bytes));
}
