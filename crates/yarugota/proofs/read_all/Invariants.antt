use Rattle.std.proofs.Common.{◌≡◌, ◌≤◌, ℕ, List, length}
use Rattle.std.specs.Io.KnownBytes.{Appends, Consumes}
use Rattle.console.specs.Session.{begun, bytes_taken, StandsAt}
use Rattle.yarugota.specs.Printed.{bytes_printed}
use Rattle.yarugota.proofs.read_all.Given as goal

-- the program stands where some bytes lead, each turn but the last has read one at least, and what they ask for is written
abbrev pub invariant-loop-turn : goal.invariant-loop-turn
invariant-loop-turn g l = record {
  kept : l.progress.len ≤ 129;
  line : length l.line ≡ 129;
  stands : (bytes : List ℕ) × StandsAt (bytes_taken l.schema (begun l.initial.base) bytes) l.progress.number l.progress.len l.line l.base
      × Appends (g.W.Write.contents l.initial.to) (g.W.Write.contents l.to) (bytes_printed l.schema (begun l.initial.base) bytes)
      × Consumes (g.R.Read.remaining l.initial.from) (g.R.Read.remaining l.from) bytes
      × (l._turn ≤ length bytes);
}
