-- What the program prints: for each byte that it takes, and for a whole input.
use Rattle.std.specs.Prelude.{ℕ, cond, List, [], ◌∷◌, ◌++◌, eqb}
use Rattle.octets.specs.Octets.{zeros}
use Rattle.calls.specs.Outcome.{outcome}
use Rattle.cases.specs.Small.{small_schema}
use Rattle.console.specs.Console.{format_call}
use Rattle.console.specs.Session.{Stand, begun, line_reply, byte_taken, session}

-- a newline's line is answered
abbrev pub byte_printed : List ℕ → Stand → ℕ → List ℕ
byte_printed schema s x = cond (eqb x 10) (line_reply schema s).printed []

unfoldable pub bytes_printed : List ℕ → Stand → List ℕ → List ℕ
bytes_printed schema s [] = []
bytes_printed schema s (x ∷ xs) = byte_printed schema s x ++ bytes_printed schema (byte_taken schema s x) xs

-- "A program formats this store" and makes each line's call
abbrev pub small_session : List ℕ → List ℕ
small_session input = session (small_schema 6) (begun (outcome (format_call (small_schema 6) (zeros 1024))).base) input
