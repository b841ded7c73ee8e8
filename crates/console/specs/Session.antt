-- The whole program as a function from what is read to what is printed, byte by byte.
use Rattle.std.specs.Prelude.{ℕ, ◌+◌, ◌%◌, ◌≡◌, cond, List, [], ◌∷◌, ◌++◌, eqb, length}
use Rattle.console.specs.Console.{Reply, responded, KeptLine}

-- where the program stands: the number of the line that is being read, the bytes of it that are read, and the data base
pub record Stand : Type 0 where
  pub number : ℕ
  pub line : List ℕ
  pub base : List ℕ

-- before the first byte
abbrev pub begun : List ℕ → Stand
begun base = record { number = 1; line = []; base = base }

-- the line as it stands, taken for a whole one
abbrev pub line_reply : List ℕ → Stand → Reply
line_reply schema s = responded s.number s.line schema s.base

-- one byte more. A newline, 0x0A, ends a line; the lines are counted in 64 bits
abbrev pub byte_taken : List ℕ → Stand → ℕ → Stand
byte_taken schema s x =
    cond (eqb x 10)
    (record { number = (s.number + 1) % 18446744073709551616; line = []; base = (line_reply schema s).base })
    (record { number = s.number; line = s.line ++ (x ∷ []); base = s.base })

unfoldable pub bytes_taken : List ℕ → Stand → List ℕ → Stand
bytes_taken schema s [] = s
bytes_taken schema s (x ∷ xs) = bytes_taken schema (byte_taken schema s x) xs

-- at the end of the input: a last line without newline counts, and nothing after the last newline is no line
abbrev pub last_reply : List ℕ → Stand → Reply
last_reply schema s = cond (eqb (length s.line) 0) (record { printed = []; base = s.base }) (line_reply schema s)

-- what is printed for the bytes that are still to be read
unfoldable pub session : List ℕ → Stand → List ℕ → List ℕ
session schema s [] = (last_reply schema s).printed
session schema s (x ∷ xs) = cond (eqb x 10) (line_reply schema s).printed [] ++ session schema (byte_taken schema s x) xs

-- the program stands there: this number, as many bytes kept of the line in this buffer, and this data base
pub record StandsAt (s : Stand) (n len : ℕ) (buffer b : List ℕ) : Type 0 where
  pub number : n ≡ s.number
  pub line : KeptLine len buffer s.line
  pub base : b ≡ s.base

-- from wherever the program may stand so, f leads to where it stands then
abbrev pub Leads : (Stand → Stand) → ℕ → ℕ → List ℕ → List ℕ → ℕ → ℕ → List ℕ → List ℕ → Type 0
Leads f n len buffer b next more kept after = (s : Stand) → StandsAt s n len buffer b → StandsAt (f s) next more kept after
