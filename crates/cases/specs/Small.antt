-- Document 01, "Small store, worked": the schema of the small store, and its calls.
use Rattle.std.specs.Prelude.{ℕ, ◌-◌, List, ◌∷◌, ◌++◌, length}
use Rattle.octets.specs.Octets.{word_bytes, zeros}
use Rattle.octets.specs.Text.{text}
use Rattle.blocks.specs.declared.Check.TheVariants.{Sum}
use Rattle.blocks.specs.Blocks.{seal}
use Rattle.calls.specs.Call.{Call}

-- a schema of one master set and one variable set, before its check is set; the eight entries end at 400
unfoldable pub two_sets : List ℕ → List ℕ → List ℕ
two_sets a b = 1 ∷ 1 ∷ 1 ∷ zeros 13 ++ (a ++ (b ++ zeros (496 - length a - length b)))

-- "BOTL: K 4, D 4, R 5."
abbrev pub botl : List ℕ
botl = text "BOTL" ++ (1 ∷ 0 ∷ 0 ∷ 4 ∷ word_bytes 5 ++ (4 ∷ 0 ∷ 0 ∷ 0 ∷ zeros 32))

-- "PNTS: D 4, R 6, one path BOTLLKPT.", with any R
abbrev pub pnts : ℕ → List ℕ
pnts r = text "PNTS" ++ (2 ∷ 1 ∷ 0 ∷ 4 ∷ word_bytes r ++ (zeros 4 ++ (text "PT" ++ zeros 30)))

unfoldable pub small_schema : ℕ → List ℕ
small_schema r = seal Sum (two_sets botl (pnts r)) 0

-- a call of the small store on a bottle; set and path that it does not need are blanks
unfoldable pub bottle_call : List ℕ → List ℕ → List ℕ → List ℕ → Call
bottle_call operation key area base =
    record {
      operation = operation;
      name = text "BOTL";
      reference = 0;
      path = text "        ";
      key = key;
      area = area;
      schema = small_schema 6;
      base = base;
    }
