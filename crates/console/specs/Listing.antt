-- Document 01's listing, over the definitions: what the program reads there and what it prints.
use Rattle.std.specs.Prelude.{ℕ, ◌≡◌, refl, List, [], ◌∷◌, ◌++◌}
use Prim.Native.String.{String}
use Rattle.octets.specs.Text.{text}
use Rattle.blocks.specs.declared.Check.TheVariants.{Sum}
use Rattle.plans.specs.Plan.{formatted}
use Rattle.calls.specs.Opened.{opened}
use Rattle.cases.specs.Small.{two_sets, small_schema}
use Rattle.console.specs.Lines.{end_of}
use Rattle.console.specs.References.{is_spelt, decimal_onto, digits_onto}
use Rattle.console.specs.Console.{fields_made, is_read, responded}
use Rattle.console.specs.Session.{begun, session}

-- each line with its newline
abbrev pub lines : List String → List ℕ
lines [] = []
lines (l ∷ ls) = text l ++ (10 ∷ lines ls)

abbrev pub listing : List String
listing =
    "ADD-M BOTL 0 - B001 B001NECK"
    ∷ "ADDVC PNTS LKPT BOTLLKPT B001 B001p001"
    ∷ "ADDVB PNTS 1 BOTLLKPT B001 B001p002"
    ∷ "READV PNTS LKPT BOTLLKPT B001 -"
    ∷ "READV PNTS 2 BOTLLKPT B001 -"
    ∷ "READV PNTS 1 BOTLLKPT B001 -"
    ∷ "READV PNTS END. BOTLLKPT B001 -"
    ∷ "DEL-M BOTL 0 - B001 -"
    ∷ []

abbrev pub listing_printed : List String
listing_printed =
    "1 **** 0 -"
    ∷ "2 **** 1 -"
    ∷ "3 **** 2 -"
    ∷ "4 **** 2 B001p002"
    ∷ "5 **** 1 B001p001"
    ∷ "6 **** END. -"
    ∷ "7 IVRP END. -"
    ∷ "8 IMDL 0 -"
    ∷ []

pub listing_prints : session (small_schema 6) (begun (formatted Sum 2)) (lines listing) ≡ lines listing_printed
unfolding opened two_sets small_schema end_of is_spelt decimal_onto digits_onto fields_made is_read responded session
listing_prints = refl
