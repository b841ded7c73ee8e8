-- How sets and paths are named: document 01, "The path is named mmmmLKxx, mmmm the master.", and the set and the path that a name leads to.
use Rattle.std.specs.Prelude.{ℕ, List, ◌++◌, eqb, get_or}
use Rattle.octets.specs.Octets.{word_at, word_bytes, same_bytes}
use Rattle.octets.specs.Below.{lowest}
use Rattle.octets.specs.Text.{text}
use Rattle.schema.specs.declared.Path.{Path}
use Rattle.schema.specs.declared.Entry.{Entry}
use Rattle.schema.specs.declared.Schema.{Schema}
use Rattle.schema.specs.Decode.{entry_of, path_of, set_count}
use Rattle.terms.specs.Terms.{link_ref}

-- the number of the set of that name, as its word and as its four characters; the number of sets where there is none
abbrev pub set_of : Schema → ℕ → ℕ
set_of t word = lowest (λ i. eqb (entry_of t i).name word) (set_count t)

unfoldable pub set_named : Schema → List ℕ → ℕ
set_named t name = set_of t (word_at name 0)

-- "The path is named mmmmLKxx, mmmm the master."
abbrev pub path_name : Schema → Path → List ℕ
path_name t p = word_bytes (entry_of t p.master.0).name ++ (text "LK" ++ p.letters)

-- the number of the path of that name in the set; its path count where there is none
unfoldable pub path_named : Schema → Entry → List ℕ → ℕ
path_named t e name = lowest (λ j. same_bytes (path_name t (path_of e j)) name) e.count

-- "LKxx is its four characters": that of the path
abbrev pub link_of : Path → ℕ
link_of p = link_ref (get_or p.letters 0 0) (get_or p.letters 1 0)
