-- What is asked of a path, and of a set's paths, before their names are compared: the words of this room's contracts.
use Rattle.std.specs.Prelude.{ℕ, ◌<◌, ◌≤◌, ◌≡◌, length}
use Rattle.schema.specs.declared.Path.{Path}
use Rattle.schema.specs.declared.Entry.{Entry}
use Rattle.schema.specs.declared.Schema.{Schema}
use Rattle.schema.specs.Decode.{path_of}

-- the path has its two letters and leads to an entry
pub record Named (t : Schema) (p : Path) : Type 0 where
  pub master : p.master.0 < 8
  pub letters : length p.letters ≡ 2
  pub eight : length t.entries ≡ 8

pub record LeadsToMasters (t : Schema) (e : Entry) : Type 0 where
  pub few : e.count ≤ 4
  pub four : length e.paths ≡ 4
  pub named : (j : ℕ) → j < e.count → Named t (path_of e j)
