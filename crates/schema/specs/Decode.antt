-- What a schema's bytes say, as the value that the code keeps: each field is a definition of Fields or Layout.
use Rattle.std.specs.Prelude.{ℕ, ◌+◌, cond, List, Option, Some, None, [], ◌∷◌, ltb, get_or, take, replicate}
use Rattle.octets.specs.Octets.{byte_at, word_at}
use Rattle.octets.specs.Below.{upto}
use Rattle.schema.specs.Fields.{edition_of, masters_of, variables_of, sets_of, entry_at, slot_at, kind_of, count_of, room_of, records_of, key_length_of, master_of, is_path}
use Rattle.schema.specs.Layout.{path_key_length, key_place, link_place, body_place, length_of, per_block, first_block, total_blocks, keeps_rules}
use Rattle.schema.specs.declared.Path.{Path}
use Rattle.schema.specs.declared.Entry.{Entry}
use Rattle.schema.specs.declared.Schema.{Schema}

-- a slot and an entry with nothing in them
abbrev pub empty_path : Path
empty_path = record { letters = 0 ∷ 0 ∷ []; master = record { 0 = 0 }; len = 0; at = 0; link = 0 }

abbrev pub empty_entry : Entry
empty_entry =
    record {
      name = 0;
      kind = 0;
      count = 0;
      room = 0;
      records = 0;
      key = 0;
      edition = 0;
      per = 0;
      size = 0;
      body = 0;
      first = record { 0 = 0 };
      paths = replicate 4 empty_path;
    }

-- what the logic reads past an array's end: zeros, and no elements
abbrev pub no_path : Path
no_path = record { letters = []; master = record { 0 = 0 }; len = 0; at = 0; link = 0 }

abbrev pub no_entry : Entry
no_entry =
    record {
      name = 0;
      kind = 0;
      count = 0;
      room = 0;
      records = 0;
      key = 0;
      edition = 0;
      per = 0;
      size = 0;
      body = 0;
      first = record { 0 = 0 };
      paths = [];
    }

-- set i of a schema, path j of a set, and the paths of a set in slot order
abbrev pub entry_of : Schema → ℕ → Entry
entry_of t i = get_or t.entries i no_entry

abbrev pub path_of : Entry → ℕ → Path
path_of e j = get_or e.paths j no_path

abbrev pub paths_of : Entry → List Path
paths_of e = take e.count e.paths

-- how many sets a schema has
abbrev pub set_count : Schema → ℕ
set_count t = t.masters + t.variables

-- path j of set i, where slot j holds one; every slot of a set
abbrev pub full_path : List ℕ → ℕ → ℕ → Path
full_path s i j =
    record {
      letters = byte_at s (slot_at i j) ∷ byte_at s (slot_at i j + 1) ∷ [];
      master = record { 0 = master_of s i j };
      len = path_key_length s i j;
      at = key_place s i j;
      link = link_place s i j;
    }

unfoldable pub path_from : List ℕ → ℕ → ℕ → Path
path_from s i j = cond (is_path s i j) (full_path s i j) empty_path

-- set i, where there is one; every entry
abbrev pub full_entry : List ℕ → ℕ → Entry
full_entry s i =
    record {
      name = word_at s (entry_at i);
      kind = kind_of s i;
      count = count_of s i;
      room = room_of s i;
      records = records_of s i;
      key = key_length_of s i;
      edition = edition_of s;
      per = per_block s i;
      size = length_of s i;
      body = body_place s i;
      first = record { 0 = first_block s i };
      paths = upto (path_from s i) 4;
    }

unfoldable pub entry_from : List ℕ → ℕ → Entry
entry_from s i = cond (ltb i (sets_of s)) (full_entry s i) empty_entry

-- the whole schema
unfoldable pub schema_of : List ℕ → Schema
schema_of s =
    record {
      edition = edition_of s;
      masters = masters_of s;
      variables = variables_of s;
      blocks = total_blocks s;
      entries = upto (entry_from s) 8;
    }

-- the answer of decoding, on every buffer of every length: what the schema says, where it keeps every rule
unfoldable pub decoded_schema : List ℕ → Option Schema
decoded_schema s = cond (keeps_rules s) (Some (schema_of s)) None

-- the set of path k's masters
abbrev pub masters_on : Schema → Entry → ℕ → Entry
masters_on t e k = entry_of t (path_of e k).master.0
