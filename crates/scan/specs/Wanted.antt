-- What a scan looks for.
use Rattle.std.specs.Prelude.{ℕ, ◌+◌, ◌*◌, ◌-◌, Bool, true, false, not, List, eqb}
use Rattle.octets.specs.Octets.{byte_at}
use Rattle.octets.specs.Below.{lowest_from}
use Rattle.schema.specs.declared.Entry.{Entry}
use Rattle.records.specs.Records.{is_live}

-- is a record that is live, or is not, one that is asked for: a live one, or a free one?
abbrev pub is_wanted : Bool → Bool → Bool
is_wanted true live = live
is_wanted false live = not live

-- the record r; and record j of those that lie one behind the other, `size` bytes each
abbrev pub wanted : Bool → List ℕ → Entry → ℕ → Bool
wanted live b e r = is_wanted live (is_live b e r)

abbrev pub wanted_in : Bool → List ℕ → ℕ → ℕ → Bool
wanted_in live records size j = is_wanted live (eqb (byte_at records (j * size)) 1)

-- the lowest-numbered of them above q; R + 1 where there is none
abbrev pub wanted_above : Bool → List ℕ → Entry → ℕ → ℕ
wanted_above live b e q = lowest_from (wanted live b e) (e.records - q) (q + 1)
