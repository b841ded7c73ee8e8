-- Document 01, "Where masters live" and "Chains": the lowest-numbered free record, and the next live one, of a set of either kind.
use Rattle.std.specs.Prelude.{ℕ, ◌+◌, ◌-◌, Bool, not, List, ltb}
use Rattle.octets.specs.Below.{lowest_from}
use Rattle.schema.specs.declared.Entry.{Entry}
use Rattle.records.specs.Records.{is_live}

-- "the lowest-numbered free record"; R + 1 where there is none
unfoldable pub lowest_free : List ℕ → Entry → ℕ
lowest_free b e = lowest_from (λ r. not (is_live b e r)) e.records 1

-- "the next live one above the reference, 0 to begin"; R + 1 where there is none
abbrev pub next_live : List ℕ → Entry → ℕ → ℕ
next_live b e r = lowest_from (is_live b e) (e.records - r) (r + 1)

-- "no free record in the set"
abbrev pub is_full : List ℕ → Entry → Bool
is_full b e = ltb e.records (lowest_free b e)
