-- How the fields of a record stand one behind the other: what reading and making areas stands on. AreaLaws proves it of every set of a decoded
-- schema.
use Rattle.std.specs.Prelude.{ℕ, ◌+◌, ◌≤◌, ◌<◌, ◌≡◌, true, false, length}
use Rattle.octets.specs.Below.{sum_below}
use Rattle.schema.specs.declared.Entry.{Entry}
use Rattle.schema.specs.Decode.{path_of}
use Rattle.records.specs.Areas.{is_master}

-- where path j's fields begin in a variable record: behind the state, the three zeros and the fields of the paths before it
unfoldable pub path_place : Entry → ℕ → ℕ
path_place e j = 4 + sum_below (λ k. (path_of e k).len + 8) j

-- every set of a decoded schema has this: the key and the linkage of a master stand in front of its D bytes; the paths' fields of a variable
-- stand one behind the other, and its D bytes behind them; no key is longer than 16 bytes
pub record Fields (e : Entry) : Type 0 where
  pub few : e.count ≤ 4
  pub four : length e.paths ≡ 4
  pub key : is_master e ≡ true → 12 + e.key ≤ e.body
  pub packed : (j : ℕ) → j < e.count → (path_of e j).at ≡ path_place e j
  pub behind : is_master e ≡ false → path_place e e.count ≡ e.body
  pub short : e.key ≤ 16
  pub shorts : (j : ℕ) → j < e.count → (path_of e j).len ≤ 16
