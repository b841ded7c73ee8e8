-- Keys and references.
use Rattle.std.specs.Prelude.{ℕ, ◌+◌, ◌*◌, ◌-◌, ◌%◌, List, ◌++◌, length, take}
use Rattle.octets.specs.Octets.{word_sum, zeros}
use Rattle.terms.specs.declared.Key.{Key}

-- the bytes of a key: the first `len` of its array
abbrev pub key_of : Key → List ℕ
key_of k = take k.len k.bytes

-- the key of these bytes: zeros stand behind them in the array
abbrev pub key_from : List ℕ → Key
key_from s = record { bytes = s ++ zeros (16 - length s); len = length s }

-- "home = 1 + (wrapping 32-bit sum of the key's words) mod R" (Where masters live)
abbrev pub home_of : ℕ → List ℕ → ℕ
home_of records key = 1 + word_sum key % records

-- "END. is 0x454E442E and LKxx is its four characters" (Chains)
abbrev pub end_ref : ℕ
end_ref = 0x454E442E

-- LK, then the two letters of a path
abbrev pub link_ref : ℕ → ℕ → ℕ
link_ref a b = 0x4C4B0000 + a * 256 + b
