-- Document 01, "Chains" and "The final 16": one path of one variable set. `e` is the variable set, `p` the path, `x` the set of its
-- masters, `m` the record of the master there. A master's first and last are the ends of its chain.
use Rattle.std.specs.Prelude.{ℕ, ◌+◌, Bool, cond, not, ◌&&◌, ◌||◌, List, [], ◌∷◌, eqb}
use Rattle.std.specs.Bool.{xor}
use Rattle.octets.specs.Octets.{same_bytes}
use Rattle.octets.specs.Below.{all_below}
use Rattle.schema.specs.declared.Path.{Path}
use Rattle.schema.specs.declared.Entry.{Entry}
use Rattle.schema.specs.declared.Schema.{Schema}
use Rattle.schema.specs.Decode.{entry_of, path_of, set_count}
use Rattle.schema.specs.Place.{in_set}
use Rattle.records.specs.declared.Link.{Link}
use Rattle.records.specs.Records.{is_live, first_on, last_on, key_on}
use Rattle.plans.specs.Plan.{Store, store_word}

-- the record r is live and has this key on the path
abbrev pub is_point_of : List ℕ → Entry → Path → List ℕ → ℕ → Bool
is_point_of b e p key r = is_live b e r && same_bytes (key_on b e r p) key

-- "a neighbour pointer the call uses is not 0 and is above R, not live, or (variable) of another key on that path"
abbrev pub bad_neighbour : List ℕ → Entry → Path → List ℕ → ℕ → Bool
bad_neighbour b e p key n = not (eqb n 0) && not (in_set e n && is_point_of b e p key n)

-- "first and last are one 0 and one not"
abbrev pub uneven_ends : List ℕ → Entry → ℕ → Path → Bool
uneven_ends b x m p = xor (eqb (first_on b x m p) 0) (eqb (last_on b x m p) 0)

-- READV and READR: "first and last are one 0 and one not, tested .. on the named path .. with LKxx"; "Pointers used: READV first or next,
-- READR last or prior"
unfoldable pub read_damaged : List ℕ → Entry → Path → Entry → ℕ → List ℕ → Bool → ℕ → Bool
read_damaged b e p x m key linked n = linked && uneven_ends b x m p || bad_neighbour b e p key n

-- "prior's side": what points forward to this place, next of the record before it or the master's first, becomes v
abbrev pub prior_side : Entry → Path → Entry → ℕ → ℕ → ℕ → Store
prior_side e p x m prior v = cond (eqb prior 0) (store_word x m p.link v) (store_word e prior (p.at + p.len + 4) v)

-- "next's side": what points back to this place, prior of the record after it or the master's last, becomes v
abbrev pub next_side : Entry → Path → Entry → ℕ → ℕ → ℕ → Store
next_side e p x m next v = cond (eqb next 0) (store_word x m (p.link + 4) v) (store_word e next (p.at + p.len) v)

-- a new record r goes between its two neighbours; a record leaves, and its neighbours become each other's
abbrev pub link_between : Entry → Path → Entry → ℕ → Link → ℕ → List Store
link_between e p x m l r = prior_side e p x m l.prior r ∷ next_side e p x m l.next r ∷ []

abbrev pub unlink_from : Entry → Path → Entry → ℕ → Link → List Store
unlink_from e p x m l = prior_side e p x m l.prior l.next ∷ next_side e p x m l.next l.prior ∷ []

-- 14: "master has a first or last not 0": of any path to it, over all sets. `n` is the entry number of the master set, `r` the master.
unfoldable pub has_points : Schema → List ℕ → ℕ → ℕ → Bool
has_points t b n r =
    not (all_below (λ i. all_below (λ j.
    not (eqb (path_of (entry_of t i) j).master.0 n)
    || eqb (first_on b (entry_of t n) r (path_of (entry_of t i) j)) 0 && eqb (last_on b (entry_of t n) r (path_of (entry_of t i) j)) 0)
    (entry_of t i).count) (set_count t))
