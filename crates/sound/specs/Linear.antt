-- Sign-on's judgement in one pass over the data base: what the code computes. `LinearLaws` proves that it is `sound`.
-- A master is looked up by its own key: found in its own record, it is on its home's chain and no record before it has its key. Its ROOT next,
-- if any, must be of the same home and point back. A path's chain is ridden from first to last, each record pointing back to the one before
-- it; the chains of a path together have as many records as the set has live ones, so each live record is on the chain of its key.
use Rattle.std.specs.Prelude.{ℕ, zero, suc, ◌+◌, Bool, true, false, cond, not, ◌&&◌, ◌||◌, List, eqb}
use Rattle.octets.specs.Octets.{all_blank}
use Rattle.octets.specs.Below.{all_below, sum_below, count_below}
use Rattle.schema.specs.declared.Path.{Path}
use Rattle.schema.specs.declared.Entry.{Entry}
use Rattle.schema.specs.declared.Schema.{Schema}
use Rattle.schema.specs.Decode.{entry_of, path_of, set_count}
use Rattle.schema.specs.Place.{in_set}
use Rattle.records.specs.Records.{is_live, root_next, root_prior, master_key, first_on, last_on, prior_on, next_on}
use Rattle.records.specs.Areas.{is_master}
use Rattle.masters.specs.declared.Found.{Found}
use Rattle.masters.specs.Find.{find, is_at, record_found, own_home}
use Rattle.points.specs.Chains.{is_point_of}
use Rattle.sound.specs.Sound.{each_record, checks_true, set_clean}

-- ---- masters

-- the search ended at the record r
abbrev pub found_at : Found → ℕ → Bool
found_at f r = is_at f && eqb (record_found f) r

-- the record q is a live master of the home h
abbrev pub is_of_home : List ℕ → Entry → ℕ → ℕ → Bool
is_of_home b e h q = in_set e q && is_live b e q && eqb (own_home b e q) h

-- ROOT next of the record r is 0, or a master of the same home that points back to r
unfoldable pub next_answers : List ℕ → Entry → ℕ → Bool
next_answers b e r =
    eqb (root_next b e r) 0 || is_of_home b e (own_home b e r) (root_next b e r) && eqb (root_prior b e (root_next b e r)) r

-- at its home a master has no ROOT prior; another's is told by the master in front of it
unfoldable pub prior_ends : List ℕ → Entry → ℕ → Bool
prior_ends b e r = not (eqb r (own_home b e r)) || eqb (root_prior b e r) 0

unfoldable pub master_in_place : List ℕ → Entry → ℕ → Bool
master_in_place b e r =
    not (all_blank (master_key b e r)) && found_at (find b e (master_key b e r)) r && next_answers b e r && prior_ends b e r

unfoldable pub masters_in_place : List ℕ → Entry → Bool
masters_in_place b e = each_record e (λ r. not (is_live b e r) || master_in_place b e r)

-- ---- points

-- a ride along a chain: whether it came to 0 with every record in order, how many records it met, and the last of them
pub record Ride : Type 0 where
  pub ok : Bool
  pub count : ℕ
  pub last : ℕ

-- from r on, with p in front of it and n records met already; `fuel` more may be met
unfoldable pub ride : ℕ → (ℕ → Bool) → (ℕ → ℕ) → (ℕ → ℕ) → ℕ → ℕ → ℕ → Ride
ride zero good next prior n p r = record { ok = eqb r 0; count = n; last = p }
ride (suc fuel) good next prior n p r =
    cond (eqb r 0)
    (record { ok = true; count = n; last = p })
    (cond (good r && eqb (prior r) p)
    (ride fuel good next prior (n + 1) r (next r))
    (record { ok = false; count = n; last = p }))

-- the chain of path p of set e, for the master in record m of set x
unfoldable pub path_ride : List ℕ → Entry → Path → Entry → ℕ → Ride
path_ride b e p x m =
    ride e.records (λ r. in_set e r && is_point_of b e p (master_key b x m) r) (λ r. next_on b e r p) (λ r. prior_on b e r p) 0 0 (first_on b x m p)

-- it is in order, and ends at the master's last
unfoldable pub ride_ends : List ℕ → Entry → Path → Entry → ℕ → Bool
ride_ends b e p x m = (path_ride b e p x m).ok && eqb (path_ride b e p x m).last (last_on b x m p)

-- how many points the chains of the first n masters have; how many live records a set has
unfoldable pub points_on : List ℕ → Entry → Path → Entry → ℕ → ℕ
points_on b e p x n = sum_below (λ k. cond (is_live b x (k + 1)) (path_ride b e p x (k + 1)).count 0) n

unfoldable pub live_count : List ℕ → Entry → ℕ
live_count b e = count_below (λ k. is_live b e (k + 1)) e.records

unfoldable pub path_in_place : List ℕ → Entry → Path → Entry → Bool
path_in_place b e p x =
    each_record x (λ m. not (is_live b x m) || ride_ends b e p x m) && eqb (points_on b e p x x.records) (live_count b e)

unfoldable pub paths_in_place : Schema → List ℕ → Entry → Bool
paths_in_place t b e = all_below (λ j. path_in_place b e (path_of e j) (entry_of t (path_of e j).master.0)) e.count

-- ---- the whole

unfoldable pub set_in_place : Schema → List ℕ → Entry → Bool
set_in_place t b e = set_clean b e && cond (is_master e) (masters_in_place b e) (paths_in_place t b e)

unfoldable pub in_place : Schema → List ℕ → Bool
in_place t b = checks_true t b && all_below (λ i. set_in_place t b (entry_of t i)) (set_count t)
