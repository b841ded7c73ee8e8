-- What sign-on's functions judge, record by record, chain by chain and set by set: the words of their contracts. Together they are `in_place`
-- of sound/specs/Linear.
use Rattle.std.specs.Prelude.{ℕ, ◌+◌, Bool, cond, not, ◌||◌, ◌&&◌, List, eqb, Option, Some, None}
use Rattle.octets.specs.Below.{all_below}
use Rattle.schema.specs.declared.Entry.{Entry}
use Rattle.records.specs.Records.{is_live, prior_on, next_on}
use Rattle.sound.specs.Linear.{Ride, ride, path_ride, ride_ends, points_on, master_in_place, path_in_place, set_in_place}
use Rattle.schema.specs.declared.Schema.{Schema}
use Rattle.schema.specs.Decode.{entry_of, path_of}
use Rattle.schema.specs.declared.Path.{Path}
use Rattle.schema.specs.Place.{in_set}
use Rattle.points.specs.Chains.{is_point_of}
use Rattle.signon.specs.declared.on_points.Ridden.{Ridden}

-- what is asked of every record of a set of masters
abbrev pub in_place_at : List ℕ → Entry → ℕ → Bool
in_place_at b e r = not (is_live b e r) || master_in_place b e r

-- path j of the set e, and set i of the schema, are in place
abbrev pub path_placed : Schema → List ℕ → Entry → ℕ → Bool
path_placed t b e j = path_in_place b e (path_of e j) (entry_of t (path_of e j).master.0)

abbrev pub set_placed : Schema → List ℕ → ℕ → Bool
set_placed t b i = set_in_place t b (entry_of t i)

-- what the code keeps of a ride that came to 0 with every record in order
abbrev pub ridden_of : Ride → Option Ridden
ridden_of r = cond r.ok (Some (record { count = r.count; last = r.last })) None

-- the record r is a point of the key, and points back to q
abbrev pub in_order : List ℕ → Entry → Path → List ℕ → ℕ → ℕ → Bool
in_order b e p key q r = in_set e r && is_point_of b e p key r && eqb (prior_on b e r p) q

-- the ride along path p of set e, for the key, from r on
unfoldable pub ride_from : ℕ → List ℕ → Entry → Path → List ℕ → ℕ → ℕ → ℕ → Ride
ride_from fuel b e p key n q r = ride fuel (λ k. in_set e k && is_point_of b e p key k) (λ k. next_on b e k p) (λ k. prior_on b e k p) n q r

-- what the master in record m of set x adds to the judgement of path p: whether its chain is in order, and how many points it has; a record that
-- is no master has no chain
abbrev pub chain_ends : List ℕ → Entry → Path → Entry → ℕ → Bool
chain_ends b e p x m = not (is_live b x m) || ride_ends b e p x m

abbrev pub chain_count : List ℕ → Entry → Path → Entry → ℕ → ℕ
chain_count b e p x m = cond (is_live b x m) (path_ride b e p x m).count 0

-- both as one answer, of a master and of all of a path
abbrev pub chain_points : List ℕ → Entry → Path → Entry → ℕ → Option ℕ
chain_points b e p x m = cond (chain_ends b e p x m) (Some (chain_count b e p x m)) None

abbrev pub path_points : List ℕ → Entry → Path → Entry → Option ℕ
path_points b e p x = cond (all_below (λ k. chain_ends b e p x (k + 1)) x.records) (Some (points_on b e p x x.records)) None
