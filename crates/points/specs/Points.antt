-- Document 01, "Chains" and "The final 16": the adds and DELVD, which go over all paths of a set. `t` is the schema, `e` the variable
-- set, `k` a path's number. What each path of the call speaks of comes from the keys: those of the area in an add, those stored in DELVD.
use Rattle.std.specs.Prelude.{ℕ, Bool, cond, not, ◌||◌, List, [], ◌∷◌, ◌++◌, eqb}
use Rattle.octets.specs.Below.{all_below, upto, concat_below}
use Rattle.schema.specs.declared.Path.{Path}
use Rattle.schema.specs.declared.Entry.{Entry}
use Rattle.schema.specs.declared.Schema.{Schema}
use Rattle.schema.specs.Decode.{path_of, masters_on}
use Rattle.records.specs.declared.Link.{Link}
use Rattle.records.specs.Records.{key_on, prior_on, next_on, last_on}
use Rattle.records.specs.Areas.{area_key_on, new_variable}
use Rattle.plans.specs.Plan.{Store, store_record, wipe_record}
use Rattle.scan.specs.Scan.{lowest_free}
use Rattle.masters.specs.declared.Found.{Found}
use Rattle.masters.specs.Find.{find, record_found}
use Rattle.points.specs.declared.Spot.{Spot}
use Rattle.points.specs.declared.Spot.TheVariants.{Last, After, Before}
use Rattle.points.specs.Chains.{bad_neighbour, uneven_ends, link_between, unlink_from}

abbrev pub find_on : List ℕ → Schema → Entry → ℕ → List ℕ → Found
find_on b t e k key = find b (masters_on t e k) key

abbrev pub master_on : List ℕ → Schema → Entry → ℕ → List ℕ → ℕ
master_on b t e k key = record_found (find_on b t e k key)

-- damage met on path k, for a record with this key and these neighbours
abbrev pub damaged_on : List ℕ → Schema → Entry → ℕ → List ℕ → Link → Bool
damaged_on b t e k key l =
    uneven_ends b (masters_on t e k) (master_on b t e k key) (path_of e k)
    || bad_neighbour b e (path_of e k) key l.prior
    || bad_neighbour b e (path_of e k) key l.next

-- ---- the adds

-- "ADDVC links last on all paths. ADDVA and ADDVB link after or before the reference on the named path, last on the others."
abbrev pub spot_on : Spot → ℕ → ℕ → Spot
spot_on s named k = cond (eqb k named) s Last

-- its neighbours there, for a chain whose last record is z. (The reference itself, a neighbour of ADDVA's and ADDVB's new record, has
-- passed test 11: it is live and of that key. So asking the same of both neighbours asks what document 01 lists.)
unfoldable pub neighbours_at : List ℕ → Entry → Path → ℕ → Spot → Link
neighbours_at b e p z Last = record { prior = z; next = 0 }
neighbours_at b e p z (After r) = record { prior = r.0; next = next_on b e r.0 p }
neighbours_at b e p z (Before r) = record { prior = prior_on b e r.0 p; next = r.0 }

-- "The new record is the lowest-numbered free one": its number, p being its prior neighbour on the named path, which has no say in it;
-- R + 1 where the set is full
unfoldable pub new_place : List ℕ → Entry → ℕ → ℕ
new_place b e p = lowest_free b e

module _ (b : List ℕ) (t : Schema) (e : Entry) (area : List ℕ) (spot : Spot) (named : ℕ) where
  -- on path k: the new record's key, the record of its master, and its neighbours
  abbrev pub add_key : ℕ → List ℕ
  add_key k = area_key_on e area k

  abbrev pub add_master : ℕ → ℕ
  add_master k = master_on b t e k (add_key k)

  abbrev pub add_link : ℕ → Link
  add_link k = neighbours_at b e (path_of e k) (last_on b (masters_on t e k) (add_master k) (path_of e k)) (spot_on spot named k)

  -- its number
  abbrev pub add_place : ℕ
  add_place = new_place b e (add_link named).prior

  -- the final 16 of an add
  unfoldable pub add_damaged : Bool
  add_damaged = not (all_below (λ k. not (damaged_on b t e k (add_key k) (add_link k))) e.count)

  -- "new record; then path by path prior's side, next's side": r is the new record
  unfoldable pub add_stores : ℕ → List Store
  add_stores r =
      store_record e r (new_variable e (upto add_link e.count) area)
      ∷ concat_below (λ k. link_between e (path_of e k) (masters_on t e k) (add_master k) (add_link k) r) e.count

-- ---- DELVD of the record r

module _ (b : List ℕ) (t : Schema) (e : Entry) (r : ℕ) where
  -- on path k: its key, the record of its master, and its neighbours
  abbrev pub own_key : ℕ → List ℕ
  own_key k = key_on b e r (path_of e k)

  abbrev pub own_master : ℕ → ℕ
  own_master k = master_on b t e k (own_key k)

  abbrev pub own_link : ℕ → Link
  own_link k = record { prior = prior_on b e r (path_of e k); next = next_on b e r (path_of e k) }

  -- the final 16 of DELVD
  unfoldable pub del_damaged : Bool
  del_damaged = not (all_below (λ k. not (damaged_on b t e k (own_key k) (own_link k))) e.count)

  -- "path by path prior's side, next's side; then wiping"
  unfoldable pub del_stores : List Store
  del_stores = concat_below (λ k. unlink_from e (path_of e k) (masters_on t e k) (own_master k) (own_link k)) e.count ++ (wipe_record e r ∷ [])
