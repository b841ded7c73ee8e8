-- Document 01, "Where masters live", "Chains" and "The final 16": what ADD-M and DEL-M test and store on the ROOT chains.
-- `e` is the master set, `h` the home of the key, `r` a record. All values come from the data base as it came.
use Rattle.std.specs.Prelude.{ℕ, Bool, cond, not, ◌&&◌, ◌||◌, List, [], ◌∷◌, ◌++◌, eqb}
use Rattle.octets.specs.Octets.{set_word}
use Rattle.schema.specs.declared.Entry.{Entry}
use Rattle.schema.specs.Place.{in_set, record_of}
use Rattle.records.specs.Records.{is_live, root_next, root_prior}
use Rattle.records.specs.Areas.{new_master}
use Rattle.plans.specs.Plan.{Store, store_word, store_record, wipe_record}
use Rattle.scan.specs.Scan.{lowest_free, is_full}
use Rattle.masters.specs.Find.{held_by_own, tail_from}

-- "a neighbour pointer the call uses is not 0 and is above R, not live"
abbrev pub bad_root : List ℕ → Entry → ℕ → Bool
bad_root b e p = not (eqb p 0) && not (in_set e p && is_live b e p)

-- "prior's side, next's side": ROOT next of the record p becomes v, ROOT prior of the record n becomes v; none for 0
abbrev pub root_prior_side : Entry → ℕ → ℕ → List Store
root_prior_side e p v = cond (eqb p 0) [] (store_word e p 4 v ∷ [])

abbrev pub root_next_side : Entry → ℕ → ℕ → List Store
root_next_side e n v = cond (eqb n 0) [] (store_word e n 8 v ∷ [])

-- ---- ADD-M

-- "Home held by a stranger": live, and of another home
abbrev pub held_by_stranger : List ℕ → Entry → ℕ → Bool
held_by_stranger b e h = is_live b e h && not (held_by_own b e h)

-- 15: with the home free there is a place
unfoldable pub add_master_full : List ℕ → Entry → ℕ → Bool
add_master_full b e h = is_live b e h && is_full b e

-- the final 16: "the ROOT prior of ADD-M's stranger .. is 0"; "ADD-M, the stranger's prior and next"
unfoldable pub add_master_damaged : List ℕ → Entry → ℕ → Bool
add_master_damaged b e h =
    held_by_stranger b e h && (eqb (root_prior b e h) 0 || bad_root b e (root_prior b e h) || bad_root b e (root_next b e h))

-- a new master record at r, with its ROOT neighbours
abbrev pub put_master : Entry → ℕ → ℕ → ℕ → List ℕ → Store
put_master e r p n area = store_record e r (new_master e (record { prior = p; next = n }) area)

-- "home free, take it."
abbrev pub add_at_home : Entry → ℕ → List ℕ → List Store
add_at_home e h area = put_master e h 0 0 area ∷ []

-- "Home held by a record of that home: take the lowest-numbered free record, linked last.": f the free record, l the last of the chain
abbrev pub add_synonym : Entry → ℕ → ℕ → List ℕ → List Store
add_synonym e f l area = put_master e f l 0 area ∷ root_prior_side e l f

-- "Home held by a stranger: the stranger moves to the lowest free record, its neighbours follow it, the new master takes the home."
abbrev pub add_for_stranger : List ℕ → Entry → ℕ → ℕ → List ℕ → List Store
add_for_stranger b e h f area =
    store_record e f (record_of b e h)
    ∷ put_master e h 0 0 area
    ∷ (root_prior_side e (root_prior b e h) f ++ root_next_side e (root_next b e h) f)

unfoldable pub add_master_stores : List ℕ → Entry → ℕ → List ℕ → List Store
add_master_stores b e h area =
    cond (is_live b e h)
    (cond (held_by_own b e h)
    (add_synonym e (lowest_free b e) (tail_from e.records b e h) area)
    (add_for_stranger b e h (lowest_free b e) area))
    (add_at_home e h area)

-- ---- DEL-M of the record r, whose key has the home h

-- "the record at its home with a synonym after it"
abbrev pub synonym_moves : List ℕ → Entry → ℕ → ℕ → Bool
synonym_moves b e h r = eqb r h && not (eqb (root_next b e r) 0)

-- the final 16: "the ROOT prior .. of the record DEL-M finds away from its home, is 0"; "DEL-M, prior and next of the record and next
-- of a synonym that moves"
unfoldable pub del_master_damaged : List ℕ → Entry → ℕ → ℕ → Bool
del_master_damaged b e h r =
    not (eqb r h) && eqb (root_prior b e r) 0
    || bad_root b e (root_prior b e r)
    || bad_root b e (root_next b e r)
    || synonym_moves b e h r && bad_root b e (root_next b e (root_next b e r))

-- "that synonym moves into the home, its ROOT prior 0, and its old place is wiped": s the synonym
abbrev pub del_by_move : List ℕ → Entry → ℕ → ℕ → List Store
del_by_move b e h s =
    store_record e h (set_word (record_of b e s) 8 0)
    ∷ (root_next_side e (root_next b e s) h ++ (wipe_record e s ∷ []))

-- "Otherwise unlink and wipe."
abbrev pub del_by_unlink : List ℕ → Entry → ℕ → List Store
del_by_unlink b e r =
    root_prior_side e (root_prior b e r) (root_next b e r)
    ++ (root_next_side e (root_next b e r) (root_prior b e r) ++ (wipe_record e r ∷ []))

unfoldable pub del_master_stores : List ℕ → Entry → ℕ → ℕ → List Store
del_master_stores b e h r = cond (synonym_moves b e h r) (del_by_move b e h (root_next b e r)) (del_by_unlink b e r)
