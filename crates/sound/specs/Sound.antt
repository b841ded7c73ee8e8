-- Document 01, "The final 16": "SINON gives 16 exactly if the data base is not sound", clause by clause, chain by chain. Chains are lists
-- got by following pointers, sets of records are lists of numbers. `t` is the schema, `b` a data base of its length.
use Rattle.std.specs.Prelude.{ℕ, zero, suc, ◌+◌, Bool, true, false, cond, not, ◌&&◌, ◌||◌, List, [], ◌∷◌, eqb, leb}
use Rattle.octets.specs.Octets.{run, all_zero, all_blank, same_bytes}
use Rattle.octets.specs.Below.{all_below, concat_below}
use Rattle.blocks.specs.Blocks.{check_by, is_sealed}
use Rattle.schema.specs.declared.Path.{Path}
use Rattle.schema.specs.declared.Entry.{Entry}
use Rattle.schema.specs.declared.Schema.{Schema}
use Rattle.schema.specs.Decode.{entry_of, path_of, set_count}
use Rattle.schema.specs.Place.{in_set, place_of, record_of, blocks_held, leftover_of}
use Rattle.records.specs.Records.{is_live, root_next, root_prior, master_key, first_on, last_on, key_on, prior_on, next_on}
use Rattle.records.specs.Areas.{is_master}
use Rattle.masters.specs.Find.{own_home, held_by_own}
use Rattle.points.specs.Chains.{is_point_of}

-- ---- for each, and is there one

-- f holds of every record number of e
abbrev pub each_record : Entry → (ℕ → Bool) → Bool
each_record e f = all_below (λ k. f (k + 1)) e.records

-- the record numbers of e that f holds of, in ascending order
abbrev pub records_with : Entry → (ℕ → Bool) → List ℕ
records_with e f = concat_below (λ k. cond (f (k + 1)) ((k + 1) ∷ []) []) e.records

unfoldable pub is_in : ℕ → List ℕ → Bool
is_in r [] = false
is_in r (x ∷ xs) = eqb x r || is_in r xs

-- every element of the one list is in the other, both ways
unfoldable pub within : List ℕ → List ℕ → Bool
within [] ys = true
within (x ∷ xs) ys = is_in x ys && within xs ys

abbrev pub same_records : List ℕ → List ℕ → Bool
same_records xs ys = within xs ys && within ys xs

-- ---- "all checks true"

unfoldable pub checks_true : Schema → List ℕ → Bool
checks_true t b = all_below (is_sealed (check_by t.edition) b) t.blocks

-- ---- "states 0 or 1; free records, fillers and leftovers zero"

-- a live record has its three zeros behind the state; a record that is not live is all zero, its state with it
unfoldable pub record_clean : List ℕ → Entry → ℕ → Bool
record_clean b e r = cond (is_live b e r) (all_zero (run b (place_of e r + 1) 3)) (all_zero (record_of b e r))

-- "Room after records is zero.": the k-th block of the set, behind its records and in front of its check
unfoldable pub leftover_clean : List ℕ → Entry → ℕ → Bool
leftover_clean b e k = all_zero (leftover_of b e k)

unfoldable pub set_clean : List ℕ → Entry → Bool
set_clean b e = each_record e (record_clean b e) && all_below (leftover_clean b e) (blocks_held e)

-- ---- a two-way chain

-- the records that `next` leads to from r, with n more to visit, up to a pointer that is 0 or no number of e
unfoldable pub follow : ℕ → Entry → (ℕ → ℕ) → ℕ → List ℕ
follow zero e next r = []
follow (suc n) e next r = cond (in_set e r) (r ∷ follow n e next (next r)) []

-- the list is one two-way chain that begins with `head`: each record's `next` is the one after it, its `prior` the one before it,
-- 0 behind the last, and p, which is 0 for a whole chain, in front of the first
unfoldable pub is_chain : (ℕ → ℕ) → (ℕ → ℕ) → ℕ → ℕ → List ℕ → Bool
is_chain next prior p head [] = eqb head 0
is_chain next prior p head (r ∷ rs) = eqb head r && eqb (prior r) p && is_chain next prior r (next r) rs

-- the last record of a list, 0 of an empty one
unfoldable pub last_of : List ℕ → ℕ
last_of [] = 0
last_of (r ∷ []) = r
last_of (r ∷ q ∷ rs) = last_of (q ∷ rs)

-- ---- masters: "no blank key; live master keys distinct; each home's masters one two-way chain from the home, 0 at both ends"

unfoldable pub keys_distinct : List ℕ → Entry → Bool
keys_distinct b e =
    each_record e (λ r. each_record e (λ q. leb r q || not (is_live b e q && is_live b e r && same_bytes (master_key b e q) (master_key b e r))))

-- the masters whose home is h
unfoldable pub masters_of_home : List ℕ → Entry → ℕ → List ℕ
masters_of_home b e h = records_with e (λ r. is_live b e r && eqb (own_home b e r) h)

-- the list that ROOT next leads to from the home, if one of the home's own masters holds it
unfoldable pub home_list : List ℕ → Entry → ℕ → List ℕ
home_list b e h = cond (held_by_own b e h) (follow e.records e (root_next b e) h) []

-- the chain begins at the home itself; a home with no masters of its own has the empty chain
unfoldable pub home_sound : List ℕ → Entry → ℕ → Bool
home_sound b e h =
    is_chain (root_next b e) (root_prior b e) 0 (cond (held_by_own b e h) h 0) (home_list b e h)
    && same_records (home_list b e h) (masters_of_home b e h)

unfoldable pub master_set_sound : List ℕ → Entry → Bool
master_set_sound b e =
    each_record e (λ r. not (is_live b e r && all_blank (master_key b e r)))
    && keys_distinct b e
    && each_record e (home_sound b e)

-- ---- points: "each path of each master one two-way chain from first to last, 0 at both ends, holding exactly the live records of that
-- key; every variable key has its master"; and no blank key

-- the list that `next` leads to from first, on path p of set e, for the master in record m of set x
unfoldable pub path_list : List ℕ → Entry → Path → Entry → ℕ → List ℕ
path_list b e p x m = follow e.records e (λ r. next_on b e r p) (first_on b x m p)

unfoldable pub path_sound : List ℕ → Entry → Path → Entry → ℕ → Bool
path_sound b e p x m =
    is_chain (λ r. next_on b e r p) (λ r. prior_on b e r p) 0 (first_on b x m p) (path_list b e p x m)
    && eqb (last_on b x m p) (last_of (path_list b e p x m))
    && same_records (path_list b e p x m) (records_with e (is_point_of b e p (master_key b x m)))

-- some live master of set x has this key
unfoldable pub has_master : List ℕ → Entry → List ℕ → Bool
has_master b x key = not (each_record x (λ m. not (is_live b x m && same_bytes (master_key b x m) key)))

-- path p of set e, whose masters are in set x
unfoldable pub variable_path_sound : List ℕ → Entry → Path → Entry → Bool
variable_path_sound b e p x =
    each_record e (λ r. not (is_live b e r) || not (all_blank (key_on b e r p)) && has_master b x (key_on b e r p))
    && each_record x (λ m. not (is_live b x m) || path_sound b e p x m)

unfoldable pub variable_set_sound : Schema → List ℕ → Entry → Bool
variable_set_sound t b e = all_below (λ j. variable_path_sound b e (path_of e j) (entry_of t (path_of e j).master.0)) e.count

-- ---- sound

unfoldable pub set_sound : Schema → List ℕ → Entry → Bool
set_sound t b e = set_clean b e && cond (is_master e) (master_set_sound b e) (variable_set_sound t b e)

unfoldable pub sound : Schema → List ℕ → Bool
sound t b = checks_true t b && all_below (λ i. set_sound t b (entry_of t i)) (set_count t)
