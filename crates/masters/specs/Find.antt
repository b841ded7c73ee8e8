-- Document 01, "Where masters live": homes, and the search for a key.
use Rattle.std.specs.Prelude.{ℕ, zero, suc, Bool, true, false, cond, ◌&&◌, List, eqb, Result, Ok, Err}
use Rattle.octets.specs.Octets.{same_bytes}
use Rattle.terms.specs.Terms.{home_of}
use Rattle.terms.specs.declared.RecordNo.{RecordNo}
use Rattle.terms.specs.declared.Refusal.{Refusal}
use Rattle.terms.specs.declared.Refusal.TheVariants.{Mrnf, Damg}
use Rattle.schema.specs.declared.Entry.{Entry}
use Rattle.schema.specs.Place.{in_set}
use Rattle.records.specs.Records.{is_live, root_next, master_key}
use Rattle.masters.specs.declared.Found.{Found}
use Rattle.masters.specs.declared.Found.TheVariants.{At, Missing, Damaged}

-- the home of a key in set e, and of the record r
abbrev pub home_in : Entry → List ℕ → ℕ
home_in e key = home_of e.records key

abbrev pub own_home : List ℕ → Entry → ℕ → ℕ
own_home b e r = home_in e (master_key b e r)

-- the record h is live and its home is h: "Home held by a record of that home"
abbrev pub held_by_own : List ℕ → Entry → ℕ → Bool
held_by_own b e h = is_live b e h && eqb (own_home b e h) h

-- "follow ROOT next until the key or 0. A pointer above R, a free record on the way, or more than R records visited is damage.":
-- from record r on, with n more records to visit
unfoldable pub seek : ℕ → List ℕ → Entry → List ℕ → ℕ → Found
seek zero b e key r = Damaged
seek (suc n) b e key r =
    cond (in_set e r && is_live b e r)
    (cond (same_bytes (master_key b e r) key)
    (At (record { 0 = r }))
    (cond (eqb (root_next b e r) 0) Missing (seek n b e key (root_next b e r))))
    Damaged

-- "To find a key, look at its home. If that record is free, or its own home differs, the key is absent. Else follow ROOT next .."
unfoldable pub find : List ℕ → Entry → List ℕ → Found
find b e key = cond (held_by_own b e (home_in e key)) (seek e.records b e key (home_in e key)) Missing

abbrev pub is_at : Found → Bool
is_at (At r) = true
is_at Missing = false
is_at Damaged = false

abbrev pub is_missing : Found → Bool
is_missing (At r) = false
is_missing Missing = true
is_missing Damaged = false

abbrev pub is_damaged : Found → Bool
is_damaged (At r) = false
is_damaged Missing = false
is_damaged Damaged = true

-- the number of the record that was found; 0 where none was
abbrev pub record_found : Found → ℕ
record_found (At r) = r.0
record_found Missing = 0
record_found Damaged = 0

-- "find the named master (16, then 12)": the record that was found, or why a call ends there
abbrev pub named_master : Found → Result RecordNo Refusal
named_master (At r) = Ok r
named_master Missing = Err Mrnf
named_master Damaged = Err Damg

-- the last record that ROOT next leads to from r, with n more records to visit
unfoldable pub tail_from : ℕ → List ℕ → Entry → ℕ → ℕ
tail_from zero b e r = r
tail_from (suc n) b e r = cond (eqb (root_next b e r) 0) r (tail_from n b e (root_next b e r))
