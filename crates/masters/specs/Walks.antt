-- One step of the search for a key, as the walk takes it. `WalkLaws` proves that step by step it is `Find.seek`.
use Rattle.std.specs.Prelude.{ℕ, ◌+◌, Bool, cond, List, eqb, ltb}
use Rattle.octets.specs.Octets.{same_bytes}
use Rattle.schema.specs.declared.Entry.{Entry}
use Rattle.schema.specs.Place.{in_set}
use Rattle.records.specs.Records.{is_live, root_next, master_key}
use Rattle.masters.specs.declared.Found.{Found}
use Rattle.masters.specs.declared.Found.TheVariants as F
use Rattle.masters.specs.declared.walk.Walk.{Walk}
use Rattle.masters.specs.declared.walk.Step.{Step}
use Rattle.masters.specs.declared.walk.Step.TheVariants as S
use Rattle.masters.specs.Find.{home_in, held_by_own, find, is_missing, tail_from}

-- a record that is live or not, has the key or not, and its ROOT next
unfoldable pub decide_of : Walk → Bool → Bool → ℕ → Step
decide_of w live same next =
    cond live
    (cond same
    (S.Found (record { 0 = w.at }))
    (cond (eqb next 0) S.Absent (S.Next (record { at = next; visited = w.visited + 1 }))))
    S.Damaged

-- "A pointer above R, a free record on the way, or more than R records visited is damage."
unfoldable pub step_of : List ℕ → Entry → List ℕ → Walk → Step
step_of b e key w =
    cond (ltb w.visited e.records)
    (cond (in_set e w.at) (decide_of w (is_live b e w.at) (same_bytes (master_key b e w.at) key) (root_next b e w.at)) S.Damaged)
    S.Damaged

-- what the search finds, by the step: f goes on
abbrev pub resolve : (Walk → Found) → Step → Found
resolve f (S.Found r) = F.At r
resolve f S.Absent = F.Missing
resolve f S.Damaged = F.Damaged
resolve f (S.Next w) = f w

-- where the search ends, f being what it finds from h on: a chain without the key it has followed to its last record; else this is h
abbrev pub last_from : Found → List ℕ → Entry → ℕ → ℕ
last_from f b e h = cond (is_missing f) (tail_from e.records b e h) h

-- and from the home of the key; where that is not held by one of its own, nothing is followed
abbrev pub last_sought : List ℕ → Entry → List ℕ → ℕ
last_sought b e key = cond (held_by_own b e (home_in e key)) (last_from (find b e key) b e (home_in e key)) (home_in e key)
