-- The place of a new record, in a set that is not full: a record of the set, and a free one. What is said of adds rests on these laws, and
-- not on which of the free records it is.
use Rattle.std.specs.Prelude.{ℕ, ◌≡◌, false, List, ltb}
use Rattle.std.proofs.Math.Path.{refl}
use Rattle.schema.specs.declared.Entry.{Entry}
use Rattle.schema.specs.Place.{InSet}
use Rattle.records.specs.Records.{is_live}
use Rattle.scan.specs.Scan.{is_full}
use Rattle.scan.specs.ScanLaws.{lowest_free_in, lowest_free_free}
use Rattle.points.specs.Points.{new_place}

module _ (b : List ℕ) (e : Entry) (p : ℕ) where
  -- and of a full set there is none
  pub new_place-full : ltb e.records (new_place b e p) ≡ is_full b e
  unfolding new_place
  new_place-full = refl

  pub new_place_in : is_full b e ≡ false → InSet e (new_place b e p)
  unfolding new_place
  new_place_in = lowest_free_in b e

  pub new_place_free : is_full b e ≡ false → is_live b e (new_place b e p) ≡ false
  unfolding new_place
  new_place_free = lowest_free_free b e
