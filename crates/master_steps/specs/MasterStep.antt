-- What a call on a set of masters leaves: a sound set, its masters in whatever records, and everything else as it was.
use Rattle.std.specs.Prelude.{ℕ, ◌*◌, ◌≤◌, ◌<◌, ◌≡◌, ◌≢◌, true, List, length}
use Rattle.blocks.specs.Blocks.{check_by, is_sealed}
use Rattle.schema.specs.declared.Schema.{Schema}
use Rattle.schema.specs.Decode.{entry_of, path_of, set_count}
use Rattle.schema.specs.Place.{InSet}
use Rattle.schema.specs.Guarantee.{IsPathOf}
use Rattle.records.specs.Areas.{area_of}
use Rattle.sound.specs.Sound.{set_clean}
use Rattle.sound.specs.Sets.{MasterSet}
use Rattle.kept_state.specs.Frames.{SameMasters, SameHeads, SamePoints, Moved}

pub record MasterStep (t : Schema) (b c : List ℕ) (n : ℕ) : Type 0 where
  pub sized : length c ≡ 512 * t.blocks
  pub sealed : (k : ℕ) → k < t.blocks → is_sealed (check_by t.edition) c k ≡ true
  pub clean : (k : ℕ) → k < set_count t → set_clean c (entry_of t k) ≡ true
  pub masters : MasterSet c (entry_of t n)
  pub others : (k : ℕ) → k < t.masters → k ≢ n → SameMasters t b c k
  pub moved : Moved t b c n
  pub heads : (i j : ℕ) → IsPathOf t i j → (path_of (entry_of t i) j).master.0 ≢ n → SameHeads t b c i j
  pub points : (i j : ℕ) → IsPathOf t i j → SamePoints t b c i j
  pub areas : (i r : ℕ) → t.masters ≤ i → i < set_count t → InSet (entry_of t i) r → area_of c (entry_of t i) r ≡ area_of b (entry_of t i) r
