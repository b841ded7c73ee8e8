-- A sound set of masters in the words of a proof: no blank key, no key twice, and the chain of each home. That the test says the same is in
-- KeyLaws.
use Rattle.std.specs.Prelude.{ℕ, ◌≡◌, true, false, List}
use Rattle.octets.specs.Octets.{all_blank}
use Rattle.schema.specs.declared.Entry.{Entry}
use Rattle.schema.specs.Place.{InSet}
use Rattle.records.specs.Records.{is_live, master_key}
use Rattle.sound.specs.Sound.{home_sound}

-- the record r of set e is live
abbrev pub Live : List ℕ → Entry → ℕ → Type 0
Live b e r = InSet e r × (is_live b e r ≡ true)

pub record MasterSet (b : List ℕ) (e : Entry) : Type 0 where
  pub no_blank : (r : ℕ) → Live b e r → all_blank (master_key b e r) ≡ false
  pub one : (q r : ℕ) → Live b e q → Live b e r → master_key b e q ≡ master_key b e r → q ≡ r
  pub homes : (h : ℕ) → InSet e h → home_sound b e h ≡ true
