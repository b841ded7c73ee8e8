-- What decoding has found out on its way, and what it makes: the words of its contracts.
use Rattle.std.specs.Prelude.{ℕ, ◌<◌, ◌≡◌, true, List, length, get_or}
use Rattle.schema.specs.Fields.{master_of}
use Rattle.schema.specs.Rules.{is_path_slot, master_of_slot}
use Rattle.schema.specs.Layout.{links_before}
use Rattle.decode.specs.declared.build.Links.{Links}

pub record Counted (s : List ℕ) (q : ℕ) (l : Links) : Type 0 where
  pub slots : length l.number ≡ 32
  pub masters : length l.total ≡ 4
  pub number : (p : ℕ) → p < q → is_path_slot s p ≡ true → get_or l.number p 0 ≡ links_before s (master_of_slot s p) p
  pub total : (m : ℕ) → m < 4 → get_or l.total m 0 ≡ links_before s m q

-- path j of set i is one that can be read: its set is one of eight, its slot one of four, its master one of four
pub record PathAt (s : List ℕ) (i j : ℕ) : Type 0 where
  pub long : length s ≡ 512
  pub set : i < 8
  pub slot : j < 4
  pub leads : master_of s i j < 4
