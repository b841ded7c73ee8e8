-- What is read on the way of an add or DELVD lies where it may: the referenced record, the paths' masters, the keys, the neighbours.
use Rattle.std.specs.Prelude.{ℕ, ◌+◌, ◌≤◌, ◌<◌, ◌≡◌, List, get_or}
use Rattle.schema.specs.declared.Path.{Path}
use Rattle.schema.specs.declared.Entry.{Entry}
use Rattle.schema.specs.declared.Part.{Part}
use Rattle.schema.specs.Decode.{path_of}
use Rattle.schema.specs.Place.{InSet}
use Rattle.records.specs.declared.Link.{Link}
use Rattle.records.specs.Areas.{no_link}
use Rattle.points.specs.declared.Spot.{Spot}
use Rattle.points.specs.declared.Spot.TheVariants.{Last, After, Before}
use Rattle.point_plans.specs.Paths.{no_part}

-- the referenced record is of the set
abbrev pub SpotIn : Spot → Entry → Type 0
SpotIn Last e = Unit {0}
SpotIn (After r) e = InSet e r.0
SpotIn (Before r) e = InSet e r.0

-- a part that is a master of path p lies in a base of n bytes, and first and last lie in it
pub record OwnerIn (p : Path) (m : Part) (n : ℕ) : Type 0 where
  pub inside : m.at + m.size ≤ n
  pub link : p.link + 8 ≤ m.size

-- every path's does
pub record OwnersIn (e : Entry) (owners : List Part) (n : ℕ) : Type 0 where
  pub owner : (k : ℕ) → k < e.count → OwnerIn (path_of e k) (get_or owners k no_part) n

-- the paths' keys lie in a buffer of n bytes
pub record KeysIn (e : Entry) (at : List ℕ) (n : ℕ) : Type 0 where
  pub inside : (k : ℕ) → k < e.count → get_or at k 0 + (path_of e k).len ≤ n

-- a neighbour is none, or a record of the set
pub record LinkIn (e : Entry) (l : Link) : Type 0 where
  pub prior : (l.prior ≡ 0 → ⊥) → InSet e l.prior
  pub next : (l.next ≡ 0 → ⊥) → InSet e l.next

pub record LinksIn (e : Entry) (links : List Link) : Type 0 where
  pub inside : (k : ℕ) → k < e.count → LinkIn e (get_or links k no_link)
