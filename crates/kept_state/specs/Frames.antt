-- What two data bases have in common, field by field: `b` before a call, `c` after it. A call's effect is told in these words, and the chains
-- are reasoned about from there.
use Rattle.std.specs.Prelude.{ℕ, ◌≡◌, ◌≢◌, ◌⊎◌, List}
use Rattle.schema.specs.declared.Schema.{Schema}
use Rattle.schema.specs.Decode.{entry_of, path_of, masters_on}
use Rattle.schema.specs.Place.{InSet}
use Rattle.schema.specs.Guarantee.{IsPathOf}
use Rattle.records.specs.Records.{is_live, root_next, root_prior, master_key, first_on, last_on, key_on, prior_on, next_on}
use Rattle.sound.specs.Sets.{Live}

-- the masters of set n: live where they were, with their keys and ROOT pointers
pub record SameMasters (t : Schema) (b c : List ℕ) (n : ℕ) : Type 0 where
  pub live : (r : ℕ) → InSet (entry_of t n) r → is_live c (entry_of t n) r ≡ is_live b (entry_of t n) r
  pub key : (r : ℕ) → InSet (entry_of t n) r → master_key c (entry_of t n) r ≡ master_key b (entry_of t n) r
  pub next : (r : ℕ) → InSet (entry_of t n) r → root_next c (entry_of t n) r ≡ root_next b (entry_of t n) r
  pub prior : (r : ℕ) → InSet (entry_of t n) r → root_prior c (entry_of t n) r ≡ root_prior b (entry_of t n) r

-- first and last of path j of the variable set i, in each record of its masters' set
pub record SameHeads (t : Schema) (b c : List ℕ) (i j : ℕ) : Type 0 where
  pub first : (m : ℕ) → InSet (masters_on t (entry_of t i) j) m
      → first_on c (masters_on t (entry_of t i) j) m (path_of (entry_of t i) j) ≡ first_on b (masters_on t (entry_of t i) j) m (path_of (entry_of t i) j)
  pub last : (m : ℕ) → InSet (masters_on t (entry_of t i) j) m
      → last_on c (masters_on t (entry_of t i) j) m (path_of (entry_of t i) j) ≡ last_on b (masters_on t (entry_of t i) j) m (path_of (entry_of t i) j)

-- the records of the variable set i, as path j sees them
pub record SamePoints (t : Schema) (b c : List ℕ) (i j : ℕ) : Type 0 where
  pub live : (r : ℕ) → InSet (entry_of t i) r → is_live c (entry_of t i) r ≡ is_live b (entry_of t i) r
  pub key : (r : ℕ) → InSet (entry_of t i) r → key_on c (entry_of t i) r (path_of (entry_of t i) j) ≡ key_on b (entry_of t i) r (path_of (entry_of t i) j)
  pub prior : (r : ℕ) → InSet (entry_of t i) r → prior_on c (entry_of t i) r (path_of (entry_of t i) j) ≡ prior_on b (entry_of t i) r (path_of (entry_of t i) j)
  pub next : (r : ℕ) → InSet (entry_of t i) r → next_on c (entry_of t i) r (path_of (entry_of t i) j) ≡ next_on b (entry_of t i) r (path_of (entry_of t i) j)

-- ---- masters that move

-- the master in record m of b is the one in record q of c: its key, and first and last of every path to it
pub record Carried (t : Schema) (b c : List ℕ) (n m q : ℕ) : Type 0 where
  pub key : master_key c (entry_of t n) q ≡ master_key b (entry_of t n) m
  pub first : (i j : ℕ) → IsPathOf t i j → (path_of (entry_of t i) j).master.0 ≡ n
      → first_on c (entry_of t n) q (path_of (entry_of t i) j) ≡ first_on b (entry_of t n) m (path_of (entry_of t i) j)
  pub last : (i j : ℕ) → IsPathOf t i j → (path_of (entry_of t i) j).master.0 ≡ n
      → last_on c (entry_of t n) q (path_of (entry_of t i) j) ≡ last_on b (entry_of t n) m (path_of (entry_of t i) j)

-- no path of the master in record m has a record
abbrev pub Bare : Schema → List ℕ → ℕ → ℕ → Type 0
Bare t b n m = (i j : ℕ) → IsPathOf t i j → (path_of (entry_of t i) j).master.0 ≡ n
    → (first_on b (entry_of t n) m (path_of (entry_of t i) j) ≡ 0) × (last_on b (entry_of t n) m (path_of (entry_of t i) j) ≡ 0)

-- the masters of c are those of b, in whatever records, but for masters without points that came or went
pub record Moved (t : Schema) (b c : List ℕ) (n : ℕ) : Type 0 where
  pub forth : (m : ℕ) → Live b (entry_of t n) m → ((q : ℕ) × Live c (entry_of t n) q × Carried t b c n m q) ⊎ Bare t b n m
  pub back : (q : ℕ) → Live c (entry_of t n) q
      → ((m : ℕ) × Live b (entry_of t n) m × Carried t b c n m q)
      ⊎ (Bare t c n q × ((m : ℕ) → Live b (entry_of t n) m → master_key b (entry_of t n) m ≢ master_key c (entry_of t n) q))
