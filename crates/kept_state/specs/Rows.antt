-- The state that every call keeps: a data base that is sound, told by the lists it stands for. `rows i j key` is the list of record numbers
-- on path j of the variable set i, of the master with that key. The rows are kept by key: a master that moves changes none of them.
use Rattle.std.specs.Prelude.{ℕ, ◌*◌, ◌<◌, ◌≡◌, true, false, cond, List, [], ◌∷◌, ◌++◌, eqb, length}
use Rattle.octets.specs.Octets.{all_blank}
use Rattle.blocks.specs.Blocks.{check_by, is_sealed}
use Rattle.schema.specs.declared.Schema.{Schema}
use Rattle.schema.specs.Decode.{entry_of, path_of, set_count, masters_on}
use Rattle.schema.specs.Guarantee.{SchemaOk, IsPathOf}
use Rattle.records.specs.Records.{master_key, first_on, last_on, key_on, prior_on, next_on}
use Rattle.records.specs.Fields.{Fields}
use Rattle.chains.specs.Members.{All, In}
use Rattle.chains.specs.Segments.{Seg, headed}
use Rattle.points.specs.declared.Spot.{Spot}
use Rattle.points.specs.declared.Spot.TheVariants.{Last, After, Before}
use Rattle.sound.specs.Sound.{set_clean}
use Rattle.sound.specs.Sets.{Live, MasterSet}

-- a schema that keeps the rules, with its sets' fields one behind the other
pub record World (t : Schema) : Type 0 where
  pub ok : SchemaOk t
  pub fields : (i : ℕ) → i < set_count t → Fields (entry_of t i)

-- the pointers of path j of set i, for the master in record m: node 0 is the master, its next is first and its prior is last
abbrev pub next_node : Schema → List ℕ → ℕ → ℕ → ℕ → ℕ → ℕ
next_node t b i j m =
    headed (first_on b (masters_on t (entry_of t i) j) m (path_of (entry_of t i) j)) (λ r. next_on b (entry_of t i) r (path_of (entry_of t i) j))

abbrev pub prior_node : Schema → List ℕ → ℕ → ℕ → ℕ → ℕ → ℕ
prior_node t b i j m =
    headed (last_on b (masters_on t (entry_of t i) j) m (path_of (entry_of t i) j)) (λ r. prior_on b (entry_of t i) r (path_of (entry_of t i) j))

-- the record r of set i is live and has this key on path j
abbrev pub Mine : Schema → List ℕ → ℕ → ℕ → List ℕ → ℕ → Type 0
Mine t b i j key r = Live b (entry_of t i) r × (key_on b (entry_of t i) r (path_of (entry_of t i) j) ≡ key)

-- path j of set i stands for these lists, one for each key
pub record PathRows (t : Schema) (b : List ℕ) (i j : ℕ) (rows : List ℕ → List ℕ) : Type 0 where
  pub no_blank : (r : ℕ) → Live b (entry_of t i) r → all_blank (key_on b (entry_of t i) r (path_of (entry_of t i) j)) ≡ false
  pub owned : (r : ℕ) → Live b (entry_of t i) r
      → (m : ℕ) × Live b (masters_on t (entry_of t i) j) m × (master_key b (masters_on t (entry_of t i) j) m ≡ key_on b (entry_of t i) r (path_of (entry_of t i) j))
  pub chain : (m : ℕ) → Live b (masters_on t (entry_of t i) j) m
      → Seg (next_node t b i j m) (prior_node t b i j m) 0 (rows (master_key b (masters_on t (entry_of t i) j) m)) 0
  pub mine : (key : List ℕ) → All (Mine t b i j key) (rows key)
  pub full : (r : ℕ) → Live b (entry_of t i) r → In r (rows (key_on b (entry_of t i) r (path_of (entry_of t i) j)))

-- the data base stands for the rows
pub record Represents (t : Schema) (b : List ℕ) (rows : ℕ → ℕ → List ℕ → List ℕ) : Type 0 where
  pub sized : length b ≡ 512 * t.blocks
  pub sealed : (k : ℕ) → k < t.blocks → is_sealed (check_by t.edition) b k ≡ true
  pub clean : (n : ℕ) → n < set_count t → set_clean b (entry_of t n) ≡ true
  pub masters : (n : ℕ) → n < t.masters → MasterSet b (entry_of t n)
  pub paths : (i j : ℕ) → IsPathOf t i j → PathRows t b i j (rows i j)

-- ---- changes of one list of numbers

-- r after, or before, the first q; at the end where there is no q
unfoldable pub put_after : ℕ → ℕ → List ℕ → List ℕ
put_after q r [] = r ∷ []
put_after q r (x ∷ xs) = cond (eqb x q) (x ∷ r ∷ xs) (x ∷ put_after q r xs)

unfoldable pub put_before : ℕ → ℕ → List ℕ → List ℕ
put_before q r [] = r ∷ []
put_before q r (x ∷ xs) = cond (eqb x q) (r ∷ x ∷ xs) (x ∷ put_before q r xs)

abbrev pub inserted : Spot → ℕ → List ℕ → List ℕ
inserted Last r xs = xs ++ (r ∷ [])
inserted (After q) r xs = put_after q.0 r xs
inserted (Before q) r xs = put_before q.0 r xs

-- every r taken out
unfoldable pub without : ℕ → List ℕ → List ℕ
without r [] = []
without r (x ∷ xs) = cond (eqb x r) (without r xs) (x ∷ without r xs)
