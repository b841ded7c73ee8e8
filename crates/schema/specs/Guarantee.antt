-- What a decoded schema guarantees: the one statement that every later room stands on. `GuaranteeLaws.guaranteed` proves it of every
-- schema that keeps the rules. It says nothing that document 01 does not: it is Rules and Layout, in the words of the decoded value.
use Rattle.std.specs.Prelude.{ℕ, ◌+◌, ◌*◌, ◌-◌, ◌/◌, ◌≤◌, ◌<◌, ◌≡◌, length}
use Rattle.octets.specs.Octets.{Apart}
use Rattle.schema.specs.declared.Path.{Path}
use Rattle.schema.specs.declared.Entry.{Entry}
use Rattle.schema.specs.declared.Schema.{Schema}
use Rattle.schema.specs.Decode.{entry_of, path_of, set_count}

-- a set of either kind: the schema's edition, R, whole records to a block, and its blocks within the T of the base
pub record SetOk (t : Schema) (e : Entry) : Type 0 where
  pub edition : e.edition ≡ t.edition
  pub some : 1 ≤ e.records
  pub many : e.records ≤ 65535
  pub per : 1 ≤ e.per
  pub whole : e.per * e.size ≤ 508
  pub sized : e.size ≡ e.body + e.room
  pub four : length e.paths ≡ 4
  pub inside : e.first.0 + (e.records - 1) / e.per < t.blocks

-- a master: its fields stand in front of the D bytes
pub record MasterOk (e : Entry) : Type 0 where
  pub kind : e.kind ≡ 1
  pub none : e.count ≡ 0
  pub key_least : 4 ≤ e.key
  pub key_most : e.key ≤ 16
  pub room : 12 + e.key ≤ e.body

-- a variable set
pub record VariableOk (e : Entry) : Type 0 where
  pub kind : e.kind ≡ 2
  pub some : 1 ≤ e.count
  pub few : e.count ≤ 4
  pub no_key : e.key ≡ 0
  -- "per path key, prior, next": a later path's fields stand behind an earlier one's
  pub ordered : (j k : ℕ) → j < k → k < e.count → (path_of e j).at + (path_of e j).len + 8 ≤ (path_of e k).at

-- a path p of the variable set e: its master, and its fields in both records
pub record PathOk (t : Schema) (e : Entry) (p : Path) : Type 0 where
  pub master : p.master.0 < t.masters
  pub letters : length p.letters ≡ 2
  pub same_key : p.len ≡ (entry_of t p.master.0).key
  pub key_least : 4 ≤ p.len
  pub key_most : p.len ≤ 16
  pub above : 4 ≤ p.at
  pub inside : p.at + p.len + 8 ≤ e.body
  pub link-above : 12 + p.len ≤ p.link
  pub link-inside : p.link + 8 ≤ (entry_of t p.master.0).body

-- path j of set i is a path of the schema
abbrev pub IsPathOf : Schema → ℕ → ℕ → Type 0
IsPathOf t i j = (t.masters ≤ i) × (i < set_count t) × (j < (entry_of t i).count)

pub record SchemaOk (t : Schema) : Type 0 where
  pub some-masters : 1 ≤ t.masters
  pub few-masters : t.masters ≤ 4
  pub few-variables : t.variables ≤ 4
  pub eight : length t.entries ≡ 8
  pub blocks : t.blocks ≤ 4096
  pub set : (i : ℕ) → i < set_count t → SetOk t (entry_of t i)
  pub master : (i : ℕ) → i < t.masters → MasterOk (entry_of t i)
  pub variable : (i : ℕ) → t.masters ≤ i → i < set_count t → VariableOk (entry_of t i)
  pub path : (i j : ℕ) → IsPathOf t i j → PathOk t (entry_of t i) (path_of (entry_of t i) j)
  -- "Sets lie .. in entry order, each from a fresh block": a later set begins behind an earlier one's last block
  pub sets_apart : (i k : ℕ) → i < k → k < set_count t → (entry_of t i).first.0 + ((entry_of t i).records - 1) / (entry_of t i).per < (entry_of t k).first.0
  -- two paths to one master have linkage fields of their own
  pub links-apart : (i j k l : ℕ) → IsPathOf t i j → IsPathOf t k l → ((i ≡ k) × (j ≡ l) → ⊥) → (path_of (entry_of t i) j).master.0 ≡ (path_of (entry_of t k) l).master.0
      → Apart (path_of (entry_of t i) j).link 8 (path_of (entry_of t k) l).link 8
  -- names and letters
  pub words : (i : ℕ) → i < set_count t → (entry_of t i).name < 4294967296
  pub names : (i k : ℕ) → i < k → k < set_count t → (entry_of t i).name ≡ (entry_of t k).name → ⊥
  pub letters : (i j k : ℕ) → j < k → IsPathOf t i k → (path_of (entry_of t i) j).letters ≡ (path_of (entry_of t i) k).letters → ⊥
