-- Sets and paths in a data base of n bytes: what the functions that read and store ask of them, and that they are a schema's. InBaseLaws gives
-- the first from the second.
use Rattle.std.specs.Prelude.{ℕ, ◌+◌, ◌*◌, ◌≤◌, ◌<◌, ◌≡◌, List, get_or}
use Rattle.schema.specs.declared.Path.{Path}
use Rattle.schema.specs.declared.Entry.{Entry}
use Rattle.schema.specs.declared.Schema.{Schema}
use Rattle.schema.specs.Decode.{no_entry, entry_of, path_of, set_count, masters_on}
use Rattle.schema.specs.Place.{LiesIn}
use Rattle.schema.specs.Guarantee.{MasterOk, IsPathOf, SchemaOk}
use Rattle.records.specs.Fields.{Fields}

-- ---- they are a schema's

-- a schema that keeps the rules, and a base of its length
pub record Laid (t : Schema) (n : ℕ) : Type 0 where
  pub ok : SchemaOk t
  pub fields : (i : ℕ) → i < set_count t → Fields (entry_of t i)
  pub size : n ≡ 512 * t.blocks

-- e is a set of the schema t
pub record IsSetOf (t : Schema) (e : Entry) (n : ℕ) : Type 0 where
  pub laid : Laid t n
  pub number : ℕ
  pub among : number < set_count t
  pub here : e ≡ entry_of t number

-- of a schema
pub record IsSet (e : Entry) (n : ℕ) : Type 0 where
  pub schema : Schema
  pub set : IsSetOf schema e n

-- e is a set of masters
pub record IsMasterSet (e : Entry) (n : ℕ) : Type 0 where
  pub schema : Schema
  pub laid : Laid schema n
  pub number : ℕ
  pub among : number < schema.masters
  pub here : e ≡ entry_of schema number

-- p is path number `on` of the variable set e of the schema t, and x are the path's masters
pub record IsPathUnder (t : Schema) (e : Entry) (on : ℕ) (p : Path) (x : Entry) (n : ℕ) : Type 0 where
  pub laid : Laid t n
  pub number : ℕ
  pub is : IsPathOf t number on
  pub here : e ≡ entry_of t number
  pub path : p ≡ path_of e on
  pub masters : x ≡ masters_on t e on

-- a path of a schema
pub record IsPath (e : Entry) (p : Path) (x : Entry) (n : ℕ) : Type 0 where
  pub schema : Schema
  pub on : ℕ
  pub under : IsPathUnder schema e on p x n

-- path k's masters, of those that are kept for every path
abbrev pub masters_kept : List Entry → ℕ → Entry
masters_kept all k = get_or all k no_entry

-- they are those of the paths of the set e, as the schema t says
pub record MastersOf (t : Schema) (e : Entry) (all : List Entry) : Type 0 where
  pub same : (k : ℕ) → k < e.count → masters_kept all k ≡ masters_on t e k

-- p is path number `on` of a schema's variable set e, x are the path's masters, and `all` are those of every path
pub record IsPathAmong (e : Entry) (on : ℕ) (p : Path) (x : Entry) (all : List Entry) (n : ℕ) : Type 0 where
  pub schema : Schema
  pub under : IsPathUnder schema e on p x n
  pub kept : MastersOf schema e all

-- ---- what is asked of them

-- a set of either kind: its records have a state and three zeros
pub record SetIn (e : Entry) (n : ℕ) : Type 0 where
  pub lies : LiesIn e n
  pub fields : Fields e
  pub head : 4 ≤ e.size

-- a set of masters: their records have two ROOT words behind that
pub record MasterIn (e : Entry) (n : ℕ) : Type 0 where
  pub lies : LiesIn e n
  pub fields : Fields e
  pub ok : MasterOk e
  pub some : 1 ≤ e.records
  pub sized : 12 ≤ e.size

-- a path's key, prior and next lie in the records of the set
pub record PathIn (e : Entry) (p : Path) : Type 0 where
  pub key : p.len ≤ 16
  pub inside : p.at + p.len + 8 ≤ e.size

-- a variable set by itself
pub record PointsIn (e : Entry) (n : ℕ) : Type 0 where
  pub lies : LiesIn e n
  pub fields : Fields e
  pub some : 1 ≤ e.records
  pub kind : e.kind ≡ 2
  pub few : e.count ≤ 4
  pub head : 4 ≤ e.size
  pub path : (k : ℕ) → k < e.count → PathIn e (path_of e k)

-- the masters x of a path p: first and last of the path lie in their records
pub record MastersIn (x : Entry) (p : Path) (n : ℕ) : Type 0 where
  pub lies : LiesIn x n
  pub ok : MasterOk x
  pub some : 1 ≤ x.records
  pub key : p.len ≡ x.key
  pub link : p.link + 8 ≤ x.size

-- a path of a variable set, and its masters
pub record Reached (e : Entry) (p : Path) (x : Entry) (n : ℕ) : Type 0 where
  pub points : PointsIn e n
  pub path : PathIn e p
  pub masters : MastersIn x p n

-- a variable set with all its paths
pub record VariableIn (t : Schema) (e : Entry) (n : ℕ) : Type 0 where
  pub points : PointsIn e n
  pub number : (k : ℕ) → k < e.count → (path_of e k).master.0 < 4
  pub masters : (k : ℕ) → k < e.count → MastersIn (masters_on t e k) (path_of e k) n

-- the same, where the masters of every path are kept: they are a schema's
pub record PathsIn (e : Entry) (all : List Entry) (n : ℕ) : Type 0 where
  pub schema : Schema
  pub kept : MastersOf schema e all
  pub points : PointsIn e n
  pub masters : (k : ℕ) → k < e.count → MastersIn (masters_kept all k) (path_of e k) n
