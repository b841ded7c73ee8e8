-- What a call that passes every test answers and stores: document 01, "Chains". `x` is the scene, `c` the call.
use Rattle.std.specs.Prelude.{ℕ, cond, List, [], ◌∷◌, eqb, ltb}
use Rattle.terms.specs.Terms.{end_ref}
use Rattle.terms.specs.declared.Operation.{Operation}
use Rattle.terms.specs.declared.Operation.TheVariants.{Formt, AddM, DelM, Readm, Writm, Rqloc, Rdnxt, Readv, Readr, Readd, Writv, Addvb, Addva, Delvd}
use Rattle.blocks.specs.Blocks.{check_by}
use Rattle.schema.specs.declared.Path.{Path}
use Rattle.schema.specs.declared.Entry.{Entry}
use Rattle.records.specs.Records.{first_on, last_on, prior_on, next_on}
use Rattle.records.specs.Areas.{area_of, area_body}
use Rattle.plans.specs.Plan.{Store, store_run, committed, formatted}
use Rattle.scan.specs.Scan.{next_live}
use Rattle.masters.specs.Find.{home_in, record_found}
use Rattle.masters.specs.Root.{add_master_stores, del_master_stores}
use Rattle.points.specs.declared.Spot.{Spot}
use Rattle.points.specs.declared.Spot.TheVariants.{Last, After, Before}
use Rattle.points.specs.Points.{add_place, add_stores, del_stores}
use Rattle.calls.specs.Call.{Call, one_of, chosen, adds, reads}
use Rattle.calls.specs.Scene.{Scene}
use Rattle.schema.specs.Naming.{link_of}

-- the record of the named master, and the home of the control key
abbrev pub master_in : Scene → ℕ
master_in x = record_found x.found

abbrev pub home_of_key : Scene → Call → ℕ
home_of_key x c = home_in x.masters c.key

-- the whole area that a call brings: all that stands behind AREA speaks of this one
abbrev pub full_area : Scene → Call → List ℕ
full_area x c = c.area

-- ---- the record that a read gives; 0 where there is none

-- "READV with LKxx gives the first record, with a number the one after it; READR the last, or the one before."
abbrev pub forward : Scene → Call → ℕ
forward x c =
    cond (eqb c.reference (link_of x.path))
    (first_on c.base x.masters (master_in x) x.path)
    (next_on c.base x.entry c.reference x.path)

abbrev pub backward : Scene → Call → ℕ
backward x c =
    cond (eqb c.reference (link_of x.path))
    (last_on c.base x.masters (master_in x) x.path)
    (prior_on c.base x.entry c.reference x.path)

-- "RDNXT reads the next live one above the reference, 0 to begin"
abbrev pub or_none : Entry → ℕ → ℕ
or_none e r = cond (ltb e.records r) 0 r

abbrev pub sweep : Scene → Call → ℕ
sweep x c = or_none x.entry (next_live c.base x.entry c.reference)

abbrev pub given_by : Operation → Scene → Call → ℕ
given_by o x c =
    chosen o
    ((Readm ∷ [], master_in x)
    ∷ (Rdnxt ∷ [], sweep x c)
    ∷ (Readv ∷ [], forward x c)
    ∷ (Readr ∷ [], backward x c)
    ∷ (Readd ∷ [], c.reference)
    ∷ [])
    0

unfoldable pub given : Scene → Call → ℕ
given x c = given_by x.operation x c

-- ---- where an add puts its record

abbrev pub spot_of : Operation → ℕ → Spot
spot_of o r = chosen o ((Addva ∷ [], After (record { 0 = r })) ∷ (Addvb ∷ [], Before (record { 0 = r })) ∷ []) Last

-- the number of that record
abbrev pub new_record : Operation → Scene → Call → ℕ
new_record o x c = add_place c.base x.schema x.entry (full_area x c) (spot_of o c.reference) x.on

-- ---- the reference

-- "No such record: status 0, reference END."
abbrev pub or_end : ℕ → ℕ
or_end r = cond (eqb r 0) end_ref r

-- "returns the prior record on the named path, or LKxx if there was none (table 5-3)"
abbrev pub or_link : Path → ℕ → ℕ
or_link p r = cond (eqb r 0) (link_of p) r

abbrev pub reference_by : Operation → Scene → Call → ℕ
reference_by o x c =
    chosen o
    ((reads, or_end (given x c))
    ∷ (Rqloc ∷ [], home_of_key x c)
    ∷ (adds, new_record o x c)
    ∷ (Delvd ∷ [], or_link x.path (prior_on c.base x.entry c.reference x.path))
    ∷ [])
    c.reference

unfoldable pub reference_after : Scene → Call → ℕ
reference_after x c = reference_by x.operation x c

-- ---- the area: only a read that gives a record changes it

-- what the call is shown of a record's area
abbrev pub shown_area : Scene → Call → List ℕ → List ℕ
shown_area x c whole = whole

unfoldable pub area_after : Scene → Call → List ℕ
area_after x c = cond (eqb (given x c) 0) c.area (shown_area x c (area_of c.base x.entry (given x c)))

-- ---- the stores and the data base

-- "WRITM and WRITV replace the D bytes."
abbrev pub write_stores : Scene → Call → ℕ → List Store
write_stores x c r = store_run x.entry r x.entry.body (area_body x.entry (full_area x c)) ∷ []

abbrev pub stores_by : Operation → Scene → Call → List Store
stores_by o x c =
    chosen o
    ((AddM ∷ [], add_master_stores c.base x.entry (home_of_key x c) (full_area x c))
    ∷ (DelM ∷ [], del_master_stores c.base x.entry (home_of_key x c) (master_in x))
    ∷ (Writm ∷ [], write_stores x c (master_in x))
    ∷ (Writv ∷ [], write_stores x c c.reference)
    ∷ (adds, add_stores c.base x.schema x.entry (full_area x c) (spot_of o c.reference) x.on (new_record o x c))
    ∷ (Delvd ∷ [], del_stores c.base x.schema x.entry c.reference)
    ∷ [])
    []

unfoldable pub stores_of : Scene → Call → List Store
stores_of x c = stores_by x.operation x c

unfoldable pub base_after : Scene → Call → List ℕ
base_after x c = cond (one_of x.operation (Formt ∷ [])) (formatted (check_by x.schema.edition) x.schema.blocks) (committed (check_by x.schema.edition) c.base (stores_of x c))
