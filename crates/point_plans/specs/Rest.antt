-- Document 01, "Order": what is left of the ladder for the adds and DELVD once the named master and the referenced record are known: "the
-- other paths' masters in path order (16, then 12; in DELVD an absent one is 16); 14; 15; 16". Whether the blocks stored into have true
-- checks is asked by the commit. `on` is the number of the named path.
use Rattle.std.specs.Prelude.{ℕ, zero, suc, cond, List, eqb}
use Rattle.terms.specs.declared.Status.{Status}
use Rattle.terms.specs.declared.Status.TheVariants.{Done, Mrnf, Full, Damg}
use Rattle.terms.specs.Status.{first_of}
use Rattle.schema.specs.declared.Entry.{Entry}
use Rattle.schema.specs.declared.Schema.{Schema}
use Rattle.schema.specs.Decode.{masters_on}
use Rattle.records.specs.Areas.{area_key_on}
use Rattle.masters.specs.declared.Found.{Found}
use Rattle.masters.specs.declared.Found.TheVariants.{At, Missing, Damaged}
use Rattle.masters.specs.Find.{find}
use Rattle.scan.specs.Scan.{is_full}
use Rattle.points.specs.declared.Spot.{Spot}
use Rattle.points.specs.Points.{add_damaged, own_key, del_damaged}

-- "16, then 12": what the search for a path's master answers
abbrev pub master_status : Status → Found → Status
master_status absent (At r) = Done
master_status absent Missing = absent
master_status absent Damaged = Damg

-- `x` are the masters of each path
module _ (b : List ℕ) (x : ℕ → Entry) (on : ℕ) (absent : Status) (key : ℕ → List ℕ) where
  -- path k: the named path's master is known
  abbrev pub other_master : ℕ → Status
  other_master k = cond (eqb k on) Done (master_status absent (find b (x k) (key k)))

  -- "the other paths' masters in path order": Done where each of the first n paths but the named one has its master; else the first refusal
  unfoldable pub other_masters : ℕ → Status
  other_masters zero = Done
  other_masters (suc n) = first_of (other_masters n) (other_master n)

-- an add: the other masters (12), 15, 16
unfoldable pub add_status : List ℕ → Schema → Entry → List ℕ → Spot → ℕ → Status
add_status b t e area spot on =
    first_of (other_masters b (masters_on t e) on Mrnf (area_key_on e area) e.count)
    (cond (is_full b e) Full (cond (add_damaged b t e area spot on) Damg Done))

-- DELVD of the record r: the other masters (16), 16
unfoldable pub del_status : List ℕ → Schema → Entry → ℕ → ℕ → Status
del_status b t e r on = first_of (other_masters b (masters_on t e) on Damg (own_key b t e r) e.count) (cond (del_damaged b t e r) Damg Done)
