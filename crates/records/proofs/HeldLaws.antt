-- What stands in front of a record's D bytes.
use Rattle.std.specs.Prelude.{◌≤◌, ◌≡◌, refl, Bool, true, false}
use Rattle.std.proofs.Common.{arith}
use Rattle.schema.specs.declared.Entry.{Entry}
use Rattle.records.specs.Areas.{is_master}
use Rattle.records.specs.Fields.{Fields}
use Rattle.records.proofs.AreaLaws.{head_inside}

module _ {e : Entry} where
  -- a set whose fields are known has a state and three zeros in front of them
  pub front-inside : Fields e → 4 ≤ e.body
  front-inside f = go (is_master e) refl
    where
      go : (b : Bool) → is_master e ≡ b → 4 ≤ e.body
      go true h = omega (arith, f.key h)
      go false h = head_inside e f h
