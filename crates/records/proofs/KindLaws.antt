-- Which sets hold masters: the first ones of a schema, and no others.
use Rattle.std.specs.Prelude.{ℕ, ◌≤◌, ◌<◌, ◌≡◌, refl, Bool, true, false, ltb}
use Rattle.std.proofs.Common.{arith, eq-eqb, ne_eqb, ltb-true, ltb-false}
use Rattle.octets.specs.TestLaws.{never_both}
use Rattle.schema.specs.declared.Schema.{Schema}
use Rattle.schema.specs.Decode.{entry_of, set_count}
use Rattle.schema.specs.Guarantee.{SchemaOk}
use Rattle.records.specs.Areas.{is_master}

module _ (t : Schema) (ok : SchemaOk t) (i : ℕ) where
  pub is_master_lem : i < t.masters → is_master (entry_of t i) ≡ true
  is_master_lem l = eq-eqb _ _ (ok.master i l).kind

  pub is_variable : t.masters ≤ i → i < set_count t → is_master (entry_of t i) ≡ false
  is_variable l u = ne_eqb (entry_of t i).kind 1 (λ e. omega (arith, (ok.variable i l u).kind))

  pub among-masters : i < set_count t → is_master (entry_of t i) ≡ true → i < t.masters
  among-masters u m = by (ltb i t.masters) refl
    where
      by : (b : Bool) → ltb i t.masters ≡ b → i < t.masters
      by true h = ltb-true i t.masters h
      by false h = absurd (never_both _ m (is_variable (ltb-false i t.masters h) u))

  pub behind-masters : is_master (entry_of t i) ≡ false → t.masters ≤ i
  behind-masters v = by (ltb i t.masters) refl
    where
      by : (b : Bool) → ltb i t.masters ≡ b → t.masters ≤ i
      by true h = absurd (never_both _ (is_master_lem (ltb-true i t.masters h)) v)
      by false h = ltb-false i t.masters h
