-- `point_plans::OwnedPoint::add` meets its contract: full, damaged, or a plan.
use mathlib.Core.Path.{◌≡◌, refl, sym, ap, ◌∙◌}
use mathlib.Core.List.{List}
use Prim.Native.Nat.{ℕ}
use borrow.Author.Tests.{lt-ltb, le-ltb}
use mathlib.Core.Bool.{true, false}
use Rattle.std.specs.Prelude.{Some, None}
use Rattle.std.proofs.lemmas.Result.{err_from_is_err_and}
use native.Mathlib.Omega.{arith}
use Rattle.terms.specs.declared.RecordNo.{RecordNo}
use Rattle.terms.specs.declared.Refusal.TheVariants as refusal
use Rattle.schema.specs.Numbers.{record_up_to, some_record, no_record_up_to}
use Rattle.schema.specs.declared.Entry.{Entry}
use Rattle.records.specs.declared.Link.{Link}
use Rattle.records.specs.Areas.{no_link}
use Rattle.scan.specs.Scan.{is_full}
use Rattle.points.specs.Points.{new_place}
use Rattle.points.specs.PlaceLaws.{new_place-full}
use Rattle.point_plans.specs.Paths.{link_at}
use Rattle.point_plans.specs.PathLaws.{filled_at}
use Rattle.point_plans.specs.DamageLaws.{damaged-kept, links_in}
use Rattle.point_plans.specs.PlanLaws.{linked-same}
use Rattle.point_plans.proofs.held.OwnedPoint.add.Goals as goal

-- there is no place in a full set, and one in a set that is not
module _ (b : List ℕ) (e : Entry) (p : ℕ) where
  no_place : None ≡ record_up_to e.records (new_place b e p) → is_full b e ≡ true
  no_place h = sym (new_place-full b e p) ∙ lt-ltb _ _ (no_record_up_to e.records (new_place b e p) h)

  some_place : {r : RecordNo} → Some r ≡ record_up_to e.records (new_place b e p) → (r.0 ≡ new_place b e p) × (is_full b e ≡ false)
  some_place h =
      let w = some_record e.records (new_place b e p) h in
      (w.0, sym (new_place-full b e p) ∙ le-ltb _ _ (omega (arith, w)))

pub returns-in_err-place-clause-status : goal.returns-in_err-place-clause-status
returns-in_err-place-clause-status c =
    let p = err_from_is_err_and c.from_residual.result c.from_residual.ensures.1 in
    let none : None ≡ c.new_place.result = grind arith in
    let why : c.in_err-place.field-0.0 ≡ refusal.Full = grind arith in
    rw (p.1, p.2, why, no_place c.args.self.now.base.now c.args.self.now.entry.now _ (none ∙ c.new_place.ensures)) refl

pub returns-then-any_damaged-clause-status : goal.returns-then-any_damaged-clause-status
returns-then-any_damaged-clause-status c =
    let a = c.args in
    let some : Some c.in_ok-place.place ≡ c.new_place.result = grind arith in
    rw (
      (some_place a.self.now.base.now a.self.now.entry.now _ (some ∙ c.new_place.ensures)).1,
      damaged-kept a.self.now.base.now a.self.now.entry.now a.self.now.src.now a.self.now.at a.self.now.owners _ c.any_damaged.ensures c.new_links-links.ensures.result_value ∙ c.if-any_damaged.true,
    ) refl

pub linked_plan-requires : goal.linked_plan-requires
linked_plan-requires c =
    let a = c.args in
    links_in a.self.now.base.now a.self.now.entry.now a.self.now.src.now a.self.now.at a.self.now.owners _ (sym c.any_damaged.ensures ∙ c.if-any_damaged.false)

pub returns : goal.returns
returns c =
    let a = c.args in
    let kept = c.new_links-links.ensures.result_value in
    let some : Some c.in_ok-place.place ≡ c.new_place.result = grind arith in
    let place = some_place a.self.now.base.now a.self.now.entry.now _ (some ∙ c.new_place.ensures) in
    record {
      status = rw (place.1, damaged-kept a.self.now.base.now a.self.now.entry.now a.self.now.src.now a.self.now.at a.self.now.owners _ c.any_damaged.ensures kept ∙ c.if-any_damaged.false) refl;
      built = linked-same a.self.now.entry.now a.self.now.owners kept
          (place.0 ∙ ap (λ (l : Link). new_place a.self.now.base.now a.self.now.entry.now l.prior) (filled_at (link_at a.self.now.base.now a.self.now.entry.now a.self.now.owners a.spot a.on) _ a.self.now.entry.now.count no_link kept a.on c.requires.on_lt_count))
          c.linked_plan.ensures;
    }
