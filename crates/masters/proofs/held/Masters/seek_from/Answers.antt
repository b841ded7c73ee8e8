use mathlib.Core.Path.{◌≡◌, refl, sym, ap, ◌∙◌}
use native.Mathlib.Omega.{arith}
use native.Mathlib.Nat.{sub-zero}
use borrow.Author.Rules.{rules}
use Rattle.terms.specs.Terms.{key_of}
use Rattle.masters.specs.Find.{seek}
use Rattle.masters.specs.Walks.{resolve}
use Rattle.masters.proofs.WalkLaws.{Onward, seek_on, walk_turn, walk_ends, walk_goes}
use Rattle.masters.proofs.held.Masters.seek_from.Goals as goal

pub loop-r-init : goal.loop-r-init
loop-r-init c = (search rules, rw sub-zero, rw sub-zero)

pub returns-in-Found : goal.returns-in-Found
returns-in-Found c =
    record {
      found_value = rw c.in-Found.is at ((let by_turned : resolve (seek_on c.args.self.now.base.now c.args.self.now.entry.now (key_of c.args.k)) c.step.result ≡ seek c.args.self.now.entry.now.records c.args.self.now.base.now c.args.self.now.entry.now (key_of c.args.k) c.args.h.0 = let w = c.loop-r.w in
          let a = c.args in
          ap (resolve (seek_on a.self.now.base.now a.self.now.entry.now (key_of a.k))) c.step.ensures
          ∙ sym (walk_turn a.self.now.base.now a.self.now.entry.now (key_of a.k) w)
          ∙ c.loop-r.invariant.1 in by_turned));
      last_value = refl;
    }

pub returns-in-Absent : goal.returns-in-Absent
returns-in-Absent c =
    let a = c.args in
    let t = walk_ends a.self.now.base.now a.self.now.entry.now (key_of a.k) c.loop-r.w (sym c.step.ensures ∙ c.in-Absent.is) in
    record {
      found_value = rw c.in-Absent.is at ((let by_turned : resolve (seek_on c.args.self.now.base.now c.args.self.now.entry.now (key_of c.args.k)) c.step.result ≡ seek c.args.self.now.entry.now.records c.args.self.now.base.now c.args.self.now.entry.now (key_of c.args.k) c.args.h.0 = let w = c.loop-r.w in
          let a = c.args in
          ap (resolve (seek_on a.self.now.base.now a.self.now.entry.now (key_of a.k))) c.step.ensures
          ∙ sym (walk_turn a.self.now.base.now a.self.now.entry.now (key_of a.k) w)
          ∙ c.loop-r.invariant.1 in by_turned));
      last_value = sym t ∙ c.loop-r.invariant.2;
    }

pub returns-in-Damaged : goal.returns-in-Damaged
returns-in-Damaged c =
    record {
      found_value = rw c.in-Damaged.is at ((let by_turned : resolve (seek_on c.args.self.now.base.now c.args.self.now.entry.now (key_of c.args.k)) c.step.result ≡ seek c.args.self.now.entry.now.records c.args.self.now.base.now c.args.self.now.entry.now (key_of c.args.k) c.args.h.0 = let w = c.loop-r.w in
          let a = c.args in
          ap (resolve (seek_on a.self.now.base.now a.self.now.entry.now (key_of a.k))) c.step.ensures
          ∙ sym (walk_turn a.self.now.base.now a.self.now.entry.now (key_of a.k) w)
          ∙ c.loop-r.invariant.1 in by_turned));
      last_value = refl;
    }

pub loop-r-smaller : goal.loop-r-smaller
loop-r-smaller c = omega (
  arith,
  (let by_goes : Onward c.args.self.now.base.now c.args.self.now.entry.now c.loop-r.w c.in-Next.n = let a = c.args in
      walk_goes a.self.now.base.now a.self.now.entry.now (key_of a.k) c.loop-r.w c.in-Next.n (sym c.step.ensures ∙ c.in-Next.is) in by_goes),
)

pub loop-r-preserved : goal.loop-r-preserved
loop-r-preserved c =
    let g = (let by_goes2 : Onward c.args.self.now.base.now c.args.self.now.entry.now c.loop-r.w c.in-Next.n = let a = c.args in
    walk_goes a.self.now.base.now a.self.now.entry.now (key_of a.k) c.loop-r.w c.in-Next.n (sym c.step.ensures ∙ c.in-Next.is) in by_goes2) in (
      omega arith,
      rw c.in-Next.is at ((let by_turned : resolve (seek_on c.args.self.now.base.now c.args.self.now.entry.now (key_of c.args.k)) c.step.result ≡ seek c.args.self.now.entry.now.records c.args.self.now.base.now c.args.self.now.entry.now (key_of c.args.k) c.args.h.0 = let w = c.loop-r.w in
          let a = c.args in
          ap (resolve (seek_on a.self.now.base.now a.self.now.entry.now (key_of a.k))) c.step.ensures
          ∙ sym (walk_turn a.self.now.base.now a.self.now.entry.now (key_of a.k) w)
          ∙ c.loop-r.invariant.1 in by_turned)),
      sym g.tail ∙ c.loop-r.invariant.2,
    )
