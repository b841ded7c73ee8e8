use mathlib.Core.Path.{◌≡◌, ap, ◌∙◌}
use native.Mathlib.Omega.{arith}
use borrow.Author.Rules.{rules}
use Rattle.octets.specs.BelowLaws.{fill_step}
use Rattle.schema.specs.declared.Path.{Path}
use Rattle.schema.specs.Decode.{no_entry, entry_of, masters_on}
use Rattle.point_plans.specs.PathLaws.{filled_at}
use Rattle.point_calls.proofs.paths.masters_of.Goals as goal

pub loop-k-preserved : goal.loop-k-preserved
loop-k-preserved c =
    let a = c.args in (
      search rules,
      fill_step (masters_on a.t a.e) c.loop-k.all c.loop-k.k _ (omega (arith, c.requires.points.few)) c.loop-k.invariant.1
          (c.entry_of.ensures ∙ ap (λ (q : Path). entry_of a.t q.master.0) c.path_of-p.ensures),
    )

pub returns : goal.returns
returns c =
    let a = c.args in
    let k : c.loop-k.k ≡ a.e.count = omega arith in
    record { same = filled_at (masters_on a.t a.e) c.loop-k.all a.e.count no_entry (rw k at c.loop-k.invariant.1) }
