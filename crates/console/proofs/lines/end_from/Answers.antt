use Prim.Native.Nat.{ℕ, ◌-◌, ◌+◌}
use mathlib.Core.Path.{refl, sym, ◌∙◌}
use mathlib.Core.Bool.{Bool}
use mathlib.Core.List.{List}
use native.Mathlib.Omega.{arith}
use lib.Dec.{eqb}
use lib.ListN.{length, get_or}
use borrow.Author.Tests.{eq-eqb, ne_eqb}
use Rattle.octets.specs.BelowLaws.{lowest_from-turn, lowest_from_hit, lowest_from_end}
use Rattle.console.specs.LineLaws.{end_from_ge, end_from_le}
use Rattle.console.proofs.lines.end_from.Goals as goal

abbrev blank_at : List ℕ → ℕ → Bool
blank_at line i = eqb (get_or line i 0) 32

pub loop-i-init : goal.loop-i-init
loop-i-init c = refl

pub returns-then-line-i-eq32 : goal.returns-then-line-i-eq32
returns-then-line-i-eq32 c =
    let s = c.args.line.now in
    sym (lowest_from_hit (blank_at s) (length s - c.loop-i.i) (length s - (c.loop-i.i + 1)) c.loop-i.i (omega arith) (eq-eqb _ _ c.if-line-i-eq32.true)) ∙ c.loop-i.invariant

pub loop-i-preserved : goal.loop-i-preserved
loop-i-preserved c =
    let s = c.args.line.now in
    sym (lowest_from-turn (blank_at s) (length s - c.loop-i.i) (length s - (c.loop-i.i + 1)) c.loop-i.i (omega arith) (ne_eqb _ _ c.if-line-i-eq32.false)) ∙ c.loop-i.invariant

pub returns : goal.returns
returns c =
    let s = c.args.line.now in
    let e = sym (lowest_from_end (blank_at s) (length s - c.loop-i.i) c.loop-i.i (omega arith)) ∙ c.loop-i.invariant in
    omega (arith, e, c.max.ensures, end_from_ge s c.args.at, end_from_le s c.args.at)
