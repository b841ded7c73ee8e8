use Prim.Native.Nat.{ℕ, ◌+◌}
use mathlib.Core.Path.{◌≡◌, ap, ◌∙◌}
use native.Mathlib.Omega.{arith}
use Rattle.console.specs.Lines.{end_from, end_of}
use Rattle.console.specs.LineLaws.{end_of-turn, end_of_le}
use Rattle.console.proofs.lines.end_of.Goals as goal

pub loop-i-init : goal.loop-i-init
unfolding end_of
loop-i-init c = (c.end_from-at.ensures, omega (arith, c.end_from-at.ensures, end_of_le c.args.line.now 0))

pub loop-i-preserved : goal.loop-i-preserved
loop-i-preserved c =
    let s = c.args.line.now in
    let e : c.end_from-at-in-loop-i.result ≡ end_of s (c.loop-i._i + 1) =
    c.end_from-at-in-loop-i.ensures ∙ ap (λ (a : ℕ). end_from s (a + 1)) c.loop-i.invariant.0 ∙ end_of-turn s c.loop-i._i in
    (e, omega (arith, e, end_of_le s (c.loop-i._i + 1)))

pub returns : goal.returns
returns c =
    let e : c.loop-i._i ≡ c.args.k = omega arith in
    c.loop-i.invariant.0 ∙ ap (end_of c.args.line.now) e
