use Rattle.std.specs.Prelude.{ℕ, Bool, eqb}
use Rattle.std.proofs.Common.{arith, eq-eqb, ne_eqb}
use Rattle.schema.specs.declared.Schema.{Schema}
use Rattle.schema.specs.Decode.{entry_of, set_count}
use Rattle.schema.specs.Naming.{set_of}
use Rattle.schema.specs.Numbers.{lowest_here, not_here, lowest_nowhere, entry_found_here, entry_nowhere}
use Rattle.schema.proofs.layout.set_of.Goals as goal

abbrev is_named : Schema → ℕ → ℕ → Bool
is_named t name k = eqb (entry_of t k).name name

pub returns-then-e-name : goal.returns-then-e-name
returns-then-e-name c =
    let x = lowest_here (is_named c.args.t c.args.name) c.sets-n.result c.loop-i.i c.loop-i.invariant c.loop-i-test.true (eq-eqb _ _ c.if-e-name.true) in
    entry_found_here (set_count c.args.t) c.loop-i.i (set_of c.args.t c.args.name) (omega (arith, c.loop-i-test.true, c.sets-n.ensures)) x

pub loop-i-preserved : goal.loop-i-preserved
loop-i-preserved c =
    not_here (is_named c.args.t c.args.name) c.sets-n.result c.loop-i.i c.loop-i.invariant c.loop-i-test.true (ne_eqb _ _ c.if-e-name.false)

pub returns : goal.returns
returns c =
    let x = lowest_nowhere (is_named c.args.t c.args.name) c.sets-n.result c.loop-i.i c.loop-i.invariant c.loop-i-test.false in
    entry_nowhere (set_count c.args.t) (set_of c.args.t c.args.name) (omega (arith, c.loop-i-test.false, c.sets-n.ensures, x))
