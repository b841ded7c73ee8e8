use Rattle.std.specs.Prelude.{ℕ, Bool, List}
use Rattle.std.proofs.Common.{refl, sym, ◌∙◌, arith}
use Rattle.std.proofs.Math.Nat.{sub-zero}
use Rattle.octets.specs.Octets.{same_bytes}
use Rattle.schema.specs.declared.Entry.{Entry}
use Rattle.schema.specs.declared.Schema.{Schema}
use Rattle.schema.specs.Decode.{path_of}
use Rattle.schema.specs.Naming.{path_name, path_named}
use Rattle.schema.specs.Numbers.{lowest_here, not_here, lowest_nowhere, number_here, number_nowhere}
use Rattle.names.proofs.path_named.Goals as goal

abbrev has_name : Schema → Entry → List ℕ → ℕ → Bool
has_name t e name k = same_bytes (path_name t (path_of e k)) name

pub loop-j-init : goal.loop-j-init
unfolding path_named
loop-j-init c = rw sub-zero refl

pub is_named-requires : goal.is_named-requires
is_named-requires c = rw c.path_of-p.ensures (c.requires.named c.loop-j.j c.loop-j-test.true)

pub returns-then-is_named : goal.returns-then-is_named
returns-then-is_named c =
    let told = rw c.path_of-p.ensures at (sym c.is_named.ensures ∙ c.if-is_named.true) in
    number_here c.args.e.count c.loop-j.j _ c.loop-j-test.true (lowest_here (has_name c.args.t c.args.e c.args.name.now) c.args.e.count c.loop-j.j c.loop-j.invariant c.loop-j-test.true told)

pub loop-j-preserved : goal.loop-j-preserved
loop-j-preserved c =
    let told = rw c.path_of-p.ensures at (sym c.is_named.ensures ∙ c.if-is_named.false) in
    not_here (has_name c.args.t c.args.e c.args.name.now) c.args.e.count c.loop-j.j c.loop-j.invariant c.loop-j-test.true told

pub returns : goal.returns
returns c =
    let x = lowest_nowhere (has_name c.args.t c.args.e c.args.name.now) c.args.e.count c.loop-j.j c.loop-j.invariant c.loop-j-test.false in
    number_nowhere c.args.e.count _ (omega (arith, c.loop-j-test.false, x))
