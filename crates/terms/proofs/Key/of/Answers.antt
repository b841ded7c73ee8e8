-- `terms::Key::of` meets its contract: what is copied in is read again.
use mathlib.Core.Path.{refl, ◌∙◌}
use native.Mathlib.Omega.{arith}
use Rattle.octets.specs.Octets.{zeros}
use Rattle.octets.specs.SpliceLaws.{run_splice}
use Rattle.terms.specs.Laws.{key_copied}
use Rattle.terms.proofs.Key.of.Goals as goal

pub returns : goal.returns
returns c =
    let e = c.copy_in.ensures ∙ key_copied c.args.s.now c.requires in
    (rw c.copy_in.ensures (run_splice (zeros 16) 0 c.args.s.now (omega arith)), refl, rw e refl)
