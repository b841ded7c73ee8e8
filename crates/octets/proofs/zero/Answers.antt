-- `octets::zero` meets its contract: the part filled is the splice.
use Rattle.std.proofs.Common.{◌∙◌, ◌≡◌, ap}
use Rattle.std.proofs.lemmas.List.{length-replicate}
use Rattle.octets.specs.Octets.{zeros}
use Rattle.octets.specs.SpliceLaws.{splice-put, length_run}
use native.Mathlib.Nat.{add-sub_cancel_left}
use Rattle.octets.proofs.zero.Goals as goal

pub returns : goal.returns
returns c =
    let n = c.args.n in
    let e : c.fill.new.self ≡ zeros n = c.fill.ensures.after (λ y e. e) ∙ ap zeros (rw add-sub_cancel_left (length_run c.args.dst.now c.args.at n c.requires)) in
    rw e (splice-put c.args.at n c.args.dst.now (zeros n) (length-replicate n 0) c.requires)
