-- `console::act` meets its contract: the line's area is copied, and none is shown.
use Rattle.std.proofs.Common.{◌≡◌, refl, length, take, arith}
use Rattle.octets.specs.Octets.{zeros}
use Rattle.octets.specs.SpliceLaws.{run_splice}
use Rattle.octets.specs.Text.{text}
use Rattle.console.specs.ConsoleLaws.{replied}
use Rattle.console.proofs.act.Goals as goal

pub returns : goal.returns
returns c =
    let whole : take (length c.args.asked.now.area.now) c.copy_in.new.dst ≡ c.args.asked.now.area.now =
    rw c.copy_in.ensures (run_splice (zeros 128) 0 c.args.asked.now.area.now (omega (arith, c.requires.given_len_bound))) in
    replied c.args.number _ c.answer-at.result c.args.asked.now.operation c.args.out.now c.answer-at.new.out _ (text "-") (rw whole at c.call-a.ensures)
    (rw c.requires.op_value refl) c.answer-at.ensures.1 c.answer-at.ensures.2 c.finish.ensures.0 c.finish.ensures.1 c.finish.ensures.2 c.finish.ensures.3
