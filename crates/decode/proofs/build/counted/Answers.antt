use Rattle.decode.specs.DecodeLaws.{counted_none}
use Rattle.decode.proofs.build.counted.Goals as goal

pub loop-q-init : goal.loop-q-init
loop-q-init c = counted_none c.args.s.now
