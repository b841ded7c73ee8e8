-- `decode::build::decoded` meets its contract: the form's rules give what the callees require.
use Rattle.schema.proofs.FormFacts.{formed}
use Rattle.decode.proofs.build.decoded.Goals as goal

pub counted-l-requires : goal.counted-l-requires
counted-l-requires c = formed c.args.s.now c.requires

pub laid_out-requires : goal.laid_out-requires
laid_out-requires c =
    record { formed = formed c.args.s.now c.requires; s_value = c.requires; counted = c.counted-l.ensures }
