-- `decode::build::path` meets its contract: the fields of the slot, with its two places.
use Rattle.schema.specs.Layout.{link_place}
use Rattle.decode.proofs.build.path.Goals as goal

pub returns : goal.returns
unfolding link_place
returns c =
    cc (c.requires.at_value, c.requires.n_value, c.past_links.ensures, c.key_length-len.ensures)
