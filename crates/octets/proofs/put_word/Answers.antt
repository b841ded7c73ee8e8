-- `octets::put_word` meets its contract: the part replaced is the splice of the word's bytes.
use Rattle.std.proofs.Common.{refl}
use Rattle.octets.specs.Octets.{word_bytes, set_word}
use Rattle.octets.specs.SpliceLaws.{splice-put}
use Rattle.octets.proofs.put_word.Goals as goal

pub returns : goal.returns
unfolding set_word
returns c =
    rw (c.copy_from_slice.ensures.after, c.to_be_bytes.ensures) (splice-put c.args.at 4 c.args.s.now (word_bytes c.args.v) refl c.requires)
