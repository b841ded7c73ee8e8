-- `commit::put_synonym` meets its contract: a word stored within the record that was moved is stored with it. Assumes nothing.
use mathlib.Core.Path.{◌≡◌}
use native.Mathlib.Omega.{arith}
use lib.ListN.{length}
use Rattle.schema.specs.Place.{place_of, record_of}
use Rattle.schema.proofs.PlaceLaws.{place_inside, record_length}
use Rattle.commit.specs.StoreLaws.{set_word_inner}
use Rattle.commit.proofs.put_synonym.Goals as goal

pub returns : goal.returns
returns c =
    let a = c.args in
    let l : length (record_of a.base.now a.e a.q.0) ≡ a.e.size = record_length a.base.now a.e a.q.0 c.requires.lies_in c.requires.in_set_2 in
    rw (c.put_word_in.ensures, c.move_into.ensures)
    (set_word_inner a.base.now (place_of a.e a.r.0) (record_of a.base.now a.e a.q.0) 8 0 (omega arith) (omega (arith, place_inside a.r.0 c.requires.lies_in c.requires.in_set)))
