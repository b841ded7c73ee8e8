-- `records::fields::put_word_in` meets its contract: a word stored into the record's part is a word stored into the data base. Assumes nothing.
use native.Mathlib.Omega.{arith}
use native.Mathlib.Nat.{add-sub_cancel_left}
use Rattle.octets.specs.WordLaws.{set_word-part}
use Rattle.schema.specs.Place.{place_of}
use Rattle.schema.proofs.PlaceLaws.{place_inside}
use Rattle.records.proofs.fields.put_word_in.Goals as goal

pub overflow_add-end : goal.overflow_add-end
overflow_add-end c = omega (arith, place_inside c.args.r.0 c.requires.lies_in c.requires.in_set, c.place_of-at.ensures)

pub slice_bounds-put_word-end : goal.slice_bounds-put_word-end
slice_bounds-put_word-end c = omega (arith, place_inside c.args.r.0 c.requires.lies_in c.requires.in_set, c.place_of-at.ensures)

pub returns : goal.returns
returns c =
    let a = c.args in
    rw (add-sub_cancel_left c.place_of-at.result a.e.size, c.put_word.ensures, add-sub_cancel_left c.place_of-at.result a.e.size, c.place_of-at.ensures)
    (set_word-part (place_of a.e a.r.0) a.e.size a.base.now a.o a.v c.requires.o_bound)
