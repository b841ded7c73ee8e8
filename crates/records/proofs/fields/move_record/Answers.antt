-- `records::fields::move_record` meets its contract: both records lie within the data base, and they lie apart. Assumes nothing.
use mathlib.Core.Path.{sym}
use native.Mathlib.Omega.{arith}
use Rattle.schema.proofs.PlaceLaws.{place_inside, records-apart}
use Rattle.records.proofs.fields.move_record.Goals as goal

pub move_within-requires : goal.move_within-requires
move_within-requires c =
    let a = c.args in
    let ok = c.requires.lies_in in record {
      n_in_bounds = omega (arith, c.place_of.ensures, place_inside a.from.0 ok c.requires.in_set);
      n_in_bounds_2 = omega (arith, c.place_of-2.ensures, place_inside a.to.0 ok c.requires.in_set_2);
      apart = rw (c.place_of-2.ensures, c.place_of.ensures)
          (records-apart a.to.0 a.from.0 ok c.requires.in_set_2 c.requires.in_set (λ k. c.requires.fact (sym k)));
    }

pub returns : goal.returns
returns c = cc
