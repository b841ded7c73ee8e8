-- `records::fields::key_is` meets its contract: a run of the record is a run of the data base.
use Prim.Native.Nat.{◌+◌}
use mathlib.Core.Path.{◌≡◌, ap, ◌∙◌}
use native.Mathlib.Omega.{arith}
use lib.ListN.{length}
use Rattle.octets.specs.Octets.{same_bytes}
use Rattle.octets.specs.SpliceLaws.{run_run}
use Rattle.terms.specs.Terms.{key_of}
use Rattle.schema.specs.Place.{place_of}
use Rattle.schema.proofs.PlaceLaws.{record_length}
use Rattle.records.proofs.fields.key_is.Goals as goal

pub at-requires : goal.at-requires
at-requires c =
    let a = c.args in
    let l : length c.record_of.result.now ≡ a.e.now.size = ap length c.record_of.ensures ∙ record_length a.base.now a.e.now a.r.0 c.requires.lies_in c.requires.in_set in
    (c.requires.len_bound.0, omega arith)

pub returns : goal.returns
returns c =
    let a = c.args in
    rw (c.at.ensures, c.record_of.ensures)
    (ap (same_bytes (key_of a.k)) (run_run a.base.now (place_of a.e.now a.r.0) a.e.now.size a.o a.k.len c.requires.len_bound.1))
