-- `records::fields::key_in` meets its contract: a run of the record is a run of the data base.
use Prim.Native.Nat.{◌+◌}
use mathlib.Core.Path.{◌≡◌, ap, ◌∙◌}
use native.Mathlib.Omega.{arith}
use lib.ListN.{length}
use Rattle.octets.specs.Octets.{run}
use Rattle.octets.specs.SpliceLaws.{run_run}
use Rattle.terms.specs.Terms.{key_from}
use Rattle.schema.specs.Place.{place_of}
use Rattle.schema.proofs.PlaceLaws.{record_length}
use Rattle.records.proofs.fields.key_in.Goals as goal

pub part-requires : goal.part-requires
part-requires c =
    let a = c.args in
    let l : length c.record_of.result.now ≡ a.e.now.size = ap length c.record_of.ensures ∙ record_length a.base.now a.e.now a.r.0 c.requires.lies_in c.requires.in_set in
    (c.requires.len_bound.0, omega arith)

pub returns : goal.returns
returns c =
    let a = c.args in
    let q : run c.record_of.result.now a.o a.len ≡ run a.base.now (place_of a.e.now a.r.0 + a.o) a.len =
    rw c.record_of.ensures (run_run a.base.now (place_of a.e.now a.r.0) a.e.now.size a.o a.len c.requires.len_bound.1) in
    (c.part.ensures.0 ∙ q, c.part.ensures.1, c.part.ensures.2 ∙ ap key_from q)
