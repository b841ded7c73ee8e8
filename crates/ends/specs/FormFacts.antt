-- What a call knows of its parameters once their forms are right.
use Rattle.std.specs.Prelude.{ℕ, ◌≡◌, true, ◌&&◌, List, eqb, length}
use Rattle.std.proofs.Math.Bool.{not}
use Rattle.std.proofs.Common.{arith}
use borrow.Author.Tests.{eqb-true, not-false}
use Rattle.octets.specs.TestLaws.{asked}
use Rattle.terms.specs.Laws.{one_passes}
use Rattle.terms.specs.declared.Status.TheVariants.{Done, Area, Klen}
use Rattle.terms.specs.declared.Operation.{Operation}
use Rattle.schema.specs.declared.Entry.{Entry}
use Rattle.records.specs.Areas.{area_length}
use Rattle.forms.specs.Form.{rungs_of, form_status}

module _ (o : Operation) (e : Entry) (on link k ref : ℕ) (key area : List ℕ) (d : form_status o e on link k ref key area ≡ Done) where
  -- 7
  pub area-length : (rungs_of o).area ≡ true → length area ≡ area_length e
  unfolding form_status
  area-length h =
      eqb-true _ _ (not-false _ (asked (rungs_of o).area _ (one_passes ((rungs_of o).area && not (eqb (length area) (area_length e))) Area _ (omega arith) d).0 h))

  -- 8
  pub key-length : (rungs_of o).key ≡ true → length key ≡ k
  unfolding form_status
  key-length h =
      let p = one_passes ((rungs_of o).area && not (eqb (length area) (area_length e))) Area _ (omega arith) d in
      eqb-true _ _ (not-false _ (asked (rungs_of o).key _ (one_passes ((rungs_of o).key && not (eqb (length key) k)) Klen _ (omega arith) p.1).0 h))
