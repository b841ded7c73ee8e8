-- `master_plans::root_side` meets its contract: the word lies in its record. Assumes nothing.
use mathlib.Core.Path.{refl}
use native.Mathlib.Omega.{arith}
use Rattle.master_plans.specs.ShapeLaws.{one_longer_none, side-word, side_record}
use Rattle.master_plans.proofs.root_side.Goals as goal

pub returns-then-r-eq0 : goal.returns-then-r-eq0
returns-then-r-eq0 c = let a = c.args in one_longer_none a.p a.masters.now.entry.now a.r a.o a.v c.if-r-eq0.true

pub returns : goal.returns
returns c =
    let a = c.args in
    record {
      head = rw c.with_word.ensures.value refl;
      target = rw c.with_word.ensures.value refl;
      other = rw c.with_word.ensures.value refl;
      links = rw c.with_word.ensures.value refl;
      few = rw c.with_word.ensures.value (omega arith);
      words = side-word a.p c.with_word.result a.masters.now.entry.now a.r a.o a.v c.part_of.ensures c.of.ensures c.with_word.ensures.result_value c.if-r-eq0.false;
      records = side_record a.p c.with_word.result a.masters.now.entry.now a.r a.o a.v c.part_of.ensures c.of.ensures c.with_word.ensures.result_value a.masters.now.lies_in c.requires.o_bound;
      wiped = rw c.with_word.ensures.value refl;
    }
