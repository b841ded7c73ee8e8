use mathlib.Core.Path.{refl, sym, ◌∙◌}
use Rattle.store.specs.CallLaws.{broken-schema, call-decided, laid_out}
use Rattle.store.proofs.call.Goals as goal
use Rattle.store.proofs.call.Goals.{in-Some, in-None}

pub under-ended-requires-clause-laid : goal.under-ended-requires-clause-laid
under-ended-requires-clause-laid c = laid_out _ (sym c.decode.ensures ∙ c.in-Some.is)

pub returns : goal.returns
returns c =
    rw (c.of.ensures.status, c.of.ensures.reference)
    (elim c.match-decode.branch [
      | in-Some w ↦
          rw (w.area-is, w.base-is, w.ended-is)
          (call-decided _ _ _ _ _ _ _ _ (sym c.decode.ensures ∙ w.in-Some.is) w.from.ensures w.under-ended.ensures)
      | in-None w ↦ rw (w.area-is, w.base-is, w.ended-is) (broken-schema _ _ _ _ _ _ _ _ (sym c.decode.ensures ∙ w.in-None.is) refl refl)
    ])
