-- `store::under` meets its contract: a data base of another length is refused.
use mathlib.Core.Path.{refl, sym, ◌∙◌}
use Rattle.store.specs.DecideLaws.{decides_size}
use Rattle.store.proofs.under.Goals as goal

pub returns-then-base-length_of : goal.returns-then-base-length_of
returns-then-base-length_of c = decides_size _ _ _ _ _ _ _ _ (λ h. c.if-base-length_of.true (h ∙ sym c.length_of.ensures)) refl refl
