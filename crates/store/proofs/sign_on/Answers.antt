use mathlib.Core.Path.{refl}
use Rattle.sound.proofs.LinearLaws.{in_place-sound}
use Rattle.store.proofs.sign_on.Goals as goal

pub returns-then-not-sign_on-clause-status : goal.returns-then-not-sign_on-clause-status
returns-then-not-sign_on-clause-status c = rw (← in_place-sound _ _ c.requires.ok, ← c.sign_on.ensures, c.if-not-sign_on.true) refl

pub returns-clause-status : goal.returns-clause-status
returns-clause-status c = rw (← in_place-sound _ _ c.requires.ok, ← c.sign_on.ensures, c.if-not-sign_on.false) refl
