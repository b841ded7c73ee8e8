use Rattle.std.proofs.Common.{refl}
use Rattle.console.specs.References.{is_spelt}
use Rattle.console.proofs.references.is_spelt.Goals as goal

pub returns : goal.returns
unfolding is_spelt
returns c =
    rw (
      c.is_ascii_digit-2.ensures.value,
      c.is_ascii_uppercase-2.ensures.value,
      c.is_ascii_digit.ensures.value,
      c.is_ascii_uppercase.ensures.value,
      c.link-link.ensures.0,
      c.eq.ensures,
    ) refl
