use Rattle.std.proofs.Common.{◌≡◌, ◌⊎◌, true, false, inl, inr, refl}
use Rattle.terms.specs.declared.Operation.{Operation}
use Rattle.terms.specs.declared.Operation.TheVariants.{Formt, Sinon, AddM, DelM, Readm, Writm, Rqloc, Rdnxt, Readv, Readr, Readd, Writv, Addvc, Addvb, Addva, Delvd, Unknown}
use Rattle.calls.specs.Call.{one_of, reads}
use Rattle.console.specs.Console.{is_read}
use Rattle.console.proofs.is_read.Goals as goal

a_read : (o : Operation) → (o ≡ Readm) ⊎ ((o ≡ Rdnxt) ⊎ ((o ≡ Readv) ⊎ ((o ≡ Readr) ⊎ (o ≡ Readd)))) → true ≡ one_of o reads
a_read o (inl e) = rw e refl
a_read o (inr (inl e)) = rw e refl
a_read o (inr (inr (inl e))) = rw e refl
a_read o (inr (inr (inr (inl e)))) = rw e refl
a_read o (inr (inr (inr (inr e)))) = rw e refl

no_read : (o : Operation) → (o ≡ Readm → ⊥) → (o ≡ Rdnxt → ⊥) → (o ≡ Readv → ⊥) → (o ≡ Readr → ⊥) → (o ≡ Readd → ⊥) → false ≡ one_of o reads
no_read Readm a b c d e = absurd (a refl)
no_read Rdnxt a b c d e = absurd (b refl)
no_read Readv a b c d e = absurd (c refl)
no_read Readr a b c d e = absurd (d refl)
no_read Readd a b c d e = absurd (e refl)
no_read Formt a b c d e = refl
no_read Sinon a b c d e = refl
no_read AddM a b c d e = refl
no_read DelM a b c d e = refl
no_read Writm a b c d e = refl
no_read Rqloc a b c d e = refl
no_read Writv a b c d e = refl
no_read Addvc a b c d e = refl
no_read Addvb a b c d e = refl
no_read Addva a b c d e = refl
no_read Delvd a b c d e = refl
no_read Unknown a b c d e = refl

pub returns-in-Readm : goal.returns-in-Readm
unfolding is_read
returns-in-Readm c = rw (← c.from.ensures) (a_read c.from.result c.in-Readm.is)

pub returns-in_default : goal.returns-in_default
unfolding is_read
returns-in_default c =
    let n = c.in_default in
    rw (← c.from.ensures) (no_read c.from.result n.not-Readm n.not-Rdnxt n.not-Readv n.not-Readr n.not-Readd)
