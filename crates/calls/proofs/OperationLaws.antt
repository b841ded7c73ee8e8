-- Laws over all operations: what a test says of each of them is found by trying them one after the other.
use Rattle.std.specs.Prelude.{ℕ, zero, suc, ◌<◌, ◌≡◌, refl, Bool, true, false, not, ◌&&◌, ◌||◌, List, [], ◌∷◌, eqb, length, get_or}
use Rattle.std.proofs.Common.{sym, ap, ◌∙◌, arith, lit<, eqb-true}
use Rattle.std.proofs.Math.Bool.{and-eq-true_iff}
use Rattle.std.proofs.lemmas.Bool.{not-true}
use Rattle.terms.specs.declared.Operation.{Operation}
use Rattle.terms.specs.declared.Operation.TheVariants.{Formt, Sinon, AddM, DelM, Readm, Writm, Rqloc, Rdnxt, Readv, Readr, Readd, Writv, Addvc, Addvb, Addva, Delvd, Unknown}
use Rattle.calls.specs.Call.{operation_number, one_of}

-- ---- an operation and its number

abbrev operations : List Operation
operations =
    Formt ∷ Sinon ∷ AddM ∷ DelM ∷ Readm ∷ Writm ∷ Rqloc ∷ Rdnxt ∷ Readv ∷ Readr ∷ Readd ∷ Writv ∷ Addvc ∷ Addvb ∷ Addva ∷ Delvd ∷ Unknown ∷ []

abbrev by_number : ℕ → Operation
by_number k = get_or operations k Unknown

-- the operation comes back, and its number is below 17
by_number_lem : (u : Operation) → (by_number (operation_number u) ≡ u) × (operation_number u < 17)
by_number_lem Formt = (refl, lit< tt)
by_number_lem Sinon = (refl, lit< tt)
by_number_lem AddM = (refl, lit< tt)
by_number_lem DelM = (refl, lit< tt)
by_number_lem Readm = (refl, lit< tt)
by_number_lem Writm = (refl, lit< tt)
by_number_lem Rqloc = (refl, lit< tt)
by_number_lem Rdnxt = (refl, lit< tt)
by_number_lem Readv = (refl, lit< tt)
by_number_lem Readr = (refl, lit< tt)
by_number_lem Readd = (refl, lit< tt)
by_number_lem Writv = (refl, lit< tt)
by_number_lem Addvc = (refl, lit< tt)
by_number_lem Addvb = (refl, lit< tt)
by_number_lem Addva = (refl, lit< tt)
by_number_lem Delvd = (refl, lit< tt)
by_number_lem Unknown = (refl, lit< tt)

-- the operation that a list of one names
pub one_of_lem : (u v : Operation) → one_of u (v ∷ []) ≡ true → u ≡ v
one_of_lem u v h =
    sym (by_number_lem u).0
    ∙ ap by_number (eqb-true (operation_number u) (operation_number v) (or_false (eqb (operation_number u) (operation_number v)) h))
    ∙ (by_number_lem v).0
  where
    or_false : (a : Bool) → (a || false) ≡ true → a ≡ true
    or_false true h = refl
    or_false false h = h

-- ---- every operation

abbrev every_of : (Operation → Bool) → List Operation → Bool
every_of f [] = true
every_of f (u ∷ us) = f u && every_of f us

abbrev pub every_operation : (Operation → Bool) → Bool
every_operation f = every_of f operations

every_at : (f : Operation → Bool) (us : List Operation) (k : ℕ) → every_of f us ≡ true → k < length us → f (get_or us k Unknown) ≡ true
every_at f [] k h l = absurd (omega arith)
every_at f (u ∷ us) zero h l = ((and-eq-true_iff (f u) (every_of f us)).0 h).0
every_at f (u ∷ us) (suc k) h l = every_at f us k ((and-eq-true_iff (f u) (every_of f us)).0 h).1 (omega arith)

pub each_operation : (f : Operation → Bool) → every_operation f ≡ true → (u : Operation) → f u ≡ true
each_operation f h u = sym (ap f (by_number_lem u).0) ∙ every_at f operations (operation_number u) h (by_number_lem u).1

-- a test that all of a group pass, and one that none of it does
pub all_of : (f g : Operation → Bool) → every_operation (λ u. not (f u) || g u) ≡ true → (u : Operation) → f u ≡ true → g u ≡ true
all_of f g h u e = asked_or (f u) (g u) (each_operation (λ u. not (f u) || g u) h u) e
  where
    asked_or : (a b : Bool) → (not a || b) ≡ true → a ≡ true → b ≡ true
    asked_or a b h e = rw e at h

pub none_of : (f g : Operation → Bool) → every_operation (λ u. not (f u) || not (g u)) ≡ true → (u : Operation) → f u ≡ true → g u ≡ false
none_of f g h u e = not-true (g u) (all_of f (λ u. not (g u)) h u e)

-- ---- operation by operation

abbrev pub EachOf : (Operation → Type 0) → List Operation → Type 0
EachOf P [] = Unit {0}
EachOf P (v ∷ vs) = P v × EachOf P vs

-- what holds of each of these operations, and of those that are none of them, holds of every one
pub by-operation : (P : Operation → Type 0) (vs : List Operation) → EachOf P vs → (u : Operation) → (one_of u vs ≡ false → P u) → P u
by-operation P [] h u other = other refl
by-operation P (v ∷ vs) h u other = go (eqb (operation_number u) (operation_number v)) refl (by-operation P vs h.1 u)
  where
    go : (b : Bool) → eqb (operation_number u) (operation_number v) ≡ b → ((one_of u vs ≡ false → P u) → P u) → P u
    go true e more = rw (one_of_lem u v (rw e refl)) h.0
    go false e more = more (λ k. other (rw e k))
