-- A reading is one: what the calls give from a reference on is at most one list. Each call has one answer; an answer that is a record's number
-- is not END., so two readings go on together or end together.
use Rattle.std.specs.Prelude.{ℕ, ◌≡◌, refl, List, [], ◌∷◌}
use Rattle.std.proofs.Common.{sym, ◌∙◌}
use Rattle.terms.specs.declared.Status.{Status}
use Rattle.calls.specs.Call.{Outcome}
use Rattle.condition3.specs.Plain.{Point, Lists, step}
use Rattle.condition3.specs.Readings.{Request, Fixed, Lent, none_lent, under, Reads}

-- a point is its number and its area
abbrev point : ℕ → List ℕ → Point
point n area = record { number = n; area = area }

parts : {m n : ℕ} {a d : List ℕ} → m ≡ n → a ≡ d → point m a ≡ point n d
parts e f = cc

-- the calls can give no other list
pub reads-one : (ask : ℕ → Outcome) (r : ℕ) (xs ys : List Point) → Reads ask r xs → Reads ask r ys → xs ≡ ys
reads-one ask r [] [] h k = refl
reads-one ask r [] (y ∷ ys) h k = absurd (k.3 (sym k.1 ∙ h.1))
reads-one ask r (x ∷ xs) [] h k = absurd (h.3 (sym h.1 ∙ k.1))
reads-one ask r (x ∷ xs) (y ∷ ys) h k =
    let n : x.number ≡ y.number = sym h.1 ∙ k.1 in
    let p : x ≡ y = parts n (sym h.2 ∙ k.2) in
    let more : xs ≡ ys = reads-one ask x.number xs ys h.4 (rw n k.4) in
    cc

-- ---- the plain step does not look at what is lent

pub step_unseen : (f : Fixed) (d : Lent) (q : Request) (u : Status) (r : ℕ) (l : Lists) → step (under f d q) u r l ≡ step (under f none_lent q) u r l
unfolding step
step_unseen f d q u r l = refl
