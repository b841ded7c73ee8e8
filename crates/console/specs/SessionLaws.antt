-- The program byte by byte: what is kept of a line is enough to answer it.
use Rattle.std.specs.Prelude.{ℕ, ◌+◌, ◌%◌, ◌≤◌, ◌<◌, min, ◌≡◌, refl, List, [], ◌∷◌, ◌++◌, length, get_or, take}
use Rattle.std.proofs.Common.{sym, ap, ◌∙◌, arith, add-one, length-take, take_all, take-suc, eq-eqb, ne_eqb}
use Rattle.console.specs.Console.{responded, KeptLine}
use Rattle.console.specs.SmallLaws.{kept_next, kept_enough}
use Rattle.console.specs.Session.{Stand, byte_taken, bytes_taken, last_reply, StandsAt}

-- before a line's first byte nothing is kept
pub nothing-kept : (buffer : List ℕ) → KeptLine 0 buffer []
nothing-kept buffer = record { fits = omega arith; bytes = refl }

module _ {s : Stand} {number len : ℕ} {buffer base : List ℕ} (schema : List ℕ) (h : StandsAt s number len buffer base) where
  -- the line is answered by what is kept of it
  pub line-answered : responded number (take len buffer) schema base ≡ responded s.number s.line schema s.base
  line-answered = rw (h.number, h.base, h.line.bytes) (kept_enough s.number s.line schema s.base)

  -- a newline
  pub line_taken : {x next : ℕ} {after : List ℕ} → x ≡ 10 → next ≡ (number + 1) % 18446744073709551616 → after ≡ (responded number (take len buffer) schema base).base
      → StandsAt (byte_taken schema s x) next 0 buffer after
  line_taken {x} e n b =
      rw (eq-eqb x 10 e) (record { number = n ∙ (rw h.number refl); line = nothing-kept buffer; base = b ∙ (rw line-answered refl) })

  -- any other byte
  pub byte_kept : {x more : ℕ} {kept : List ℕ} → (x ≡ 10 → ⊥) → KeptLine more kept (take len buffer ++ (x ∷ [])) → StandsAt (byte_taken schema s x) number more kept base
  byte_kept {x} {more} {kept} e k =
      rw (ne_eqb x 10 e) (record { number = h.number; line = kept_next len more x buffer kept s.line h.line k; base = h.base })

  -- the end of the input: whether anything is kept says whether there is a line
  pub kept-length : length buffer ≡ 129 → len ≡ min 129 (length s.line)
  kept-length f = omega (arith, h.line.fits, simp length-take at (ap length h.line.bytes))

  pub last_answered : {after : List ℕ} → length buffer ≡ 129 → (len ≡ 0 → ⊥) → after ≡ (responded number (take len buffer) schema base).base → after ≡ (last_reply schema s).base
  last_answered f e b = rw (ne_eqb (length s.line) 0 (λ z. e (omega (arith, kept-length f)))) (b ∙ (rw line-answered refl))

  pub no_last_line : length buffer ≡ 129 → len ≡ 0 → base ≡ (last_reply schema s).base
  no_last_line f e = rw (eq-eqb (length s.line) 0 (omega (arith, kept-length f))) h.base

-- whatever is kept of a line, the program stands somewhere: so `Leads` says something of every line, number and data base
pub stands_somewhere : (n len : ℕ) (buffer b : List ℕ) → len ≤ 129 → (s : Stand) × StandsAt s n len buffer b
stands_somewhere n len buffer b h = (
  record { number = n; line = take len buffer; base = b },
  record { number = refl; line = record { fits = h; bytes = sym (take_all 129 (take len buffer) (omega (arith, length-take len buffer))) }; base = refl },
)

-- ---- bytes, one after the other

pub taken_append : (schema : List ℕ) (s : Stand) (xs ys : List ℕ) → bytes_taken schema s (xs ++ ys) ≡ bytes_taken schema (bytes_taken schema s xs) ys
unfolding bytes_taken
taken_append schema s [] ys = refl
taken_append schema s (x ∷ xs) ys = taken_append schema (byte_taken schema s x) xs ys

pub taken-one : (schema : List ℕ) (s : Stand) (xs : List ℕ) (i : ℕ) → i < length xs → bytes_taken schema s (take (i + 1) xs) ≡ byte_taken schema (bytes_taken schema s (take i xs)) (get_or xs i 0)
unfolding bytes_taken
taken-one schema s xs i h = rw (add-one i, take-suc xs i 0 h) (taken_append schema s (take i xs) (get_or xs i 0 ∷ []))
