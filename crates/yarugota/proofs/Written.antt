-- What is printed, byte by byte, and what a writer then holds.
use Rattle.std.specs.Prelude.{ℕ, ◌+◌, ◌<◌, ◌≡◌, refl, List, [], ◌∷◌, ◌++◌, length, get_or, take, Option, None, Some, IfSome}
use Rattle.std.proofs.Common.{sym, ap, subst, length-append, ◌∙◌, arith, add-one, take-suc, append_assoc, append-nil, eq-eqb, ne_eqb}
use Rattle.std.specs.Io.KnownBytes.{Consumes, IsAtEnd}
use Rattle.octets.specs.Octets.{zeros}
use Rattle.calls.specs.Outcome.{outcome}
use Rattle.cases.specs.Small.{small_schema}
use Rattle.console.specs.Console.{format_call, Reply, responded}
use Rattle.console.specs.SessionLaws.{line-answered, kept-length}
use Rattle.console.specs.Session.{Stand, begun, byte_taken, bytes_taken, last_reply, session, StandsAt}
use Rattle.yarugota.specs.Printed.{byte_printed, bytes_printed, small_session}

-- a line is answered by what is kept of it, at a newline and at the end of the input
module _ {s : Stand} {number len : ℕ} {buffer base : List ℕ} (schema : List ℕ) (h : StandsAt s number len buffer base) where
  pub newline_printed : {x : ℕ} → x ≡ 10 → byte_printed schema s x ≡ (responded number (take len buffer) schema base).printed
  newline_printed {x} e = rw (eq-eqb x 10 e) (ap (λ (r : Reply). r.printed) (sym (line-answered schema h)))

  pub last_printed : length buffer ≡ 129 → (len ≡ 0 → ⊥) → (last_reply schema s).printed ≡ (responded number (take len buffer) schema base).printed
  last_printed f e = rw (ne_eqb (length s.line) 0 (λ z. e (omega (arith, kept-length schema h f)))) (ap (λ (r : Reply). r.printed) (sym (line-answered schema h)))

pub printed_append : (schema : List ℕ) (s : Stand) (xs ys : List ℕ)
    → bytes_printed schema s (xs ++ ys) ≡ bytes_printed schema s xs ++ bytes_printed schema (bytes_taken schema s xs) ys
unfolding bytes_printed bytes_taken
printed_append schema s [] ys = refl
printed_append schema s (x ∷ xs) ys =
    ap (λ (l : List ℕ). byte_printed schema s x ++ l) (printed_append schema (byte_taken schema s x) xs ys) ∙ sym (append_assoc (byte_printed schema s x) _ _)

pub printed_one : (schema : List ℕ) (s : Stand) (xs : List ℕ) (i : ℕ) → i < length xs
    → bytes_printed schema s (take (i + 1) xs) ≡ bytes_printed schema s (take i xs) ++ byte_printed schema (bytes_taken schema s (take i xs)) (get_or xs i 0)
unfolding bytes_printed
printed_one schema s xs i h =
    rw (add-one i, take-suc xs i 0 h) (printed_append schema s (take i xs) (get_or xs i 0 ∷ []) ∙ ap (λ (l : List ℕ). bytes_printed schema s (take i xs) ++ l) (append-nil _))

-- the whole input: its bytes, and its last line
pub session_printed : (schema : List ℕ) (s : Stand) (xs : List ℕ) → session schema s xs ≡ bytes_printed schema s xs ++ (last_reply schema (bytes_taken schema s xs)).printed
unfolding session bytes_printed bytes_taken
session_printed schema s [] = refl
session_printed schema s (x ∷ xs) =
    ap (λ (l : List ℕ). byte_printed schema s x ++ l) (session_printed schema (byte_taken schema s x) xs) ∙ sym (append_assoc (byte_printed schema s x) _ _)

-- an input that is read to its end
pub whole : (a b : Option (List ℕ)) (bytes : List ℕ) (n : ℕ) (P : List ℕ → Type 0) → Consumes a b bytes → (length bytes < n → IsAtEnd b) → P bytes
    → IfSome a (λ xs. length xs < n → P xs)
whole None b bytes n P c e h = tt
whole (Some x) None bytes n P c e h = absurd c
whole (Some x) (Some y) bytes n P c e h =
    λ l. subst P (sym (c ∙ ap (λ (r : List ℕ). bytes ++ r) (e (omega (arith, ap length c, length-append bytes y))) ∙ append-nil bytes)) h

-- the small store, formatted
pub small_printed : (schema base bytes : List ℕ) → schema ≡ small_schema 6 → base ≡ (outcome (format_call schema (zeros 1024))).base
    → small_session bytes ≡ bytes_printed schema (begun base) bytes ++ (last_reply schema (bytes_taken schema (begun base) bytes)).printed
small_printed schema base bytes e f = rw (← session_printed schema (begun base) bytes, f, e) refl
