-- Every set and every path has a name that leads to it: names of sets are words that differ, names of the paths of one set differ in their
-- letters.
use Rattle.std.specs.Prelude.{ℕ, ◌<◌, ◌≡◌, Bool, true, eqb}
use Rattle.std.proofs.Common.{sym, ◌∙◌, ⊎_elim, arith, eqb-true, eq-eqb}
use Rattle.octets.specs.Octets.{word_at, word_bytes, same_bytes}
use Rattle.octets.specs.Below.{lowest}
use Rattle.octets.specs.BelowLaws.{same?, lowest_from-at, lowest_from-first}
use Rattle.octets.specs.RunLaws.{same_bytes_eq, same_bytes_refl}
use Rattle.octets.specs.WordLaws.{word4-bytes}
use Rattle.schema.specs.declared.Path.{Path}
use Rattle.schema.specs.declared.Schema.{Schema}
use Rattle.schema.specs.Decode.{entry_of, path_of, set_count}
use Rattle.schema.specs.Guarantee.{SchemaOk, IsPathOf}
use Rattle.schema.specs.Naming.{set_named, path_name, path_named}

-- the lowest number that passes, where no lower one does
lowest-is : (f : ℕ → Bool) (n i : ℕ) → i < n → f i ≡ true → ((k : ℕ) → k < i → f k ≡ true → ⊥) → lowest f n ≡ i
lowest-is f n i l h none =
    let m = lowest_from-first f n 0 i (omega arith) h (omega arith) in
    ⊎_elim (λ e. e) (λ d. absurd (none (lowest f n) (omega arith) (lowest_from-at f n 0 (omega arith)))) (same? (lowest f n) i)

-- a word's four bytes make it again; a name is a word
word_back : (v : ℕ) → v < 4294967296 → word_at (word_bytes v) 0 ≡ v
unfolding word_at
word_back v h = word4-bytes v h

-- the name of a set leads to it
pub set_named_lem : (t : Schema) → SchemaOk t → (i : ℕ) → i < set_count t → set_named t (word_bytes (entry_of t i).name) ≡ i
unfolding set_named
set_named_lem t ok i l =
    let v = word_at (word_bytes (entry_of t i).name) 0 in
    let e : v ≡ (entry_of t i).name = word_back (entry_of t i).name (ok.words i l) in
    lowest-is (λ k. eqb (entry_of t k).name v) (set_count t) i l (eq-eqb _ _ (sym e))
    (λ k m h. ok.names k i m l (eqb-true (entry_of t k).name v h ∙ e))

-- two names of paths that are the same have the same letters
same_letters : (t : Schema) (p q : Path) → path_name t p ≡ path_name t q → p.letters ≡ q.letters
same_letters t p q e = cc

-- the name of a path leads to it
pub path_named_lem : (t : Schema) → SchemaOk t → (i j : ℕ) → IsPathOf t i j → path_named t (entry_of t i) (path_name t (path_of (entry_of t i) j)) ≡ j
unfolding path_named
path_named_lem t ok i j h =
    let name = path_name t (path_of (entry_of t i) j) in
    lowest-is (λ k. same_bytes (path_name t (path_of (entry_of t i) k)) name) (entry_of t i).count j h.2 (same_bytes_refl name)
    (λ k l q. ok.letters i k j l h (same_letters t (path_of (entry_of t i) k) (path_of (entry_of t i) j) (same_bytes_eq _ _ q)))
