-- The small store: its schema as the code makes it, how long its areas are, and a long line of which 129 bytes are kept.
use Rattle.std.specs.Prelude.{ℕ, zero, suc, ◌+◌, ◌<◌, ◌≡◌, refl, Bool, true, false, List, [], ◌∷◌, ◌++◌, length, take, set, leb}
use Rattle.std.proofs.Common.{sym, ap, ◌∙◌, arith, length-append, take_all, take-suc-set, length-take-le, take-take, add-one, leb-true, leb-false}
use Rattle.std.proofs.lemmas.List.{take-append-le}
use Rattle.std.proofs.lemmas.Bool.{lt-leb}
use Rattle.octets.specs.Octets.{splice, zeros}
use Rattle.octets.specs.Text.{text}
use Rattle.terms.specs.declared.Status.TheVariants.{Done}
use Rattle.blocks.specs.declared.Check.TheVariants.{Sum}
use Rattle.plans.specs.Plan.{formatted}
use Rattle.calls.specs.Opened.{opened}
use Rattle.calls.specs.Outcome.{outcome}
use Rattle.cases.specs.Small.{two_sets, botl, pnts, small_schema}
use Rattle.console.specs.Console.{responded, format_call, KeptLine}

-- ---- the schema, stored in four parts

pub stored_sets :
    splice
    (splice
    (splice
    (splice (zeros 512) 0 (1 ∷ 1 ∷ 1 ∷ []))
    16 (text "BOTL" ++ (1 ∷ 0 ∷ 0 ∷ 4 ∷ 0 ∷ 0 ∷ 0 ∷ 5 ∷ 4 ∷ [])))
    64 (text "PNTS" ++ (2 ∷ 1 ∷ 0 ∷ 4 ∷ 0 ∷ 0 ∷ 0 ∷ 6 ∷ [])))
    80 (text "PT")
    ≡ two_sets botl (pnts 6)
unfolding splice two_sets
stored_sets = refl

-- ---- a line of which 129 bytes are kept

module _ (xs : List ℕ) (n b : ℕ) (full : length xs ≡ 129) where
  pub kept_more : n < 129 → take (n + 1) (set xs n b) ≡ take 129 (take n xs ++ (b ∷ []))
  kept_more h =
      let l : length (take n xs) ≡ n = length-take-le n xs (omega arith) in
      rw (add-one, take-suc-set xs n b (omega arith)) (sym (take_all 129 (take n xs ++ (b ∷ [])) (rw length-append (omega arith))))

  pub kept_full : n ≡ 129 → take n xs ≡ take 129 (take n xs ++ (b ∷ []))
  kept_full e =
      let l : length (take 129 xs) ≡ 129 = length-take-le 129 xs (omega arith) in
      rw e (sym (take-append-le 129 (take 129 xs) (b ∷ []) (omega arith) ∙ take-take 129 129 xs (omega arith)))

-- what is kept stays that of the line, byte by byte
cut : (xs ys : List ℕ) (m : ℕ) → take m (take m xs ++ ys) ≡ take m (xs ++ ys)
cut xs ys zero = refl
cut [] ys (suc m) = refl
cut (x ∷ xs) ys (suc m) = ap (λ (l : List ℕ). x ∷ l) (cut xs ys m)

pub kept_next : (n r b : ℕ) (xs ys line : List ℕ) → KeptLine n xs line → KeptLine r ys (take n xs ++ (b ∷ [])) → KeptLine r ys (line ++ (b ∷ []))
kept_next n r b xs ys line h k =
    record { fits = k.fits; bytes = k.bytes ∙ ap (λ (l : List ℕ). take 129 (l ++ (b ∷ []))) h.bytes ∙ cut line (b ∷ []) 129 }

-- and is answered as the line is
pub kept_enough : (number : ℕ) (line schema base : List ℕ) → responded number (take 129 line) schema base ≡ responded number line schema base
unfolding responded
kept_enough number line schema base = go (leb (length line) 129) refl
  where
    go : (t : Bool) → leb (length line) 129 ≡ t → responded number (take 129 line) schema base ≡ responded number line schema base
    go true h = ap (λ (l : List ℕ). responded number l schema base) (take_all 129 line (leb-true (length line) 129 h))
    go false h =
        let e : length (take 129 line) ≡ 129 = length-take-le 129 line (omega (arith, leb-false (length line) 129 h)) in
        rw (lt-leb (length (take 129 line)) 128 (omega arith), lt-leb (length line) 128 (omega (arith, leb-false (length line) 129 h))) refl

-- ---- the areas of both sets have the length of the program's own

-- ---- what the program formats, 1,024 zeros, becomes the formatted store of two blocks

pub formats : ((outcome (format_call (small_schema 6) (zeros 1024))).status ≡ Done) × ((outcome (format_call (small_schema 6) (zeros 1024))).base ≡ formatted Sum 2)
unfolding opened two_sets small_schema
formats = (refl, refl)
