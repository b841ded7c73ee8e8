-- The ROOT neighbours of a master in a sound set: each is 0 or a live master, and another one than the master itself; only a master at its home
-- has no prior. And of a home that its own masters hold: the last of its list is live, and behind its first synonym does not stand the home again.
use Rattle.std.specs.Prelude.{ℕ, ◌≤◌, ◌≡◌, refl, ◌≢◌, ◌⊎◌, true, false, List, [], ◌∷◌, ◌++◌}
use Rattle.std.proofs.Common.{sym, ◌∙◌, inl, inr, ⊎_elim, arith}
use Rattle.octets.specs.TestLaws.{never_both}
use Rattle.schema.specs.declared.Entry.{Entry}
use Rattle.schema.specs.Place.{InSet}
use Rattle.records.specs.Records.{is_live, root_next, root_prior}
use Rattle.masters.specs.Find.{own_home, held_by_own, tail_from}
use Rattle.chains.specs.Members.{All, all_map, all_both, all_left, all_right, all_without, nodup-without}
use Rattle.chains.specs.Segments.{last_or, head_or, all_last, all_head}
use Rattle.sound.specs.Sound.{home_list}
use Rattle.sound.specs.Sets.{Live, MasterSet}
use Rattle.sound.proofs.HomeLaws.{OfHome}
use Rattle.master_steps.specs.LinkedLists.{Chained}
use Rattle.master_steps.specs.RowLaws.{HomeRow, own-holds, held-list, no_zeros, home-nodup, tail-is, rows_of, own_row, place_in_list}

-- x is 0 or a live master; and it is not r
abbrev pub Side : List ℕ → Entry → ℕ → Type 0
Side b e x = (x ≡ 0) ⊎ Live b e x

abbrev Aside : List ℕ → Entry → ℕ → ℕ → Type 0
Aside b e r x = Side b e x × (r ≢ x)

pub side-within : (b : List ℕ) (e : Entry) (x : ℕ) → Side b e x → x ≤ e.records
side-within b e x s = ⊎_elim (λ z. omega arith) (λ l. l.0.1) s

-- a free record is none of them
pub free_aside : (b : List ℕ) (e : Entry) (f x : ℕ) → InSet e f → is_live b e f ≡ false → Side b e x → f ≢ x
free_aside b e f x i free s q = ⊎_elim (λ z. omega arith) (λ l. never_both _ l.1 (rw q at free)) s

-- a live master in a home that its own do not hold is a stranger there
pub stranger : (b : List ℕ) (e : Entry) (h : ℕ) → is_live b e h ≡ true → held_by_own b e h ≡ false → h ≢ own_home b e h
stranger b e h l t q = never_both _ (own-holds b e h l (sym q)) t

-- behind the home h stands its first synonym; behind that one not the home again
abbrev pub Second : List ℕ → Entry → ℕ → Type 0
Second b e h =
    (vs : List ℕ) × (home_list b e h ≡ h ∷ root_next b e h ∷ vs) × (root_next b e (root_next b e h) ≡ head_or 0 vs) × (h ≢ root_next b e (root_next b e h))

module _ (b : List ℕ) (e : Entry) (some : 1 ≤ e.records) (ms : MasterSet b e) where
  module _ (r : ℕ) (l : Live b e r) where
    pub neighbours_aside : Aside b e r (root_prior b e r) × Aside b e r (root_next b e r)
    neighbours_aside =
        let g : ℕ = own_home b e r in
        let row = own_row b e some ms r in
        let p = place_in_list b e some ms r l in
        let fresh = (nodup-without p.0 r p.1 (rw p.2 at (home-nodup b e g (home_list b e g) row))).1 in
        let only = all_without (OfHome b e g) p.0 r p.1 (rw p.2 at row.only) in
        let all = all_map (λ x. OfHome b e g x × (r ≢ x)) (Aside b e r) (λ x k. (inr k.0.0, k.1)) (p.0 ++ p.1) (all_both (OfHome b e g) (λ x. r ≢ x) (p.0 ++ p.1) only fresh) in
        let none : Aside b e r 0 = (inl refl, λ z. omega arith) in (
          rw p.3 (all_last (Aside b e r) 0 p.0 none (all_left (Aside b e r) p.0 p.1 all)),
          rw p.4 (all_head (Aside b e r) 0 p.1 none (all_right (Aside b e r) p.0 p.1 all)),
        )

    -- one that has no prior is at its home
    pub first_home : root_prior b e r ≡ 0 → r ≡ own_home b e r
    first_home z =
        let g : ℕ = own_home b e r in
        let row = own_row b e some ms r in
        let p = place_in_list b e some ms r l in
        by p.0 p.1 (sym p.3 ∙ z) (all_left (λ x. 1 ≤ x) p.0 (r ∷ p.1) (rw p.2 at (no_zeros b e g (home_list b e g) row))) (rw p.2 at row.begins)
      where
        by : (us vs : List ℕ) → last_or 0 us ≡ 0 → All (λ x. 1 ≤ x) us → ((us ++ (r ∷ vs)) ≡ []) ⊎ (head_or 0 (us ++ (r ∷ vs)) ≡ own_home b e r) → r ≡ own_home b e r
        by [] vs q o (inl s) = absurd (let n : ◌≡◌ {A = ℕ} 0 1 = cc in omega arith)
        by [] vs q o (inr s) = s
        by (u ∷ us) vs q o s = absurd (omega (arith, all_last (λ x. 1 ≤ x) u us o.0 o.1))

  module _ (h : ℕ) (i : InSet e h) (held : held_by_own b e h ≡ true) where
    own : HomeRow b e h (home_list b e h)
    own = (rows_of b e some ms).row h i

    -- the last master of a home that its own hold is live
    pub last_live : (tail_from e.records b e h ≡ last_or 0 (home_list b e h)) × Live b e (tail_from e.records b e h)
    last_live =
        let q = tail-is b e h (home_list b e h) own i held in
        let p = held-list b e h (home_list b e h) own i held in
        let only : All (OfHome b e h) (h ∷ p.0) = rw p.1 at own.only in
        (q, rw (q, p.1) (all_last (OfHome b e h) h p.0 only.0 only.1).0)

    pub second : root_next b e h ≢ 0 → Second b e h
    second more =
        let p = held-list b e h (home_list b e h) own i held in
        let fresh = (rw p.1 at (home-nodup b e h (home_list b e h) own)).0 in
        by p.0 p.1 (rw p.1 at own.chain) fresh
      where
        by : (xs : List ℕ) → home_list b e h ≡ h ∷ xs → Chained (root_next b e) (root_prior b e) 0 (h ∷ xs) 0 → All (λ x. h ≢ x) xs → Second b e h
        by [] q k f = absurd (more k.1)
        by (x ∷ xs) q k f =
            let n : root_next b e (root_next b e h) ≡ head_or 0 xs = rw k.1 k.2.1 in
            (xs, rw k.1 q, n, rw n (all_head (λ y. h ≢ y) 0 xs (λ z. omega arith) f.1))
