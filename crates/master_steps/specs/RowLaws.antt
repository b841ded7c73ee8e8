-- The masters of a set as lists, one for each home. What the list of a home tells: whether its own masters hold the home, where a master stands and
-- which record is the last. A set is sound exactly if it stands for such lists, and these are the ones that ROOT next leads to. A home whose masters
-- are where they were, with their keys and pointers, keeps its list; so a set of such homes is as sound as it was.
use Rattle.std.specs.Prelude.{ℕ, zero, suc, ◌≤◌, ◌≡◌, ◌≢◌, ◌⊎◌, Bool, eqb, length}
use Rattle.std.proofs.Math.Path.{refl, sym}
use Rattle.std.proofs.Common.{ap, ◌∙◌, inl, inr, arith, eqb-true, eq-eqb, ne_eqb}
use Rattle.std.proofs.Math.Bool.{true, false, cond, and-eq-true_iff}
use mathlib.Core.List.{List, [], ◌∷◌, ◌++◌}
use Rattle.octets.specs.Octets.{all_blank}
use Rattle.octets.specs.TestLaws.{never_both}
use Rattle.schema.specs.declared.Entry.{Entry}
use Rattle.schema.specs.declared.Schema.{Schema}
use Rattle.schema.specs.Decode.{entry_of}
use Rattle.schema.specs.Place.{InSet}
use Rattle.records.specs.Records.{is_live, root_next, root_prior, master_key}
use Rattle.masters.specs.Find.{home_in, own_home, held_by_own, tail_from}
use Rattle.terms.specs.Laws.{home_in_set}
use Rattle.chains.specs.Members.{All, In, NoDup, all_map, all_in, in_all, split_in, pigeonhole}
use Rattle.chains.specs.Segments.{NoZero, last_or, head_or}
use Rattle.sound.specs.Sound.{follow, home_list, home_sound}
use Rattle.sound.proofs.SoundLaws.{Linked}
use Rattle.sound.proofs.ListLaws.{linked-nodup, follow-linked}
use Rattle.sound.specs.Sets.{Live, MasterSet}
use Rattle.sound.proofs.HomeLaws.{OfHome, HomeChain, home_sound_says, home_sound-holds}
use Rattle.kept_state.specs.Frames.{SameMasters}
use Rattle.master_steps.specs.LinkedLists.{none_first, Chained, linked-chained, chained-linked, chained-right, chained_frame}

-- rs is the list of the home h: a chain with 0 at both ends that begins at the home, of exactly the home's masters
pub record HomeRow (b : List ℕ) (e : Entry) (h : ℕ) (rs : List ℕ) : Type 0 where
  pub chain : Chained (root_next b e) (root_prior b e) 0 rs 0
  pub begins : (rs ≡ []) ⊎ (head_or 0 rs ≡ h)
  pub only : All (OfHome b e h) rs
  pub full : (r : ℕ) → OfHome b e h r → In r rs

-- what MasterSet says, with the lists as a parameter, so that a change of the set is a change of its lists
pub record HomeRows (b : List ℕ) (e : Entry) (homes : ℕ → List ℕ) : Type 0 where
  pub no_blank : (r : ℕ) → Live b e r → all_blank (master_key b e r) ≡ false
  pub one : (q r : ℕ) → Live b e q → Live b e r → master_key b e q ≡ master_key b e r → q ≡ r
  pub row : (h : ℕ) → InSet e h → HomeRow b e h (homes h)

-- where the record r stands in the list rs
abbrev pub HomePlace : List ℕ → Entry → List ℕ → ℕ → Type 0
HomePlace b e rs r = (us vs : List ℕ) × (rs ≡ us ++ (r ∷ vs)) × (root_prior b e r ≡ last_or 0 us) × (root_next b e r ≡ head_or 0 vs)

-- the walk to the end of a chain comes to its last
tail-chained : (n : ℕ) (b : List ℕ) (e : Entry) (p r : ℕ) (rs : List ℕ) → Chained (root_next b e) (root_prior b e) p (r ∷ rs) 0 → NoZero rs → length rs ≤ n
    → tail_from n b e r ≡ last_or r rs
unfolding tail_from
tail-chained zero b e p r [] c z l = refl
tail-chained zero b e p r (q ∷ rs) c z l = absurd (omega arith)
tail-chained (suc n) b e p r [] c z l = rw (eq-eqb (root_next b e r) 0 c.1) refl
tail-chained (suc n) b e p r (q ∷ rs) c z l =
    let k : q ≢ 0 = λ t. omega arith in
    rw (c.1, ne_eqb q 0 k) (tail-chained n b e r q rs c.2 z.1 (omega arith))

-- a live record at its home holds it
pub own-holds : (b : List ℕ) (e : Entry) (h : ℕ) → is_live b e h ≡ true → own_home b e h ≡ h → held_by_own b e h ≡ true
own-holds b e h l o = (and-eq-true_iff (is_live b e h) (eqb (own_home b e h) h)).1 (l, eq-eqb _ _ o)

module _ (b : List ℕ) (e : Entry) (h : ℕ) (rs : List ℕ) (row : HomeRow b e h rs) where
  -- a home that its own masters hold is the first of its list, else the list is empty
  pub held-list : InSet e h → held_by_own b e h ≡ true → (ts : List ℕ) × (rs ≡ h ∷ ts)
  held-list i t =
      let a = (and-eq-true_iff (is_live b e h) (eqb (own_home b e h) h)).0 t in
      by rs row.begins (row.full h ((i, a.0), eqb-true _ _ a.1))
    where
      by : (xs : List ℕ) → (xs ≡ []) ⊎ (head_or 0 xs ≡ h) → In h xs → (ts : List ℕ) × (xs ≡ h ∷ ts)
      by [] s m = absurd m
      by (x ∷ xs) (inl q) m = absurd (let z : ◌≡◌ {A = ℕ} 0 1 = cc in omega arith)
      by (x ∷ xs) (inr q) m = (xs, ap (λ y. y ∷ xs) q)

  pub none_list : held_by_own b e h ≡ false → rs ≡ []
  none_list t = by rs row.begins row.only
    where
      by : (xs : List ℕ) → (xs ≡ []) ⊎ (head_or 0 xs ≡ h) → All (OfHome b e h) xs → xs ≡ []
      by [] s o = refl
      by (x ∷ xs) (inl q) o = q
      by (x ∷ xs) (inr q) o = let w : OfHome b e h h = rw q at o.0 in absurd (never_both _ (own-holds b e h w.0.1 w.1) t)

  -- its records are in the set, none twice
  in_sets : All (InSet e) rs
  in_sets = all_map (OfHome b e h) (InSet e) (λ r o. o.0.0) rs row.only

  pub no_zeros : NoZero rs
  no_zeros = all_map (InSet e) (λ r. 1 ≤ r) (λ r i. i.0) rs in_sets

  pub home-nodup : NoDup rs
  home-nodup = linked-nodup (root_next b e) (root_prior b e) 0 (head_or 0 rs) rs (chained-linked (root_next b e) (root_prior b e) 0 (head_or 0 rs) rs refl row.chain) no_zeros

  pub row-short : length rs ≤ e.records
  row-short = pigeonhole e.records rs home-nodup in_sets

  -- the last record that ROOT next leads to
  pub tail-is : InSet e h → held_by_own b e h ≡ true → tail_from e.records b e h ≡ last_or 0 rs
  tail-is i t =
      let w = held-list i t in
      let z : NoZero (h ∷ w.0) = rw w.1 at no_zeros in
      let s : length (h ∷ w.0) ≤ e.records = rw w.1 at row-short in
      rw w.1 (tail-chained e.records b e 0 h w.0 (rw w.1 at row.chain) z.1 (omega arith))

  row-place : (r : ℕ) → OfHome b e h r → HomePlace b e rs r
  row-place r o =
      let t = split_in r rs (row.full r o) in
      let k = chained-right (root_next b e) (root_prior b e) 0 t.0 (r ∷ t.1) 0 (rw t.2 at row.chain) in
      (t.0, t.1, t.2, k.0, k.1)

  -- the list is the one that ROOT next leads to, so the home is sound
  from-home : (t : Bool) → held_by_own b e h ≡ t → InSet e h → Linked (root_next b e) (root_prior b e) 0 (cond t h 0) rs
  from-home true t i = chained-linked (root_next b e) (root_prior b e) 0 h rs (sym (ap (head_or 0) (held-list i t).1)) row.chain
  from-home false t i = rw (none_list t) refl

  home_list-is : InSet e h → home_list b e h ≡ rs
  unfolding home_list
  home_list-is i = by (held_by_own b e h) refl
    where
      by : (t : Bool) → held_by_own b e h ≡ t → cond t (follow e.records e (root_next b e) h) [] ≡ rs
      by true t = follow-linked (root_next b e) (root_prior b e) e.records e 0 h rs (from-home true t i) in_sets row-short
      by false t = sym (none_list t)

  row-sound : InSet e h → home_sound b e h ≡ true
  row-sound i =
      let q = home_list-is i in
      home_sound-holds b e h (record { linked = rw q (from-home (held_by_own b e h) refl i); only = rw q row.only; full = λ r o. rw q (row.full r o) })

-- ---- lists and sound sets

pub rows-sound : (b : List ℕ) (e : Entry) (homes : ℕ → List ℕ) → 1 ≤ e.records → HomeRows b e homes → MasterSet b e
rows-sound b e homes some hs = record { no_blank = hs.no_blank; one = hs.one; homes = λ h i. row-sound b e h (homes h) (hs.row h i) i }

chain-row : (b : List ℕ) (e : Entry) (h : ℕ) → HomeChain b e h → HomeRow b e h (home_list b e h)
chain-row b e h k =
    let t = linked-chained (root_next b e) (root_prior b e) 0 (cond (held_by_own b e h) h 0) (home_list b e h) k.linked in
    record { chain = t.1; begins = by (held_by_own b e h) t.0; only = k.only; full = k.full }
  where
    by : (s : Bool) → cond s h 0 ≡ head_or 0 (home_list b e h) → (home_list b e h ≡ []) ⊎ (head_or 0 (home_list b e h) ≡ h)
    by true q = inr (sym q)
    by false q = inl (none_first (home_list b e h) (all_map (OfHome b e h) (λ r. 1 ≤ r) (λ r o. o.0.0.0) (home_list b e h) k.only) (sym q))

pub rows_of : (b : List ℕ) (e : Entry) → 1 ≤ e.records → MasterSet b e → HomeRows b e (home_list b e)
rows_of b e some ms = record { no_blank = ms.no_blank; one = ms.one; row = λ h i. chain-row b e h (home_sound_says b e h (ms.homes h i)) }

-- ---- the home of a live master, and where the master stands in its list

module _ (b : List ℕ) (e : Entry) (some : 1 ≤ e.records) (ms : MasterSet b e) (r : ℕ) where
  pub own_row : HomeRow b e (own_home b e r) (home_list b e (own_home b e r))
  own_row = (rows_of b e some ms).row (own_home b e r) (home_in_set e.records (master_key b e r) some)

  pub place_in_list : Live b e r → HomePlace b e (home_list b e (own_home b e r)) r
  place_in_list l = row-place b e (own_home b e r) (home_list b e (own_home b e r)) own_row r (l, refl)

-- ---- what is as it was

-- a live master with its key as before is of the home that it was of
pub still-home : (b c : List ℕ) (e : Entry) (h a : ℕ) → is_live c e a ≡ is_live b e a → master_key c e a ≡ master_key b e a → OfHome b e h a → OfHome c e h a
still-home b c e h a l k o = ((o.0.0, l ∙ o.0.1), ap (home_in e) k ∙ o.1)

pub kept_row : (b c : List ℕ) (e : Entry) (h : ℕ) (rs : List ℕ) → HomeRow b e h rs
    → ((a : ℕ) → In a rs → OfHome b e h a → OfHome c e h a × (root_next c e a ≡ root_next b e a) × (root_prior c e a ≡ root_prior b e a))
    → ((a : ℕ) → OfHome c e h a → In a rs) → HomeRow c e h rs
kept_row b c e h rs row same full =
    record {
      chain = chained_frame (root_next b e) (root_prior b e) (root_next c e) (root_prior c e) 0 rs 0 (λ a m. let s = at a m in (s.1, s.2)) row.chain;
      begins = row.begins;
      only = in_all (OfHome c e h) rs (λ a m. (at a m).0);
      full = full;
    }
  where
    at : (a : ℕ) → In a rs → OfHome c e h a × (root_next c e a ≡ root_next b e a) × (root_prior c e a ≡ root_prior b e a)
    at a m = same a m (all_in (OfHome b e h) a rs row.only m)

module _ (t : Schema) (b c : List ℕ) (n : ℕ) (some : 1 ≤ (entry_of t n).records) (s : SameMasters t b c n) (ms : MasterSet b (entry_of t n)) where
  abbrev e : Entry
  e = entry_of t n

  was_live : (r : ℕ) → Live c e r → Live b e r
  was_live r l = (l.0, sym (s.live r l.0) ∙ l.1)

  same_row : (h : ℕ) → InSet e h → HomeRow c e h (home_list b e h)
  same_row h i =
      let row = (rows_of b e some ms).row h i in
      kept_row b c e h (home_list b e h) row
      (λ a m o. let j = o.0.0 in (still-home b c e h a (s.live a j) (s.key a j) o, s.next a j, s.prior a j))
      (λ a o. let j = o.0.0 in row.full a (still-home c b e h a (sym (s.live a j)) (sym (s.key a j)) o))

  pub same_masters : MasterSet c (entry_of t n)
  same_masters = rows-sound c e (home_list b e) some (record {
    no_blank = λ r l. rw (s.key r l.0) (ms.no_blank r (was_live r l));
    one = λ q r lq lr k. ms.one q r (was_live q lq) (was_live r lr) (sym (s.key q lq.0) ∙ k ∙ s.key r lr.0);
    row = same_row;
  })
