-- Lists of linked records, each record read with its two neighbours. The home of a ROOT chain has no first and last stored; read off the list itself
-- they make it a chain like those of the paths, so the change of its middle is the one law of Segments: next of the record before it, prior of the
-- record behind it and the pointers of the new middle are what the new list says, all others are as they were. A new master, a move and a removal
-- are this one change.
use Rattle.std.specs.Prelude.{ℕ, zero, suc, ◌≤◌, ◌≡◌, refl, ◌≢◌, ◌⊎◌, List, [], ◌∷◌, ◌++◌}
use Rattle.std.proofs.Common.{sym, ◌∙◌, inl, inr, ⊎_elim, arith}
use Rattle.chains.specs.Members.{In, in_all, NoDup, in_left, in_right, in_cases, not-fresh, all_left, all_right, all_append}
use Rattle.chains.specs.Segments.{NoZero, last_or, head_or, all_last, all_head, Seg, at_ends, headed, headed-at, chain-change}
use Rattle.sound.proofs.SoundLaws.{Linked}

-- ---- membership round a middle

-- what is not of the middle is in the list with any other middle
pub in_other : (r : ℕ) (us ms ms' vs : List ℕ) → (In r ms → ⊥) → In r (us ++ (ms ++ vs)) → In r (us ++ (ms' ++ vs))
in_other r us ms ms' vs n m =
    ⊎_elim (λ k. in_left r us (ms' ++ vs) k) (λ k. in_right r us (ms' ++ vs) (⊎_elim (λ j. absurd (n j)) (λ j. in_right r ms' vs j) (in_cases r ms vs k)))
    (in_cases r us (ms ++ vs) m)

-- with no element twice, the middle has none of what stands round it
pub middle-apart : (r : ℕ) (us ms vs : List ℕ) → NoDup (us ++ (ms ++ vs)) → In r (us ++ vs) → In r ms → ⊥
middle-apart r [] [] vs d m k = k
middle-apart r [] (x ∷ ms) vs d m (inl e) = not-fresh x (ms ++ vs) (in_right x ms vs (rw e at m)) d.0
middle-apart r [] (x ∷ ms) vs d m (inr k) = middle-apart r [] ms vs d.1 m k
middle-apart r (u ∷ us) ms vs d (inl e) k = not-fresh u (us ++ (ms ++ vs)) (in_right u us (ms ++ vs) (in_left u ms vs (rw e at k))) d.0
middle-apart r (u ∷ us) ms vs d (inr m) k = middle-apart r us ms vs d.1 m k

-- a record that is not in a list is neither its last nor its first
pub not_last : (a : ℕ) (xs : List ℕ) → 1 ≤ a → (In a xs → ⊥) → a ≢ last_or 0 xs
not_last a xs o d = all_last (λ x. a ≢ x) 0 xs (λ z. omega arith) (in_all (λ x. a ≢ x) xs (λ x m q. d (rw q m)))

pub not_first : (a : ℕ) (xs : List ℕ) → 1 ≤ a → (In a xs → ⊥) → a ≢ head_or 0 xs
not_first a xs o d = all_head (λ x. a ≢ x) 0 xs (λ z. omega arith) (in_all (λ x. a ≢ x) xs (λ x m q. d (rw q m)))

-- a list of records that begins with 0 is empty
pub none_first : (rs : List ℕ) → NoZero rs → head_or 0 rs ≡ 0 → rs ≡ []
none_first [] z q = refl
none_first (r ∷ rs) z q = absurd (omega arith)

-- ---- each record with its neighbours

-- prior of each of xs is the one before it, next the one behind it; p stands before the first and q behind the last
abbrev pub Chained : (ℕ → ℕ) → (ℕ → ℕ) → ℕ → List ℕ → ℕ → Type 0
Chained nx pv p [] q = Unit {0}
Chained nx pv p (x ∷ xs) q = (pv x ≡ p) × (nx x ≡ head_or q xs) × Chained nx pv x xs q

head_append : (q : ℕ) (us vs : List ℕ) → head_or q (us ++ vs) ≡ head_or (head_or q vs) us
head_append q [] vs = refl
head_append q (u ∷ us) vs = refl

last_append : (p : ℕ) (us vs : List ℕ) → last_or p (us ++ vs) ≡ last_or (last_or p us) vs
last_append p [] vs = refl
last_append p (u ∷ us) vs = last_append u us vs

module _ (nx pv : ℕ → ℕ) where
  pub linked-chained : (p head : ℕ) (rs : List ℕ) → Linked nx pv p head rs → (head ≡ head_or 0 rs) × Chained nx pv p rs 0
  linked-chained p head [] h = (h, tt)
  linked-chained p head (r ∷ rs) h = let t = linked-chained r (nx r) rs h.2 in (h.0, (h.1, t.0, t.1))

  pub chained-linked : (p head : ℕ) (rs : List ℕ) → head ≡ head_or 0 rs → Chained nx pv p rs 0 → Linked nx pv p head rs
  chained-linked p head [] e c = e
  chained-linked p head (r ∷ rs) e c = (e, c.0, chained-linked r (nx r) rs c.1 c.2)

  -- a list without its first records
  pub chained-right : (p : ℕ) (us vs : List ℕ) (q : ℕ) → Chained nx pv p (us ++ vs) q → Chained nx pv (last_or p us) vs q
  chained-right p [] vs q c = c
  chained-right p (u ∷ us) vs q c = chained-right u us vs q c.2

-- ---- pointers as they were

pub chained_frame : (nx pv nx' pv' : ℕ → ℕ) (p : ℕ) (xs : List ℕ) (q : ℕ) → ((a : ℕ) → In a xs → (nx' a ≡ nx a) × (pv' a ≡ pv a))
    → Chained nx pv p xs q → Chained nx' pv' p xs q
chained_frame nx pv nx' pv' p [] q k c = tt
chained_frame nx pv nx' pv' p (x ∷ xs) q k c =
    let t = k x (inl refl) in
    (t.1 ∙ c.0, t.0 ∙ c.1, chained_frame nx pv nx' pv' x xs q (λ a m. k a (inr m)) c.2)

-- ---- with a head that is not stored, but read off the list, such a list is a chain in the words of Segments

module _ (nx pv : ℕ → ℕ) (f l : ℕ) where
  chained-seg : (p : ℕ) (xs : List ℕ) (q : ℕ) → NoZero xs → Chained nx pv p xs q → headed f nx p ≡ head_or q xs → headed l pv q ≡ last_or p xs
      → Seg (headed f nx) (headed l pv) p xs q
  chained-seg p [] q z c a b = (a, b)
  chained-seg p (x ∷ xs) q z c a b =
      ((a, headed-at l pv x z.0 ∙ c.0), chained-seg x xs q z.1 c.2 (headed-at f nx x z.0 ∙ c.1) b)

  seg-chained : (p : ℕ) (xs : List ℕ) (q : ℕ) → NoZero xs → Seg (headed f nx) (headed l pv) p xs q → Chained nx pv p xs q
  seg-chained p [] q z s = tt
  seg-chained p (x ∷ xs) q z s = (
    sym (headed-at l pv x z.0) ∙ s.0.1,
    sym (headed-at f nx x z.0) ∙ (at_ends (headed f nx) (headed l pv) x xs q s.1).0,
    seg-chained x xs q z.1 s.1,
  )

-- ---- the change of a middle: that of Segments, where the head follows the list

module _ (nx pv nx' pv' : ℕ → ℕ) (us ms ms' vs : List ℕ) where
  -- the list before, and after
  abbrev old : List ℕ
  old = us ++ (ms ++ vs)

  abbrev now : List ℕ
  now = us ++ (ms' ++ vs)

  abbrev Round : ℕ → Type 0
  Round a = (a ≡ 0) ⊎ In a (us ++ vs)

  next_round : ((a : ℕ) → In a (us ++ vs) → a ≢ last_or 0 us → nx' a ≡ nx a) → (a : ℕ) → a ≢ last_or 0 us → Round a → headed (head_or 0 now) nx' a ≡ headed (head_or 0 old) nx a
  next_round k zero n r = head us n
    where
      head : (us : List ℕ) → 0 ≢ last_or 0 us → head_or 0 (us ++ (ms' ++ vs)) ≡ head_or 0 (us ++ (ms ++ vs))
      head [] n = absurd (n refl)
      head (u ∷ us) n = refl
  next_round k (suc a) n (inl z) = absurd (omega arith)
  next_round k (suc a) n (inr m) = k (suc a) m n

  prior-round : ((a : ℕ) → In a (us ++ vs) → a ≢ head_or 0 vs → pv' a ≡ pv a) → (a : ℕ) → a ≢ head_or 0 vs → Round a → headed (last_or 0 now) pv' a ≡ headed (last_or 0 old) pv a
  prior-round k zero n r = last vs n
    where
      last : (vs : List ℕ) → 0 ≢ head_or 0 vs → last_or 0 (us ++ (ms' ++ vs)) ≡ last_or 0 (us ++ (ms ++ vs))
      last [] n = absurd (n refl)
      last (v ∷ vs) n = rw (last_append 0 us (ms' ++ (v ∷ vs)), last_append 0 us (ms ++ (v ∷ vs)), last_append (last_or 0 us) ms' (v ∷ vs), last_append (last_or 0 us) ms (v ∷ vs)) refl
  prior-round k (suc a) n (inl z) = absurd (omega arith)
  prior-round k (suc a) n (inr m) = k (suc a) m n

  -- where the new middle begins and ends
  begins : (l : ℕ) → l ≡ last_or 0 us → NoZero us → (1 ≤ l → nx' l ≡ head_or (head_or 0 vs) ms') → headed (head_or 0 now) nx' l ≡ head_or (head_or 0 vs) ms'
  begins zero e z w = first us e z
    where
      first : (us : List ℕ) → 0 ≡ last_or 0 us → NoZero us → head_or 0 (us ++ (ms' ++ vs)) ≡ head_or (head_or 0 vs) ms'
      first [] e z = head_append 0 ms' vs
      first (u ∷ us) e z = let h : 1 ≤ last_or u us = all_last (λ x. 1 ≤ x) u us z.0 z.1 in absurd (omega arith)
  begins (suc l) e z w = w (omega arith)

  ends : (n : ℕ) → n ≡ head_or 0 vs → NoZero vs → (1 ≤ n → pv' n ≡ last_or (last_or 0 us) ms') → headed (last_or 0 now) pv' n ≡ last_or (last_or 0 us) ms'
  ends zero e z w = none vs e z
    where
      none : (vs : List ℕ) → 0 ≡ head_or 0 vs → NoZero vs → last_or 0 (us ++ (ms' ++ vs)) ≡ last_or (last_or 0 us) ms'
      none [] e z = rw (last_append 0 us (ms' ++ []), last_append (last_or 0 us) ms' []) refl
      none (v ∷ vs) e z = absurd (omega arith)
  ends (suc n) e z w = w (omega arith)

  pub chained-change : NoZero (us ++ (ms ++ vs)) → NoZero ms'
      → ((a : ℕ) → In a (us ++ vs) → a ≢ last_or 0 us → nx' a ≡ nx a) → ((a : ℕ) → In a (us ++ vs) → a ≢ head_or 0 vs → pv' a ≡ pv a)
      → Chained nx' pv' (last_or 0 us) ms' (head_or 0 vs) → (1 ≤ last_or 0 us → nx' (last_or 0 us) ≡ head_or (head_or 0 vs) ms')
      → (1 ≤ head_or 0 vs → pv' (head_or 0 vs) ≡ last_or (last_or 0 us) ms') → Chained nx pv 0 (us ++ (ms ++ vs)) 0 → Chained nx' pv' 0 (us ++ (ms' ++ vs)) 0
  chained-change z z' kn kp c wl wn h =
      let zu = all_left (λ x. 1 ≤ x) us (ms ++ vs) z in
      let zv = all_right (λ x. 1 ≤ x) ms vs (all_right (λ x. 1 ≤ x) us (ms ++ vs) z) in
      seg-chained nx' pv' (head_or 0 now) (last_or 0 now) 0 now 0 (all_append (λ x. 1 ≤ x) us (ms' ++ vs) zu (all_append (λ x. 1 ≤ x) ms' vs z' zv))
      (chain-change (headed (head_or 0 old) nx) (headed (last_or 0 old) pv) (headed (head_or 0 now) nx') (headed (last_or 0 now) pv') us ms ms' vs Round
      (next_round kn) (prior-round kp) (inl refl, in_all Round (us ++ vs) (λ a m. inr m))
      (chained-seg nx pv (head_or 0 old) (last_or 0 old) 0 old 0 z h refl refl) z
      (chained-seg nx' pv' (head_or 0 now) (last_or 0 now) (last_or 0 us) ms' (head_or 0 vs) z' c (begins (last_or 0 us) refl zu wl) (ends (head_or 0 vs) refl zv wn)))
