-- Two-way chains over two pointer functions. Node 0 is the head: next of 0 is the chain's first record, prior of 0 its last, so a chain
-- is a ring and a change first, last, between two records or into the empty chain is one case. No memory stands here: what stores do comes in
-- as facts on the pointers before and after.
use Rattle.std.specs.Prelude.{ℕ, zero, suc, ◌+◌, ◌≤◌, ◌≡◌, refl, ◌≢◌, ◌⊎◌, length}
use Rattle.std.proofs.Common.{ap, ◌∙◌, ⊎_elim, arith}
use mathlib.Core.List.{List, [], ◌∷◌, ◌++◌, append-nil, reverse, reverse_aux}
use Rattle.chains.specs.Members.{All, all_map, all_left, all_right, Fresh, NoDup, nodup-ends, pigeonhole}

-- none of them is 0: they are records, not the head
abbrev pub NoZero : List ℕ → Type 0
NoZero xs = All (λ x. 1 ≤ x) xs

-- the last of xs, or p; the first of xs, or q
abbrev pub last_or : ℕ → List ℕ → ℕ
last_or p [] = p
last_or p (x ∷ xs) = last_or x xs

abbrev pub head_or : ℕ → List ℕ → ℕ
head_or q [] = q
head_or q (x ∷ xs) = x

pub last_snoc : (p : ℕ) (us : List ℕ) (x : ℕ) → last_or p (us ++ x ∷ []) ≡ x
last_snoc p [] x = refl
last_snoc p (u ∷ us) x = last_snoc u us x

module _ (P : ℕ → Type 0) where
  pub all_last : (p : ℕ) (us : List ℕ) → P p → All P us → P (last_or p us)
  all_last p [] h k = h
  all_last p (u ∷ us) h k = all_last u us k.0 k.1

  pub all_head : (q : ℕ) (vs : List ℕ) → P q → All P vs → P (head_or q vs)
  all_head q [] h k = h
  all_head q (v ∷ vs) h k = k.0

-- ---- one way

-- f leads from node p over xs to 0
abbrev pub Run : (ℕ → ℕ) → ℕ → List ℕ → Type 0
Run f p [] = f p ≡ 0
Run f p (x ∷ xs) = (f p ≡ x) × Run f x xs

module _ (f : ℕ → ℕ) where
  -- a run is determined by where it begins
  pub run_one : (p : ℕ) (xs ys : List ℕ) → Run f p xs → Run f p ys → NoZero xs → NoZero ys → xs ≡ ys
  run_one p [] [] s t h k = refl
  run_one p [] (y ∷ ys) s t h k = absurd (omega arith)
  run_one p (x ∷ xs) [] s t h k = absurd (omega arith)
  run_one p (x ∷ xs) (y ∷ ys) s t h k =
      let e : x ≡ y = omega arith in
      rw (← e) (ap (λ zs. x ∷ zs) (run_one x xs ys s.1 (rw e t.1) h.1 k.1))

  -- so x does not come again in what follows x: the rest behind it would be as long as the whole
  run_fresh : (x : ℕ) (xs : List ℕ) (p : ℕ) (ys : List ℕ) → Run f x xs → NoZero xs → Run f p ys → NoZero ys → length ys ≤ length xs → Fresh x ys
  run_fresh x xs p [] s h t k l = tt
  run_fresh x xs p (y ∷ ys) s h t k l = (
    λ e. let same : length xs ≡ length ys = ap length (run_one x xs ys s (rw e t.1) h k.1) in omega arith,
    run_fresh x xs y ys s h t.1 k.1 (omega arith),
  )

  pub run_nodup : (x : ℕ) (xs : List ℕ) → Run f x xs → NoZero xs → NoDup (x ∷ xs)
  run_nodup x [] s h = (tt, tt)
  run_nodup x (y ∷ ys) s h = (run_fresh x (y ∷ ys) x (y ∷ ys) s h s h (omega arith), run_nodup y ys s.1 h.1)

-- another function that says the same of the nodes
pub run_agree : (f g : ℕ → ℕ) (p : ℕ) (xs : List ℕ) → All (λ a. g a ≡ f a) (p ∷ xs) → Run f p xs → Run g p xs
run_agree f g p [] h s = h.0 ∙ s
run_agree f g p (x ∷ xs) h s = (h.0 ∙ s.0, run_agree f g x xs h.1 s.1)

-- each of xs points back to the one before it, the first of them to p
abbrev pub LooksBack : (ℕ → ℕ) → ℕ → List ℕ → Type 0
LooksBack prior p [] = Unit {0}
LooksBack prior p (x ∷ xs) = (prior x ≡ p) × LooksBack prior x xs

pub answers_agree : (f g : ℕ → ℕ) (p : ℕ) (xs : List ℕ) → All (λ a. g a ≡ f a) xs → LooksBack f p xs → LooksBack g p xs
answers_agree f g p [] h s = tt
answers_agree f g p (x ∷ xs) h s = (h.0 ∙ s.0, answers_agree f g x xs h.1 s.1)

-- ---- a walk of which each step is answered comes to 0: a record met twice would lead back, by prior, to the start, which has no prior

module _ (next prior : ℕ → ℕ) (P : ℕ → Type 0) (n : ℕ) (number : (x : ℕ) → P x → (1 ≤ x) × (x ≤ n))
    (step : (x : ℕ) → P x → (next x ≡ 0) ⊎ (P (next x) × (prior (next x) ≡ x))) where
  -- from x, behind which the records ys are left, the nearest first
  walk : (fuel x : ℕ) (ys : List ℕ) → P x → All P ys → Run prior x ys → n ≤ length ys + fuel → (xs : List ℕ) × Run next x xs × LooksBack prior x xs × All P xs
  walk zero x ys h k t l =
      absurd (omega (arith, pigeonhole n (x ∷ ys) (run_nodup prior x ys t (all_map P (λ a. 1 ≤ a) (λ a p. (number a p).0) ys k)) (number x h, all_map P _ number ys k)))
  walk (suc fuel) x ys h k t l =
      ⊎_elim (λ e. ([], e, tt, tt))
      (λ s. let w = walk fuel (next x) (x ∷ ys) s.0 (h, k) (s.1, t) (omega arith) in (next x ∷ w.0, (refl, w.1), (s.1, w.2), (s.0, w.3)))
      (step x h)

  pub walk_runs_out : (x : ℕ) → P x → prior x ≡ 0 → (xs : List ℕ) × Run next x xs × LooksBack prior x xs × All P xs
  walk_runs_out x h e = walk n x [] h tt e (omega arith)

-- ---- both ways

-- b stands right after a
abbrev pub Joins : (ℕ → ℕ) → (ℕ → ℕ) → ℕ → ℕ → Type 0
Joins nx pv a b = (nx a ≡ b) × (pv b ≡ a)

-- from node p over xs to node q; a whole chain is from 0 to 0
abbrev pub Seg : (ℕ → ℕ) → (ℕ → ℕ) → ℕ → List ℕ → ℕ → Type 0
Seg nx pv p [] q = Joins nx pv p q
Seg nx pv p (x ∷ xs) q = Joins nx pv p x × Seg nx pv x xs q

module _ (nx pv : ℕ → ℕ) where
  -- to the head a segment is a run that is answered, with its last at the head
  pub seg-run : (p : ℕ) (xs : List ℕ) → Seg nx pv p xs 0 → Run nx p xs
  seg-run p [] s = s.0
  seg-run p (x ∷ xs) s = (s.0.0, seg-run x xs s.1)

  pub seg-answers : (p : ℕ) (xs : List ℕ) (q : ℕ) → Seg nx pv p xs q → LooksBack pv p xs
  seg-answers p [] q s = tt
  seg-answers p (x ∷ xs) q s = (s.0.1, seg-answers x xs q s.1)

  pub run_seg : (p : ℕ) (xs : List ℕ) → Run nx p xs → LooksBack pv p xs → pv 0 ≡ last_or p xs → Seg nx pv p xs 0
  run_seg p [] r a e = (r, e)
  run_seg p (x ∷ xs) r a e = ((r.0, a.0), run_seg x xs r.1 a.1 e)

  pub seg-nodup : (p : ℕ) (xs : List ℕ) → Seg nx pv p xs 0 → NoZero xs → NoDup (p ∷ xs)
  seg-nodup p xs s h = run_nodup nx p xs (seg-run p xs s) h

  -- a segment cut at a record, and joined
  pub seg-left : (p : ℕ) (us : List ℕ) (x : ℕ) (vs : List ℕ) (q : ℕ) → Seg nx pv p (us ++ x ∷ vs) q → Seg nx pv p us x
  seg-left p [] x vs q s = s.0
  seg-left p (u ∷ us) x vs q s = (s.0, seg-left u us x vs q s.1)

  pub seg-right : (p : ℕ) (us : List ℕ) (x : ℕ) (vs : List ℕ) (q : ℕ) → Seg nx pv p (us ++ x ∷ vs) q → Seg nx pv x vs q
  seg-right p [] x vs q s = s.1
  seg-right p (u ∷ us) x vs q s = seg-right u us x vs q s.1

  pub seg_join : (p : ℕ) (us : List ℕ) (x : ℕ) (vs : List ℕ) (q : ℕ) → Seg nx pv p us x → Seg nx pv x vs q → Seg nx pv p (us ++ x ∷ vs) q
  seg_join p [] x vs q s t = (s, t)
  seg_join p (u ∷ us) x vs q s t = (s.0, seg_join u us x vs q s.1 t)

  -- the neighbours of a record, and the ends
  pub at_ends : (p : ℕ) (xs : List ℕ) (q : ℕ) → Seg nx pv p xs q → (nx p ≡ head_or q xs) × (pv q ≡ last_or p xs)
  at_ends p [] q s = s
  at_ends p (x ∷ xs) q s = (s.0.0, (at_ends x xs q s.1).1)

  pub at_node : (p : ℕ) (us : List ℕ) (x : ℕ) (vs : List ℕ) (q : ℕ) → Seg nx pv p (us ++ x ∷ vs) q → (nx x ≡ head_or q vs) × (pv x ≡ last_or p us)
  at_node p us x vs q s = ((at_ends x vs q (seg-right p us x vs q s)).0, (at_ends p us x (seg-left p us x vs q s)).1)

-- the other way round: prior leads from the end over the reverse
turn : (nx pv : ℕ → ℕ) (x : ℕ) (xs : List ℕ) (q p : ℕ) (rs : List ℕ) → Seg nx pv x xs q → Seg pv nx x rs p → Seg pv nx q (reverse_aux xs (x ∷ rs)) p
turn nx pv x [] q p rs s r = ((s.1, s.0), r)
turn nx pv x (y ∷ ys) q p rs s r = turn nx pv y ys q p (x ∷ rs) s.1 ((s.0.1, s.0.0), r)

pub seg-reverse : (nx pv : ℕ → ℕ) (p : ℕ) (xs : List ℕ) (q : ℕ) → Seg nx pv p xs q → Seg pv nx q (reverse xs) p
seg-reverse nx pv p [] q s = (s.1, s.0)
seg-reverse nx pv p (x ∷ xs) q s = turn nx pv x xs q p [] s.1 (s.0.1, s.0.0)

-- ---- a head that is stored apart from the records: f gives the pointer of a record, h that of node 0

abbrev pub headed : ℕ → (ℕ → ℕ) → ℕ → ℕ
headed h f zero = h
headed h f (suc n) = f (suc n)

pub headed-at : (h : ℕ) (f : ℕ → ℕ) (x : ℕ) → 1 ≤ x → headed h f x ≡ f x
headed-at h f zero l = absurd (omega arith)
headed-at h f (suc n) l = refl

-- ---- changes

-- a segment whose pointers are as they were is as it was
pub seg_frame : (nx pv nx' pv' : ℕ → ℕ) (p : ℕ) (xs : List ℕ) (q : ℕ) → nx' p ≡ nx p → pv' q ≡ pv q → All (λ a. (nx' a ≡ nx a) × (pv' a ≡ pv a)) xs
    → Seg nx pv p xs q → Seg nx' pv' p xs q
seg_frame nx pv nx' pv' p [] q e f h s = (e ∙ s.0, f ∙ s.1)
seg_frame nx pv nx' pv' p (x ∷ xs) q e f h s = ((e ∙ s.0.0, h.0.1 ∙ s.0.1), seg_frame nx pv nx' pv' x xs q h.0.0 f h.1 s.1)

fresh-last : (x a : ℕ) (us : List ℕ) → Fresh x (a ∷ us) → x ≢ last_or a us
fresh-last x a us f = all_last (λ y. x ≢ y) a us f.0 f.1

fresh-head : (x q : ℕ) (us vs : List ℕ) → x ≢ q → Fresh x (us ++ vs) → x ≢ head_or q vs
fresh-head x q us vs n f = all_head (λ y. x ≢ y) q vs n (all_right (λ y. x ≢ y) us vs f)

-- Between the nodes r and n the middle of a segment becomes another; next of r, prior of n and the pointers of what is not kept may change.
-- With ms empty this inserts, with ms' empty it deletes, with one record in each it moves.
module _ (nx pv nx' pv' : ℕ → ℕ) (q r n : ℕ) (keep : ℕ → Type 0)
    (kn : (a : ℕ) → a ≢ r → keep a → nx' a ≡ nx a)
    (kp : (a : ℕ) → a ≢ n → keep a → pv' a ≡ pv a) where
  frames : (ws : List ℕ) → Fresh r ws → Fresh n ws → All keep ws → All (λ a. (nx' a ≡ nx a) × (pv' a ≡ pv a)) ws
  frames [] f g k = tt
  frames (w ∷ ws) f g k = ((kn w (omega arith) k.0, kp w (omega arith) k.0), frames ws f.1 g.1 k.1)

  rest : (ms ms' vs : List ℕ) → n ≡ head_or q vs → Fresh r vs → NoDup vs → Fresh q vs → All keep vs → keep q
      → Seg nx pv r (ms ++ vs) q → Seg nx' pv' r ms' n → Seg nx' pv' r (ms' ++ vs) q
  rest ms ms' [] e fr d fq k kq s s' = rw (append-nil, ← e) s'
  rest ms ms' (v ∷ ws) e fr d fq k kq s s' =
      let fn : Fresh n ws = rw e d.0 in
      seg_join nx' pv' r ms' v ws q (rw e at s')
      (seg_frame nx pv nx' pv' v ws q (kn v (omega arith) k.0) (kp q (omega arith) kq) (frames ws fr.1 fn k.1)
      (seg-right nx pv r ms v ws q s))

  pub seg-splice : (p : ℕ) (us ms ms' vs : List ℕ) → r ≡ last_or p us → n ≡ head_or q vs → NoDup (p ∷ us ++ vs) → Fresh q (us ++ vs)
      → All keep (p ∷ us ++ vs) → keep q → Seg nx pv p (us ++ (ms ++ vs)) q → Seg nx' pv' r ms' n → Seg nx' pv' p (us ++ (ms' ++ vs)) q
  seg-splice p [] ms ms' vs er en d fq k kq s s' =
      rw (← er) (rest ms ms' vs en (rw er d.0) d.1 fq k.1 kq (rw er s) s')
  seg-splice p (u ∷ us) ms ms' vs er en d fq k kq s s' =
      let a : p ≢ r = rw er (fresh-last p u us (all_left (λ y. p ≢ y) (u ∷ us) vs d.0)) in
      let b : u ≢ n = rw en (fresh-head u q us vs (omega arith) d.1.0) in (
        (kn p a k.0 ∙ s.0.0, kp u b k.1.0 ∙ s.0.1),
        seg-splice u us ms ms' vs er en d.1 fq.1 k.1 kq s.1 s',
      )

-- the same on a whole chain, from the head to the head
pub chain-change : (nx pv nx' pv' : ℕ → ℕ) (us ms ms' vs : List ℕ) (keep : ℕ → Type 0)
    → ((a : ℕ) → a ≢ last_or 0 us → keep a → nx' a ≡ nx a) → ((a : ℕ) → a ≢ head_or 0 vs → keep a → pv' a ≡ pv a) → All keep (0 ∷ us ++ vs)
    → Seg nx pv 0 (us ++ (ms ++ vs)) 0 → NoZero (us ++ (ms ++ vs)) → Seg nx' pv' (last_or 0 us) ms' (head_or 0 vs) → Seg nx' pv' 0 (us ++ (ms' ++ vs)) 0
chain-change nx pv nx' pv' us ms ms' vs keep kn kp k s z new =
    let d : NoDup (0 ∷ us ++ vs) = nodup-ends (0 ∷ us) ms vs (seg-nodup nx pv 0 (us ++ (ms ++ vs)) s z) in
    seg-splice nx pv nx' pv' 0 (last_or 0 us) (head_or 0 vs) keep kn kp 0 us ms ms' vs refl refl d d.0 k k.0 s new
