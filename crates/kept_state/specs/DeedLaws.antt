-- What stands at each address after the commit of a list of deeds: at an address that the deeds miss what stood there before, at one that a
-- deed stores to and the later ones miss what it stored. Each law is one of records' laws of a single store, carried through the list by Holds.
use Prim.Native.Nat.{ℕ, zero, suc, ◌*◌, ◌<◌}
use Rattle.std.specs.Prelude.{◌≡◌, refl, ◌≢◌, List, [], ◌∷◌, ◌++◌, eqb, length}
use Rattle.std.proofs.Common.{sym, ap, ⊎_elim, append-nil, append_assoc, arith}
use Rattle.octets.specs.Octets.{word_bytes}
use Rattle.octets.specs.Below.{concat_below}
use Rattle.octets.specs.BelowLaws.{same?}
use Rattle.blocks.specs.declared.Check.{Check}
use Rattle.blocks.specs.Blocks.{seal}
use Rattle.blocks.specs.Laws.{run_seal}
use Rattle.schema.specs.declared.Schema.{Schema}
use Rattle.schema.specs.Decode.{entry_of, set_count}
use Rattle.schema.specs.Place.{InSet, place_of, record_of}
use Rattle.schema.specs.Guarantee.{SchemaOk}
use Rattle.records.specs.Records.{state_of, is_live}
use Rattle.records.specs.Address.{body, Address, IsAddress, get_run, get_word, address, WordField}
use Rattle.records.proofs.AddressLaws.{inside-off_checks}
use Rattle.records.proofs.FieldLaws.{put_run-word, get_word-put_word, get_word-put_run-other, get_word-seal, get_run-put_run, get_run-put_run-other, get_run-seal, state_of-put_run, state_of-seal}
use Rattle.records.proofs.WholeLaws.{get_word-put_record-other, get_run-put_record-other, state_of-put_record-other, record_of-put_record, record_of-put_record-other, record_of-put_run-other}
use Rattle.plans.proofs.PlanLaws.{length-committed}
use Rattle.kept_state.specs.Deeds.{Deed, point, whole, fill, stores_for, after, Valid, AllValid, Miss, Misses, Spared, AllSpared, Off, AllOff, Zeroed, AllZeroed}
use Rattle.kept_state.specs.Holds.{deed_done, valid-at, kept, put}

-- ---- lists of deeds

-- Q says P of each deed of a list
module _ (P : Deed → Type 0) (Q : List Deed → Type 0) (none : Q []) (more : (d : Deed) (ds : List Deed) → P d → Q ds → Q (d ∷ ds))
    (parts : (d : Deed) (ds : List Deed) → Q (d ∷ ds) → P d × Q ds) where
  pub each_append : (us vs : List Deed) → Q us → Q vs → Q (us ++ vs)
  each_append [] vs h k = k
  each_append (u ∷ us) vs h k = more u (us ++ vs) (parts u us h).0 (each_append us vs (parts u us h).1 k)

  pub each_below : (f : ℕ → List Deed) (n : ℕ) → ((k : ℕ) → k < n → Q (f k)) → Q (concat_below f n)
  unfolding concat_below
  each_below f zero h = none
  each_below f (suc n) h = each_append (concat_below f n) (f n) (each_below f n (λ k l. h k (omega arith))) (h n (omega arith))

pub valid_append : (t : Schema) (us vs : List Deed) → AllValid t us → AllValid t vs → AllValid t (us ++ vs)
valid_append t = each_append (Valid t) (AllValid t) tt (λ d ds p q. (p, q)) (λ d ds h. h)

pub misses_append : (a : Address) (us vs : List Deed) → Misses a us → Misses a vs → Misses a (us ++ vs)
misses_append a = each_append (Miss a) (Misses a) tt (λ d ds p q. (p, q)) (λ d ds h. h)

pub misses-below : (a : Address) (f : ℕ → List Deed) (n : ℕ) → ((k : ℕ) → k < n → Misses a (f k)) → Misses a (concat_below f n)
misses-below a = each_below (Miss a) (Misses a) tt (λ d ds p q. (p, q)) (λ d ds h. h)

pub off-below : (n r : ℕ) (f : ℕ → List Deed) (m : ℕ) → ((k : ℕ) → k < m → AllOff n r (f k)) → AllOff n r (concat_below f m)
off-below n r = each_below (Off n r) (AllOff n r) tt (λ d ds p q. (p, q)) (λ d ds h. h)

pub zeroed_append : (us vs : List Deed) → AllZeroed us → AllZeroed vs → AllZeroed (us ++ vs)
zeroed_append = each_append Zeroed AllZeroed tt (λ d ds p q. (p, q)) (λ d ds h. h)

-- the deeds of number j among those below n, where all others miss an address
pub misses-but : (a : Address) (f : ℕ → List Deed) (n j : ℕ) → j < n → ((k : ℕ) → k < n → k ≢ j → Misses a (f k))
    → (us vs : List Deed) × (concat_below f n ≡ us ++ (f j ++ vs)) × Misses a us × Misses a vs
unfolding concat_below
misses-but a f zero j l h = absurd (omega arith)
misses-but a f (suc n) j l h =
    ⊎_elim
    (λ e. (concat_below f n, [], rw e (sym (ap (λ ds. concat_below f n ++ ds) (append-nil (f n)))), misses-below a f n (λ k m. h k (omega arith) (omega arith)), tt))
    (λ d.
    let s = misses-but a f n j (omega arith) (λ k m. h k (omega arith)) in
    (s.0, s.1 ++ f n, rw s.2 (simp append_assoc), s.3, misses_append a s.1 (f n) s.4 (h n (omega arith) (omega arith))))
    (same? j n)

-- ---- their stores

pub stores_for_append : (t : Schema) (us vs : List Deed) → stores_for t (us ++ vs) ≡ stores_for t us ++ stores_for t vs
stores_for_append t [] vs = refl
stores_for_append t (u ∷ us) vs = rw (stores_for_append t us vs) refl

pub stores_for-below : (t : Schema) (f : ℕ → List Deed) (n : ℕ) → stores_for t (concat_below f n) ≡ concat_below (λ k. stores_for t (f k)) n
unfolding concat_below
stores_for-below t f zero = refl
stores_for-below t f (suc n) = rw (stores_for_append t (concat_below f n) (f n), stores_for-below t f n) refl

-- ---- what one deed leaves elsewhere

module _ {t : Schema} (ok : SchemaOk t) where
  word_left : (a : Address) → WordField t a → (d : Deed) (c : List ℕ) → Valid t d → Miss a d → get_word t (deed_done t c d) a ≡ get_word t c a
  word_left a ia (point p v) c h m = get_word-put_run-other c p a (word_bytes v) ok h.0.0 ia (sym h.0.1) m
  word_left a ia (whole n r ys) c h m = get_word-put_record-other c n r ys ok h a ia m
  word_left a ia (fill n r ys) c h m = get_word-put_run-other c (address n r body) a ys ok h.0 ia h.1 m

  run_left : (a : Address) → IsAddress t a → (d : Deed) (c : List ℕ) → Valid t d → Miss a d → get_run t (deed_done t c d) a ≡ get_run t c a
  run_left a ia (point p v) c h m = get_run-put_run-other c p a (word_bytes v) ok h.0.0 ia (sym h.0.1) m
  run_left a ia (whole n r ys) c h m = get_run-put_record-other c n r ys ok h a ia m
  run_left a ia (fill n r ys) c h m = get_run-put_run-other c (address n r body) a ys ok h.0 ia h.1 m

  module _ (n r : ℕ) (l : n < set_count t) (in_set : InSet (entry_of t n) r) where
    state-left : (d : Deed) (c : List ℕ) → Valid t d → Spared n r d → state_of (deed_done t c d) (entry_of t n) r ≡ state_of c (entry_of t n) r
    state-left (point p v) c h m =
        state_of-put_run c n r ok l in_set p (word_bytes v) h.0.0 (sym h.0.1) (λ e. let z : ◌≡◌ {A = ℕ} 1 4 = cc in omega arith)
    state-left (whole k q ys) c h m = state_of-put_record-other c k q ys ok h n r l in_set m
    state-left (fill k q ys) c h m =
        state_of-put_run c n r ok l in_set (address k q body) ys h.0 h.1 (λ e. let z : ◌≡◌ {A = ℕ} 0 1 = cc in omega arith)

    record_left : (d : Deed) (c : List ℕ) → Valid t d → Off n r d → record_of (deed_done t c d) (entry_of t n) r ≡ record_of c (entry_of t n) r
    record_left (point p v) c h m = record_of-put_run-other c p n r ok l in_set m (word_bytes v) h.0.0 (sym h.0.1)
    record_left (whole k q ys) c h m = record_of-put_record-other c k q ys ok h n r l in_set m
    record_left (fill k q ys) c h m = record_of-put_run-other c (address k q body) n r ok l in_set m ys h.0 h.1

    record_seal : (j : Check) (c : List ℕ) (k : ℕ) → record_of (seal j c k) (entry_of t n) r ≡ record_of c (entry_of t n) r
    record_seal j c k =
        run_seal j c k (place_of (entry_of t n) r) (entry_of t n).size (λ p q. inside-off_checks n r 0 (entry_of t n).size ok (l, in_set, omega arith) k (omega arith) (omega arith))

-- ---- what the commit leaves

module _ {t : Schema} (ok : SchemaOk t) (b : List ℕ) (sized : length b ≡ 512 * t.blocks) where
  pub length-after : (ds : List Deed) → length (after t b ds) ≡ length b
  length-after ds = length-committed _ b (stores_for t ds)

  -- ---- a word

  pub word_missed : (ds : List Deed) (a : Address) → AllValid t ds → WordField t a → Misses a ds → get_word t (after t b ds) a ≡ get_word t b a
  word_missed ds a v ia m =
      kept t (Miss a) (Misses a) (λ d ds h. h) (λ c. get_word t c a) (λ c k. get_word-seal _ c k a ok ia) (word_left ok a ia) b ds sized v m

  -- the one that a deed stores
  pub word_pointed : (us : List Deed) (a : Address) (v : ℕ) (vs : List Deed) → AllValid t (us ++ point a v ∷ vs) → Misses a vs
      → get_word t (after t b (us ++ point a v ∷ vs)) a ≡ v
  word_pointed us a v vs h m =
      let w = (valid-at t us (point a v) vs h).0 in
      put t (Miss a) (Misses a) (λ d ds h. h) (λ c. get_word t c a) (λ c k. get_word-seal _ c k a ok w.0) (word_left ok a w.0) b us (point a v) vs v sized h m
      (λ c e. rw (put_run-word t c a v) (get_word-put_word c a v ok e w.0 w.1))

  -- ---- a run

  pub run_missed : (ds : List Deed) (a : Address) → AllValid t ds → IsAddress t a → Misses a ds → get_run t (after t b ds) a ≡ get_run t b a
  run_missed ds a v ia m =
      kept t (Miss a) (Misses a) (λ d ds h. h) (λ c. get_run t c a) (λ c k. get_run-seal _ c k a ok ia) (run_left ok a ia) b ds sized v m

  pub run_filled : (us : List Deed) (n r : ℕ) (ys : List ℕ) (vs : List Deed) → AllValid t (us ++ fill n r ys ∷ vs) → Misses (address n r body) vs
      → get_run t (after t b (us ++ fill n r ys ∷ vs)) (address n r body) ≡ ys
  run_filled us n r ys vs h m =
      let w = (valid-at t us (fill n r ys) vs h).0 in
      let a = address n r body in
      put t (Miss a) (Misses a) (λ d ds h. h) (λ c. get_run t c a) (λ c k. get_run-seal _ c k a ok w.0) (run_left ok a w.0) b us (fill n r ys) vs ys sized h m
      (λ c e. get_run-put_run c a ys ok e w.0 w.1)

  -- ---- a state

  pub live-missed : (ds : List Deed) (n r : ℕ) → AllValid t ds → n < set_count t → InSet (entry_of t n) r → AllSpared n r ds
      → is_live (after t b ds) (entry_of t n) r ≡ is_live b (entry_of t n) r
  live-missed ds n r v l i m =
      ap (λ (x : ℕ). eqb x 1)
      (kept t (Spared n r) (AllSpared n r) (λ d ds h. h) (λ c. state_of c (entry_of t n) r) (λ c k. state_of-seal c n r ok l i _ k) (state-left ok n r l i) b ds sized v m)

  -- ---- a whole record

  pub record_missed : (ds : List Deed) (n r : ℕ) → AllValid t ds → n < set_count t → InSet (entry_of t n) r → AllOff n r ds
      → record_of (after t b ds) (entry_of t n) r ≡ record_of b (entry_of t n) r
  record_missed ds n r v l i m =
      kept t (Off n r) (AllOff n r) (λ d ds h. h) (λ c. record_of c (entry_of t n) r) (record_seal ok n r l i _) (record_left ok n r l i) b ds sized v m

  pub record_whole : (us : List Deed) (n r : ℕ) (ys : List ℕ) (vs : List Deed) → AllValid t (us ++ whole n r ys ∷ vs) → AllOff n r vs
      → record_of (after t b (us ++ whole n r ys ∷ vs)) (entry_of t n) r ≡ ys
  record_whole us n r ys vs h m =
      let w = (valid-at t us (whole n r ys) vs h).0 in
      put t (Off n r) (AllOff n r) (λ d ds h. h) (λ c. record_of c (entry_of t n) r) (record_seal ok n r w.0 w.1 _) (record_left ok n r w.0 w.1)
      b us (whole n r ys) vs ys sized h m (λ c e. record_of-put_record c n r ys ok w e)
