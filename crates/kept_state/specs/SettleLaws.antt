-- A commit of valid deeds leaves a data base whose blocks are sealed and whose sets are clean. The stores fit their blocks, so the plan laws
-- seal them; fillers and leftovers stay zero deed by deed (Holds); that free records are zero is left to who knows which records are free.
use Rattle.std.specs.Prelude.{ℕ, ◌+◌, ◌*◌, ◌<◌, ◌≡◌, Bool, List, [], ◌∷◌, length}
use Rattle.std.proofs.Math.Path.{refl}
use Rattle.std.proofs.Common.{sym, ap, ◌∙◌, arith, length-take, eq-eqb}
use Rattle.std.proofs.Math.Bool.{true, false, cond, and-eq-true_iff}
use Rattle.std.proofs.Math.Decide.{ℕ_discrete}
use Rattle.octets.specs.Octets.{byte_at, run, word_bytes, zeros, is, all_zero}
use Rattle.octets.specs.SpliceLaws.{get_d_run, get_d_zeros}
use Rattle.octets.specs.RunLaws.{every_all, all_zero-zeros, all_zero_eq}
use Rattle.octets.specs.Below.{all_below}
use Rattle.octets.specs.BelowLaws.{all_below-at, all_below-all}
use Rattle.blocks.specs.declared.Check.{Check}
use Rattle.blocks.specs.Blocks.{check_by, is_sealed}
use Rattle.schema.specs.declared.Entry.{Entry}
use Rattle.schema.specs.declared.Schema.{Schema}
use Rattle.schema.specs.Decode.{entry_of, set_count}
use Rattle.schema.specs.Place.{InSet, record_of, blocks_held, leftover_of}
use Rattle.schema.specs.Guarantee.{SchemaOk}
use Rattle.schema.proofs.GuaranteeLaws.{lies}
use Rattle.records.specs.Records.{is_live}
use Rattle.records.specs.Address.{body, Address, IsAddress, offset_of, address, Fills}
use Rattle.records.proofs.AddressLaws.{address-inside}
use Rattle.records.specs.WholeRecords.{IsWhole}
use Rattle.records.proofs.WholeLaws.{record_of-put_record, record_of-put_record-other}
use Rattle.records.proofs.FillerLaws.{filler_of, filler_of-record_of, filler_of-put_run, filler_of-seal, leftover_of-inside, leftover_of-put_record, leftover_of-seal}
use Rattle.plans.specs.Plan.{Store, store_run, store_block, blocks_sealed}
use Rattle.plans.proofs.PlanLaws.{committed-sealed}
use Rattle.plans.specs.PlanOk.{Fits, AllFit}
use Rattle.plans.proofs.FitLaws.{run_fits, record_fits}
use Rattle.sound.specs.Sound.{each_record, record_clean, leftover_clean, set_clean}
use Rattle.sound.proofs.SoundLaws.{each_record-at}
use Rattle.sound.proofs.ListLaws.{each_record-all}
use Rattle.kept_state.specs.Deeds.{Deed, point, whole, fill, store_of, stores_for, after, Valid, AllValid, Zeroed, AllZeroed, AllOff}
use Rattle.kept_state.specs.DeedLaws.{record_missed}
use Rattle.kept_state.specs.Holds.{deed_done, holds, kept}

-- bytes that are 0, and a run of them
zero_byte : (xs : List ℕ) (i : ℕ) → all_zero xs ≡ true → byte_at xs i ≡ 0
zero_byte xs i h = ap (λ ys. byte_at ys i) (all_zero_eq xs h) ∙ get_d_zeros (length xs) i

pub zero_run : (xs : List ℕ) (a n : ℕ) → ((i : ℕ) → i < n → byte_at xs (a + i) ≡ 0) → all_zero (run xs a n) ≡ true
zero_run xs a n h =
    every_all (is 0) (run xs a n) (λ i l.
    let m : i < n = omega (arith, rw length-take at l) in
    eq-eqb _ 0 (get_d_run xs a n i m ∙ h i m))

-- a clean set, record by record and block by block
clean_says : (b : List ℕ) (e : Entry) → set_clean b e ≡ true
    → ((r : ℕ) → InSet e r → record_clean b e r ≡ true) × ((k : ℕ) → k < blocks_held e → leftover_clean b e k ≡ true)
unfolding set_clean
clean_says b e h =
    let a = (and-eq-true_iff (each_record e (record_clean b e)) (all_below (leftover_clean b e) (blocks_held e))).0 h in
    (λ r i. each_record-at e (record_clean b e) r a.0 i, λ k l. all_below-at (leftover_clean b e) (blocks_held e) k a.1 l)

pub clean-holds : (b : List ℕ) (e : Entry) → ((r : ℕ) → InSet e r → record_clean b e r ≡ true) → ((k : ℕ) → k < blocks_held e → leftover_clean b e k ≡ true)
    → set_clean b e ≡ true
unfolding set_clean
clean-holds b e f g =
    (and-eq-true_iff (each_record e (record_clean b e)) (all_below (leftover_clean b e) (blocks_held e))).1
    (each_record-all e (record_clean b e) f, all_below-all (leftover_clean b e) (blocks_held e) g)

-- stores that fit go into blocks of the base
stores-sealed : (c : Check) (b : List ℕ) (xs : List Store) (n : ℕ) → length b ≡ 512 * n → AllFit (length b) xs → ((k : ℕ) → k < n → is_sealed c b k ≡ true)
    → blocks_sealed c b xs ≡ true
unfolding blocks_sealed
stores-sealed c b [] n e f h = refl
stores-sealed c b (x ∷ xs) n e f h =
    (and-eq-true_iff (is_sealed c b (store_block x)) (blocks_sealed c b xs)).1 (h (store_block x) (omega (arith, f.0.whole)), stores-sealed c b xs n e f.1 h)

module _ {t : Schema} (ok : SchemaOk t) (b : List ℕ) (sized : length b ≡ 512 * t.blocks) where
  -- ---- checks

  -- a run at an address
  part-fits : (a : Address) (ys : List ℕ) → IsAddress t a → Fills t a ys
      → Fits (length b) (store_run (entry_of t a.set) a.at (offset_of t (entry_of t a.set) a.field) ys)
  part-fits a ys ia f = run_fits a.at _ ys (lies a.set ok ia.0 sized) ia.1 (rw f (address-inside a ok ia).2)

  deed_fits : (d : Deed) → Valid t d → Fits (length b) (store_of t d)
  deed_fits (point a v) h = part-fits a (word_bytes v) h.0.0 (sym h.0.1)
  deed_fits (whole n r ys) h = record_fits r ys (lies n ok h.0 sized) h.1 (omega arith)
  deed_fits (fill n r ys) h = part-fits (address n r body) ys h.0 h.1

  pub fits_after : (ds : List Deed) → AllValid t ds → AllFit (length b) (stores_for t ds)
  fits_after [] h = tt
  fits_after (d ∷ ds) h = (deed_fits d h.0, fits_after ds h.1)

  pub deeds-storable : (ds : List Deed) → AllValid t ds → ((k : ℕ) → k < t.blocks → is_sealed (check_by t.edition) b k ≡ true) → blocks_sealed (check_by t.edition) b (stores_for t ds) ≡ true
  deeds-storable ds v h = stores-sealed _ b (stores_for t ds) t.blocks sized (fits_after ds v) h

  pub sealed-after : (ds : List Deed) → AllValid t ds → ((k : ℕ) → k < t.blocks → is_sealed (check_by t.edition) b k ≡ true)
      → (k : ℕ) → k < t.blocks → is_sealed (check_by t.edition) (after t b ds) k ≡ true
  sealed-after ds v h k l = committed-sealed _ b (stores_for t ds) k (omega arith) (fits_after ds v) (h k l)

  -- ---- free records

  pub free_zero : (n r : ℕ) → n < set_count t → InSet (entry_of t n) r → set_clean b (entry_of t n) ≡ true → is_live b (entry_of t n) r ≡ false
      → all_zero (record_of b (entry_of t n) r) ≡ true
  unfolding record_clean
  free_zero n r l i c f = rw f at ((clean_says b (entry_of t n) c).0 r i)

  -- one that no deed goes into stays so
  pub free_missed : (ds : List Deed) (n r : ℕ) → AllValid t ds → n < set_count t → InSet (entry_of t n) r → set_clean b (entry_of t n) ≡ true
      → is_live b (entry_of t n) r ≡ false → AllOff n r ds → all_zero (record_of (after t b ds) (entry_of t n) r) ≡ true
  free_missed ds n r v l i c f off = rw (record_missed ok b sized ds n r v l i off) (free_zero n r l i c f)

  -- ---- fillers

  module _ (n r : ℕ) (l : n < set_count t) (in_set : InSet (entry_of t n) r) where
    -- that of a live record is tested, that of a free one is zero with the record
    pub filler_zero : set_clean b (entry_of t n) ≡ true → all_zero (filler_of b (entry_of t n) r) ≡ true
    unfolding record_clean
    filler_zero c = by (is_live b (entry_of t n) r) ((clean_says b (entry_of t n) c).0 r in_set)
      where
        by : (s : Bool) → cond s (all_zero (filler_of b (entry_of t n) r)) (all_zero (record_of b (entry_of t n) r)) ≡ true
            → all_zero (filler_of b (entry_of t n) r) ≡ true
        by true h = h
        by false h =
            rw (← (filler_of-record_of b n r ok l)) (zero_run (record_of b (entry_of t n) r) 1 3 (λ i m. zero_byte (record_of b (entry_of t n) r) (1 + i) h))

    -- a whole record that is put: its own filler is the one that is put, another is as it was
    filler-whole : (k q : ℕ) (ys c : List ℕ) → IsWhole t k q ys → run ys 1 3 ≡ zeros 3 → length c ≡ 512 * t.blocks → all_zero (filler_of c (entry_of t n) r) ≡ true
        → all_zero (filler_of (deed_done t c (whole k q ys)) (entry_of t n) r) ≡ true
    filler-whole k q ys c w z e h = go (ℕ_discrete n k) (ℕ_discrete r q)
      where
        own : all_zero (filler_of (deed_done t c (whole k q ys)) (entry_of t k) q) ≡ true
        own = rw (← (filler_of-record_of (deed_done t c (whole k q ys)) k q ok w.0), record_of-put_record c k q ys ok w e, z) (all_zero-zeros 3)

        other : ((n ≡ k) × (r ≡ q) → ⊥) → all_zero (filler_of (deed_done t c (whole k q ys)) (entry_of t n) r) ≡ true
        other d =
            rw (← (filler_of-record_of (deed_done t c (whole k q ys)) n r ok l), record_of-put_record-other c k q ys ok w n r l in_set d, filler_of-record_of c n r ok l) h

        go : Dec (n ≡ k) → Dec (r ≡ q) → all_zero (filler_of (deed_done t c (whole k q ys)) (entry_of t n) r) ≡ true
        go (yes x) (yes y) = rw (x, y) own
        go (yes x) (no y) = other (λ d. y d.1)
        go (no x) (yes y) = other (λ d. x d.0)
        go (no x) (no y) = other (λ d. x d.0)

    filler-kept : (d : Deed) (c : List ℕ) → Valid t d → Zeroed d → length c ≡ 512 * t.blocks → all_zero (filler_of c (entry_of t n) r) ≡ true
        → all_zero (filler_of (deed_done t c d) (entry_of t n) r) ≡ true
    filler-kept (point a v) c w z e h = rw (filler_of-put_run n r ok l in_set c a (word_bytes v) w.0.0 (sym w.0.1)) h
    filler-kept (whole k q ys) c w z e h = filler-whole k q ys c w z e h
    filler-kept (fill k q ys) c w z e h = rw (filler_of-put_run n r ok l in_set c (address k q body) ys w.0 w.1) h

    filler-after : (ds : List Deed) → AllValid t ds → AllZeroed ds → set_clean b (entry_of t n) ≡ true → all_zero (filler_of (after t b ds) (entry_of t n) r) ≡ true
    filler-after ds v z c =
        holds t Zeroed AllZeroed (λ d ds h. h) (λ c. all_zero (filler_of c (entry_of t n) r) ≡ true) (λ c k h. rw (filler_of-seal n r ok l in_set c _ k) h) filler-kept b ds sized v z
        (filler_zero c)

  -- ---- leftovers

  leftover_kept : (n k : ℕ) → n < set_count t → k < blocks_held (entry_of t n) → (d : Deed) (c : List ℕ) → Valid t d
      → leftover_of (deed_done t c d) (entry_of t n) k ≡ leftover_of c (entry_of t n) k
  leftover_kept n k l m (point a v) c h = leftover_of-inside n k ok l m c a.set a.at _ (word_bytes v) (rw h.0.1 at (address-inside a ok h.0.0))
  leftover_kept n k l m (whole i r ys) c h = leftover_of-put_record n k ok l m c i r ys h
  leftover_kept n k l m (fill i r ys) c h = leftover_of-inside n k ok l m c i r _ ys (rw (← h.1) at (address-inside (address i r body) ok h.0))

  leftover_after : (ds : List Deed) (n k : ℕ) → AllValid t ds → n < set_count t → k < blocks_held (entry_of t n)
      → leftover_of (after t b ds) (entry_of t n) k ≡ leftover_of b (entry_of t n) k
  leftover_after ds n k v l m =
      kept t (λ d. Unit {0}) (λ ds. Unit {0}) (λ d ds h. (tt, tt)) (λ c. leftover_of c (entry_of t n) k) (λ c j. leftover_of-seal n k ok l m _ c j)
      (λ d c w u. leftover_kept n k l m d c w) b ds sized v tt

  -- ---- clean sets stay clean, if the records that are free afterwards are zero

  pub clean_after : (ds : List Deed) → AllValid t ds → AllZeroed ds → ((n : ℕ) → n < set_count t → set_clean b (entry_of t n) ≡ true)
      → ((n r : ℕ) → n < set_count t → InSet (entry_of t n) r → is_live (after t b ds) (entry_of t n) r ≡ false → all_zero (record_of (after t b ds) (entry_of t n) r) ≡ true)
      → (n : ℕ) → n < set_count t → set_clean (after t b ds) (entry_of t n) ≡ true
  unfolding record_clean leftover_clean
  clean_after ds v z clean free n l =
      clean-holds (after t b ds) (entry_of t n)
      (λ r i. by r (is_live (after t b ds) (entry_of t n) r) refl (filler-after n r l i ds v z (clean n l)) (free n r l i))
      (λ k m. rw (leftover_after ds n k v l m) ((clean_says b (entry_of t n) (clean n l)).1 k m))
    where
      by : (r : ℕ) (s : Bool) → is_live (after t b ds) (entry_of t n) r ≡ s → all_zero (filler_of (after t b ds) (entry_of t n) r) ≡ true
          → (is_live (after t b ds) (entry_of t n) r ≡ false → all_zero (record_of (after t b ds) (entry_of t n) r) ≡ true)
          → cond s (all_zero (filler_of (after t b ds) (entry_of t n) r)) (all_zero (record_of (after t b ds) (entry_of t n) r)) ≡ true
      by r true e h f = h
      by r false e h f = f e
