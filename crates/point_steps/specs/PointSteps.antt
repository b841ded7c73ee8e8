-- What a call on one record of a variable set leaves of everything else: the masters, the paths of the other sets, the areas of the other
-- records. With it only the paths of the call's own set are left to be told, and the whole state follows. It is told once for all such calls:
-- their deeds put record r of set i, whole or its D bytes, and set pointers of that set's paths in live records, so they miss every other field.
use Rattle.std.specs.Prelude.{ℕ, ◌*◌, ◌≤◌, ◌<◌, ◌≡◌, refl, ◌≢◌, ◌⊎◌, Bool, true, false, List, [], ◌∷◌, length}
use Rattle.std.proofs.Common.{sym, ap, ◌∙◌, inl, inr, arith}
use Rattle.octets.specs.Octets.{all_zero}
use Rattle.octets.specs.BelowLaws.{same?}
use Rattle.octets.specs.TestLaws.{never_both}
use Rattle.blocks.specs.Blocks.{check_by, is_sealed}
use Rattle.schema.specs.declared.Schema.{Schema}
use Rattle.schema.specs.Decode.{entry_of, set_count}
use Rattle.schema.specs.Place.{InSet, record_of}
use Rattle.schema.specs.Guarantee.{IsPathOf}
use Rattle.records.specs.Records.{is_live}
use Rattle.records.specs.Areas.{area_of}
use Rattle.records.proofs.KindLaws.{is_variable}
use Rattle.records.specs.Address.{Field, root-next, root-prior, own_key, body, key, Address, IsAddress, get_word, get_run, address, WordField}
use Rattle.records.specs.WholeRecords.{Elsewhere}
use Rattle.sound.specs.Sound.{set_clean}
use Rattle.sound.specs.Sets.{Live}
use Rattle.kept_state.specs.Deeds.{Deed, point, whole, fill, after, Valid, AllValid, Misses, AllSpared, AllOff, Zeroed, AllZeroed}
use Rattle.kept_state.specs.DeedLaws.{length-after, word_missed, run_missed, live-missed}
use Rattle.kept_state.specs.SettleLaws.{sealed-after, clean_after, free_missed}
use Rattle.kept_state.specs.Frames.{SameMasters, SameHeads, SamePoints}
use Rattle.kept_state.specs.Rows.{World, PathRows, Represents}
use Rattle.master_steps.specs.RowLaws.{same_masters}
use Rattle.point_steps.specs.RowFacts.{path_numbered, masters_at, next_node_at, prior_node_at, rows_same}
use Rattle.point_steps.specs.FollowLaws.{path_frame}
use Rattle.point_steps.specs.Nodes.{pointer, node, node-is, pointer_word, pointer-elsewhere, pointers_apart, Plain, plain-apart}
use Rattle.kept_state.specs.AreaMade.{area_same}

-- ---- the step

-- what a call on record r of the variable set i leaves of everything but that record and the paths of its set
pub record PointStep (t : Schema) (b c : List ℕ) (i r : ℕ) : Type 0 where
  pub sized : length c ≡ 512 * t.blocks
  pub sealed : (k : ℕ) → k < t.blocks → is_sealed (check_by t.edition) c k ≡ true
  pub clean : (k : ℕ) → k < set_count t → set_clean c (entry_of t k) ≡ true
  pub masters : (n : ℕ) → n < t.masters → SameMasters t b c n
  pub points : (k j : ℕ) → IsPathOf t k j → k ≢ i → SamePoints t b c k j
  pub heads : (k j : ℕ) → IsPathOf t k j → k ≢ i → SameHeads t b c k j
  pub areas : (k q : ℕ) → t.masters ≤ k → k < set_count t → InSet (entry_of t k) q → ((k ≡ i) × (q ≡ r) → ⊥) → area_of c (entry_of t k) q ≡ area_of b (entry_of t k) q

-- the state after it, once the paths of its own set are told
pub point-step-keeps : (t : Schema) (w : World t) (b c : List ℕ) (rows now : ℕ → ℕ → List ℕ → List ℕ) (i r : ℕ) → Represents t b rows → PointStep t b c i r
    → ((k j : ℕ) (key : List ℕ) → k ≢ i → now k j key ≡ rows k j key) → ((j : ℕ) → j < (entry_of t i).count → PathRows t c i j (now i j)) → Represents t c now
point-step-keeps t w b c rows now i r g s others own =
    record {
      sized = s.sized;
      sealed = s.sealed;
      clean = s.clean;
      masters = λ n l. same_masters t b c n (w.ok.set n (omega arith)).some (s.masters n l) (g.masters n l);
      paths = λ k j p. by k j p (same? k i);
    }
  where
    by : (k j : ℕ) → IsPathOf t k j → (k ≡ i) ⊎ (k ≢ i) → PathRows t c k j (now k j)
    by k j p (inl e) = rw e (own j (rw e at p.2))
    by k j p (inr n) =
        rows_same t c k j (rows k j) (now k j) (λ key. others k j key n)
        (path_frame t b c k j (rows k j) p (s.points k j p n) (s.heads k j p n) (s.masters _ (w.ok.path k j p).master) (g.paths k j p))

-- ---- what deeds leave

module _ (t : Schema) (w : World t) (b : List ℕ) (rows : ℕ → ℕ → List ℕ → List ℕ) (g : Represents t b rows) (ds : List Deed) (valid : AllValid t ds) where
  pub node-missed : (way : Bool) (k j m a : ℕ) → IsPathOf t k j → InSet (masters_at t k j) m → a ≤ (entry_of t k).records → Misses (pointer t way k j m a) ds
      → node t (after t b ds) way k j m a ≡ node t b way k j m a
  node-missed way k j m a p in-m in-a h =
      node-is t (after t b ds) way k j m a
      ∙ word_missed w.ok b g.sized ds (pointer t way k j m a) valid (pointer_word t w.ok way k j m a p in-m in-a) h
      ∙ sym (node-is t b way k j m a)

  -- a path whose keys and pointers are missed and whose records are spared is as it was
  module _ (k j : ℕ) (p : IsPathOf t k j) (spared : (q : ℕ) → AllSpared k q ds) (keys : (q : ℕ) → Misses (address k q (key j)) ds)
      (nodes : (way : Bool) (m a : ℕ) → Misses (pointer t way k j m a) ds) where
    node-same : (way : Bool) (m a : ℕ) → InSet (masters_at t k j) m → a ≤ (entry_of t k).records → node t (after t b ds) way k j m a ≡ node t b way k j m a
    node-same way m a in-m in-a = node-missed way k j m a p in-m in-a (nodes way m a)

    pub path_same : SamePoints t b (after t b ds) k j × SameHeads t b (after t b ds) k j
    path_same =
        let l = (w.ok.path k j p).master in
        let one : InSet (masters_at t k j) 1 = (omega arith, (w.ok.set (path_numbered t k j).master.0 (omega arith)).some) in (
          record {
            live = λ q s. live-missed w.ok b g.sized ds k q valid p.1 s (spared q);
            key = λ q s. run_missed w.ok b g.sized ds (address k q (key j)) valid (p.1, s, p) (keys q);
            prior = λ q s. sym (prior_node_at t (after t b ds) k j 1 q s.0) ∙ node-same false 1 q one s.1 ∙ prior_node_at t b k j 1 q s.0;
            next = λ q s. sym (next_node_at t (after t b ds) k j 1 q s.0) ∙ node-same true 1 q one s.1 ∙ next_node_at t b k j 1 q s.0;
          },
          record { first = λ m s. node-same true m 0 s (omega arith); last = λ m s. node-same false m 0 s (omega arith) },
        )

-- ---- deeds on points

-- a deed of a call on record r of set i
abbrev pub OnPoint : Schema → List ℕ → ℕ → ℕ → Deed → Type 0
OnPoint t b i r (point a v) = Live b (entry_of t a.set) a.at × (way : Bool) × (j : ℕ) × (m : ℕ) × (n : ℕ) × (a ≡ pointer t way i j m n)
OnPoint t b i r (whole n q ys) = (n ≡ i) × (q ≡ r)
OnPoint t b i r (fill n q ys) = (n ≡ i) × (q ≡ r)

abbrev pub AllOnPoint : Schema → List ℕ → ℕ → ℕ → List Deed → Type 0
AllOnPoint t b i r [] = Unit {0}
AllOnPoint t b i r (d ∷ ds) = (Valid t d × Zeroed d × OnPoint t b i r d) × AllOnPoint t b i r ds

module _ (t : Schema) (b : List ℕ) (i r : ℕ) where
  pub on-valid : (ds : List Deed) → AllOnPoint t b i r ds → AllValid t ds
  on-valid [] h = tt
  on-valid (d ∷ ds) h = (h.0.0, on-valid ds h.1)

  on-zeroed : (ds : List Deed) → AllOnPoint t b i r ds → AllZeroed ds
  on-zeroed [] h = tt
  on-zeroed (d ∷ ds) h = (h.0.1, on-zeroed ds h.1)

  -- an address outside record r that is no such pointer is missed
  on-misses : (x : Address) → ((way : Bool) (j m n : ℕ) → x ≢ pointer t way i j m n) → Elsewhere x.set x.at i r → (ds : List Deed) → AllOnPoint t b i r ds → Misses x ds
  on-misses x f d [] h = tt
  on-misses x f d (point a v ∷ ds) h = (let p = h.0.2 in λ e. f p.1 p.2 p.3 p.4 (e ∙ p.5), on-misses x f d ds h.1)
  on-misses x f d (whole n q ys ∷ ds) h = (λ e. d (e.0 ∙ h.0.2.0, e.1 ∙ h.0.2.1), on-misses x f d ds h.1)
  on-misses x f d (fill n q ys ∷ ds) h =
      (λ e. d (ap (λ (a : Address). a.set) e ∙ h.0.2.0, ap (λ (a : Address). a.at) e ∙ h.0.2.1), on-misses x f d ds h.1)

  -- every other record keeps its state, and one that was not live is not gone into
  on-spared : (n q : ℕ) → Elsewhere n q i r → (ds : List Deed) → AllOnPoint t b i r ds → AllSpared n q ds
  on-spared n q d [] h = tt
  on-spared n q d (point a v ∷ ds) h = (tt, on-spared n q d ds h.1)
  on-spared n q d (whole m p ys ∷ ds) h = (λ e. d (e.0 ∙ h.0.2.0, e.1 ∙ h.0.2.1), on-spared n q d ds h.1)
  on-spared n q d (fill m p ys ∷ ds) h = (tt, on-spared n q d ds h.1)

  on-off : (n q : ℕ) → is_live b (entry_of t n) q ≡ false → Elsewhere n q i r → (ds : List Deed) → AllOnPoint t b i r ds → AllOff n q ds
  on-off n q f d [] h = tt
  on-off n q f d (point a v ∷ ds) h = (λ e. never_both (is_live b (entry_of t n) q) (rw (e.0, e.1) h.0.2.0.1) f, on-off n q f d ds h.1)
  on-off n q f d (whole m p ys ∷ ds) h = (λ e. d (e.0 ∙ h.0.2.0, e.1 ∙ h.0.2.1), on-off n q f d ds h.1)
  on-off n q f d (fill m p ys ∷ ds) h = (λ e. d (e.0 ∙ h.0.2.0, e.1 ∙ h.0.2.1), on-off n q f d ds h.1)

-- ---- what they leave of everything else

module _ (t : Schema) (w : World t) (b : List ℕ) (rows : ℕ → ℕ → List ℕ → List ℕ) (g : Represents t b rows) (i r : ℕ) (low : t.masters ≤ i)
    (ds : List Deed) (on : AllOnPoint t b i r ds) where
  abbrev left : List ℕ
  left = after t b ds

  valid : AllValid t ds
  valid = on-valid t b i r ds on

  -- a plain field of another record, as bytes and as a word, and its state
  module _ (n q : ℕ) (d : Elsewhere n q i r) where
    plain-missed : (f : Field) → Plain n q f → Misses (address n q f) ds
    plain-missed f p = on-misses t b i r (address n q f) (λ way j m a. plain-apart t way n q f i j m a p) d ds on

    pub run_kept : (f : Field) → Plain n q f → IsAddress t (address n q f) → get_run t left (address n q f) ≡ get_run t b (address n q f)
    run_kept f p ia = run_missed w.ok b g.sized ds (address n q f) valid ia (plain-missed f p)

    word_kept : (f : Field) → Plain n q f → WordField t (address n q f) → get_word t left (address n q f) ≡ get_word t b (address n q f)
    word_kept f p ia = word_missed w.ok b g.sized ds (address n q f) valid ia (plain-missed f p)

    pub live-kept : n < set_count t → InSet (entry_of t n) q → is_live left (entry_of t n) q ≡ is_live b (entry_of t n) q
    live-kept l s = live-missed w.ok b g.sized ds n q valid l s (on-spared t b i r n q d ds on)

  masters-kept : (n : ℕ) → n < t.masters → SameMasters t b left n
  masters-kept n l =
      let all : n < set_count t = omega arith in
      let else : (q : ℕ) → Elsewhere n q i r = λ q e. omega arith in
      record {
        live = λ q s. live-kept n q (else q) all s;
        key = λ q s. run_kept n q (else q) own_key refl (all, s, l);
        next = λ q s. word_kept n q (else q) root-next refl ((all, s, l), refl);
        prior = λ q s. word_kept n q (else q) root-prior refl ((all, s, l), refl);
      }

  paths-kept : (k j : ℕ) → IsPathOf t k j → k ≢ i → SamePoints t b left k j × SameHeads t b left k j
  paths-kept k j p other =
      path_same t w b rows g ds valid k j p (λ q. on-spared t b i r k q (λ e. other e.0) ds on) (λ q. plain-missed k q (λ e. other e.0) (key j) refl) (λ way m a.
      on-misses t b i r (pointer t way k j m a) (λ turn l q n. pointers_apart t way turn k j m a i l q n (λ x e y z u. other e))
      (pointer-elsewhere t w.ok way k j m a i r p low (λ e. absurd (other e))) ds on)

  -- free records are zero, if record r is where it is free now
  module _ (wiped : is_live left (entry_of t i) r ≡ false → all_zero (record_of left (entry_of t i) r) ≡ true) where
    free_kept : (n q : ℕ) → n < set_count t → InSet (entry_of t n) q → is_live left (entry_of t n) q ≡ false → all_zero (record_of left (entry_of t n) q) ≡ true
    free_kept n q l s f = by (same? n i) (same? q r)
      where
        else : Elsewhere n q i r → all_zero (record_of left (entry_of t n) q) ≡ true
        else d =
            let was : is_live b (entry_of t n) q ≡ false = sym (live-kept n q d l s) ∙ f in
            free_missed w.ok b g.sized ds n q valid l s (g.clean n l) was (on-off t b i r n q was d ds on)

        by : (n ≡ i) ⊎ (n ≢ i) → (q ≡ r) ⊎ (q ≢ r) → all_zero (record_of left (entry_of t n) q) ≡ true
        by (inl e) (inl k) = rw (e, k) (wiped (rw (e, k) at f))
        by (inl e) (inr k) = else (λ h. k h.1)
        by (inr e) k = else (λ h. e h.0)

    pub deeds-step : PointStep t b left i r
    deeds-step =
        record {
          sized = length-after w.ok b g.sized ds ∙ g.sized;
          sealed = sealed-after w.ok b g.sized ds valid g.sealed;
          clean = clean_after w.ok b g.sized ds valid (on-zeroed t b i r ds on) g.clean free_kept;
          masters = masters-kept;
          points = λ k j p d. (paths-kept k j p d).0;
          heads = λ k j p d. (paths-kept k j p d).1;
          areas = λ k q lo hi s d.
              area_same b left (entry_of t k) q (w.fields k hi) (is_variable t w.ok k lo hi) (λ j l. run_kept k q d (key j) refl (hi, s, (lo, hi, l)))
              (run_kept k q d body refl (hi, s, hi));
        }
