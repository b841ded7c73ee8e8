-- The deeds of a call on a set of masters. What they leave alone: every other set, free records that they do not put, and of a record that is not
-- put whole its key and its paths. What there is to show of them: they leave a sound set of masters, the masters of before in whatever records, and
-- no free record with anything in it; it is shown of the records that are put whole. WRITM puts none, so every master stays where it is.
use Rattle.std.specs.Prelude.{ℕ, ◌*◌, ◌≤◌, ◌<◌, ◌≡◌, refl, ◌≢◌, ◌⊎◌, true, false, List, [], ◌∷◌, eqb, length}
use Rattle.std.proofs.Common.{sym, ◌∙◌, inl, inr, ⊎_elim, arith}
use Rattle.octets.specs.Octets.{all_zero}
use Rattle.octets.specs.TestLaws.{never_both}
use Rattle.schema.specs.declared.Schema.{Schema}
use Rattle.schema.specs.Decode.{entry_of, set_count}
use Rattle.schema.specs.Place.{InSet, record_of}
use Rattle.schema.specs.Guarantee.{SchemaOk}
use Rattle.records.specs.Records.{is_live, master_key}
use Rattle.records.specs.Address.{Field, root-next, root-prior, own_key, body, first, last, address}
use Rattle.records.proofs.AddressLaws.{field_kind, other_kind}
use Rattle.plans.specs.Plan.{Store, store_run}
use Rattle.chains.specs.Members.{All, In, Fresh, all_in, in?}
use Rattle.sound.specs.Sound.{set_clean}
use Rattle.sound.specs.Sets.{Live, MasterSet}
use Rattle.kept_state.specs.Deeds.{Deed, fill, stores_for, after, AllValid, Misses, AllSpared, AllOff, AllZeroed}
use Rattle.kept_state.specs.Frames.{SameMasters, Carried, Bare, Moved}
use Rattle.kept_state.specs.DeedLaws.{word_missed, run_missed, live-missed}
use Rattle.kept_state.specs.SettleLaws.{free_missed}
use Rattle.master_steps.specs.RowLaws.{same_masters}

-- what is known of the data base and of its set n before the call
pub record MastersKnown (t : Schema) (b : List ℕ) (n : ℕ) : Type 0 where
  pub ok : SchemaOk t
  pub sized : length b ≡ 512 * t.blocks
  pub set : n < t.masters
  pub clean : set_clean b (entry_of t n) ≡ true
  pub sound : MasterSet b (entry_of t n)

module _ {t : Schema} {b : List ℕ} {n : ℕ} (known : MastersKnown t b n) where
  pub counted : n < set_count t
  counted = let m = known.set in omega arith

  pub some : 1 ≤ (entry_of t n).records
  some = (known.ok.set n counted).some

  pub many : (entry_of t n).records ≤ 65535
  many = (known.ok.set n counted).many

-- a field that is no ROOT pointer and no D bytes
abbrev Firm : Field → Type 0
Firm f = (eqb (field_kind f) 1 ≡ false) × (eqb (field_kind f) 2 ≡ false) × (eqb (field_kind f) 4 ≡ false)

-- the deeds stay within set n, and put the records ts of it whole
pub record Within (t : Schema) (b : List ℕ) (n : ℕ) (ts : List ℕ) (ds : List Deed) : Type 0 where
  pub valid : AllValid t ds
  pub zeroed : AllZeroed ds
  pub spared : (a : ℕ) → Fresh a ts → AllSpared n a ds
  pub misses : (a : ℕ) (f : Field) → Firm f → Fresh a ts → Misses (address n a f) ds
  pub off : (k r : ℕ) → (k ≡ n → Fresh r ts × (is_live b (entry_of t n) r ≡ false)) → AllOff k r ds

-- a record that is not put whole has its master as before
module _ {t : Schema} {b : List ℕ} {n : ℕ} (known : MastersKnown t b n) {ts : List ℕ} {ds : List Deed} (w : Within t b n ts ds) (a : ℕ) (i : InSet (entry_of t n) a) (f : Fresh a ts) where
  pub kept-live : is_live (after t b ds) (entry_of t n) a ≡ is_live b (entry_of t n) a
  kept-live = live-missed known.ok b known.sized ds n a w.valid (counted known) i (w.spared a f)

  pub kept_carried : Carried t b (after t b ds) n a a
  kept_carried =
      let l = counted known in
      record {
        key = run_missed known.ok b known.sized ds (address n a own_key) w.valid (l, i, known.set) (w.misses a own_key (refl, refl, refl) f);
        first = λ k j p q. word_missed known.ok b known.sized ds (address n a (first k j)) w.valid ((l, i, (p, q)), refl) (w.misses a (first k j) (refl, refl, refl) f);
        last = λ k j p q. word_missed known.ok b known.sized ds (address n a (last k j)) w.valid ((l, i, (p, q)), refl) (w.misses a (last k j) (refl, refl, refl) f);
      }

-- ---- what there is to show

pub record CallDeeds (t : Schema) (b : List ℕ) (n : ℕ) (xs : List Store) : Type 0 where
  pub deeds : List Deed
  pub are : xs ≡ stores_for t deeds
  pub touched : List ℕ
  pub within : Within t b n touched deeds
  pub empty : (r : ℕ) → InSet (entry_of t n) r → is_live (after t b deeds) (entry_of t n) r ≡ false → all_zero (record_of (after t b deeds) (entry_of t n) r) ≡ true
  pub masters : MasterSet (after t b deeds) (entry_of t n)
  pub moved : Moved t b (after t b deeds) n

-- ---- the records that are put whole

-- a master that was in record r is in some record now, or had no points
abbrev Went : Schema → List ℕ → List ℕ → ℕ → ℕ → Type 0
Went t b c n r = ((q : ℕ) × Live c (entry_of t n) q × Carried t b c n r q) ⊎ Bare t b n r

-- the one that is there now was in some record, or is new and has no points
abbrev pub Came : Schema → List ℕ → List ℕ → ℕ → ℕ → Type 0
Came t b c n r =
    ((m : ℕ) × Live b (entry_of t n) m × Carried t b c n m r)
    ⊎ (Bare t c n r × ((m : ℕ) → Live b (entry_of t n) m → master_key b (entry_of t n) m ≢ master_key c (entry_of t n) r))

-- what is in record r now: such a master, or nothing
abbrev Now : Schema → List ℕ → List ℕ → ℕ → ℕ → Type 0
Now t b c n r = ((is_live c (entry_of t n) r ≡ true) × Came t b c n r) ⊎ ((is_live c (entry_of t n) r ≡ false) × (all_zero (record_of c (entry_of t n) r) ≡ true))

abbrev Fate : Schema → List ℕ → List ℕ → ℕ → ℕ → Type 0
Fate t b c n r = (Live b (entry_of t n) r → Went t b c n r) × Now t b c n r

module _ {t : Schema} {b : List ℕ} {n : ℕ} (known : MastersKnown t b n) where
  pub deeds-told : (xs : List Store) (ds : List Deed) → xs ≡ stores_for t ds → (ts : List ℕ) → Within t b n ts ds → All (Fate t b (after t b ds) n) ts
      → MasterSet (after t b ds) (entry_of t n) → CallDeeds t b n xs
  deeds-told xs ds are ts w fates ms =
      record {
        deeds = ds;
        are = are;
        touched = ts;
        within = w;
        empty = λ r i dead. ⊎_elim (λ m. wiped r dead (fate r m).1) (λ f. untouched r i f dead) (in? r ts);
        masters = ms;
        moved = record {
          forth = λ m l. ⊎_elim (λ k. (fate m k).0 l) (λ f. inl (m, (l.0, kept-live known w m l.0 f ∙ l.1), kept_carried known w m l.0 f)) (in? m ts);
          back = λ q l. ⊎_elim (λ k. came q l.1 (fate q k).1) (λ f. inl (q, (l.0, sym (kept-live known w q l.0 f) ∙ l.1), kept_carried known w q l.0 f)) (in? q ts);
        };
      }
    where
      fate : (r : ℕ) → In r ts → Fate t b (after t b ds) n r
      fate r m = all_in (Fate t b (after t b ds) n) r ts fates m

      came : (r : ℕ) → is_live (after t b ds) (entry_of t n) r ≡ true → Now t b (after t b ds) n r → Came t b (after t b ds) n r
      came r l (inl v) = v.1
      came r l (inr z) = absurd (never_both _ l z.0)

      wiped : (r : ℕ) → is_live (after t b ds) (entry_of t n) r ≡ false → Now t b (after t b ds) n r → all_zero (record_of (after t b ds) (entry_of t n) r) ≡ true
      wiped r dead (inl v) = absurd (never_both _ v.0 dead)
      wiped r dead (inr z) = z.1

      untouched : (r : ℕ) → InSet (entry_of t n) r → Fresh r ts → is_live (after t b ds) (entry_of t n) r ≡ false → all_zero (record_of (after t b ds) (entry_of t n) r) ≡ true
      untouched r i f dead =
          let was = sym (kept-live known w r i f) ∙ dead in
          free_missed known.ok b known.sized ds n r w.valid (counted known) i known.clean was (w.off n r (λ z. (f, was)))

  -- ---- WRITM

  module _ (r : ℕ) (ys : List ℕ) (l : Live b (entry_of t n) r) (fits : length ys ≡ (entry_of t n).room) where
    abbrev filled : List Deed
    filled = fill n r ys ∷ []

    filled_within : Within t b n [] filled
    filled_within =
        record {
          valid = (((counted known, l.0, counted known), fits), tt);
          zeroed = (tt, tt);
          spared = λ a f. (tt, tt);
          misses = λ a f k h. (other_kind n n a r f body k.2, tt);
          off = λ k q f. (λ z. never_both _ l.1 (rw z.1 at (f z.0).1), tt);
        }

    filled-same : SameMasters t b (after t b filled) n
    filled-same =
        record {
          live = λ a i. kept-live known filled_within a i tt;
          key = λ a i. (kept_carried known filled_within a i tt).key;
          next = λ a i.
              word_missed known.ok b known.sized filled (address n a root-next) filled_within.valid ((counted known, i, known.set), refl) (other_kind n n a r root-next body refl, tt);
          prior = λ a i.
              word_missed known.ok b known.sized filled (address n a root-prior) filled_within.valid ((counted known, i, known.set), refl) (other_kind n n a r root-prior body refl, tt);
        }

    pub write_deeds : CallDeeds t b n (store_run (entry_of t n) r (entry_of t n).body ys ∷ [])
    write_deeds = deeds-told _ filled refl [] filled_within tt (same_masters t b (after t b filled) n (some known) filled-same known.sound)
