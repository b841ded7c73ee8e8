-- What ADD-M and DEL-M store, as deeds: whole records put; then ROOT next of one record and ROOT prior of another, each where there is such a
-- record; then whole records put.
-- What they leave of the records that are not put; a record that is put and not reached again holds its bytes.
use Rattle.std.specs.Prelude.{ℕ, ◌≤◌, ◌≡◌, refl, ◌≢◌, Bool, true, false, cond, List, [], ◌∷◌, ◌++◌, eqb}
use Rattle.std.proofs.Common.{sym, ap, ◌∙◌, ⊎_elim, append_assoc, append-nil, arith, ne_eqb}
use Rattle.std.proofs.lemmas.Bool.{eqb-false}
use Rattle.octets.specs.TestLaws.{never_both}
use Rattle.schema.specs.declared.Schema.{Schema}
use Rattle.schema.specs.Decode.{entry_of}
use Rattle.schema.specs.Place.{record_of}
use Rattle.records.specs.Address.{Field, root-next, root-prior, get_word, address}
use Rattle.records.proofs.AddressLaws.{other_kind, other_record}
use Rattle.records.specs.WholeRecords.{Elsewhere}
use Rattle.masters.specs.Root.{root_prior_side, root_next_side}
use Rattle.chains.specs.Members.{All, Fresh, in_all, all_left, all_right, not-fresh}
use Rattle.chains.specs.Segments.{last_or, head_or, all_last, all_head}
use Rattle.sound.specs.Sets.{Live}
use Rattle.kept_state.specs.Deeds.{Deed, point, whole, store_of, stores_for, after, AllValid, Misses, AllSpared, AllOff, AllZeroed}
use Rattle.kept_state.specs.DeedLaws.{valid_append, zeroed_append, stores_for_append, word_missed, word_pointed, record_whole}
use Rattle.master_steps.specs.Neighbours.{Side, side-within}
use Rattle.master_steps.specs.TouchLaws.{Spliced}
use Rattle.master_steps.specs.CallDeeds.{MastersKnown, counted, many, Within, kept-live, kept_carried}

-- a record number, and the bytes that the record becomes
abbrev pub Put : Type 0
Put = ℕ × List ℕ

abbrev numbers : List Put → List ℕ
numbers [] = []
numbers (w ∷ ws) = w.0 ∷ numbers ws

-- the records of `front` put, those of `between` linked between `before` and `behind`, the records of `back` put
pub record Relink : Type 0 where
  pub front : List Put
  pub before : ℕ
  pub behind : ℕ
  pub between : List ℕ
  pub back : List Put

abbrev pub touched : Relink → List ℕ
touched s = numbers s.front ++ numbers s.back

-- ---- as deeds

module _ (n : ℕ) where
  abbrev wholes : List Put → List Deed
  wholes [] = []
  wholes (w ∷ ws) = whole n w.0 w.1 ∷ wholes ws

  -- a pointer that is set only where there is a record
  abbrev side : ℕ → Field → ℕ → List Deed
  side p f v = cond (eqb p 0) [] (point (address n p f) v ∷ [])

  side_cases : (P : List Deed → Type 0) (p : ℕ) (f : Field) (v : ℕ) (vs : List Deed) → P vs → (p ≢ 0 → P (point (address n p f) v ∷ vs)) → P (side p f v ++ vs)
  side_cases P p f v vs h k = by (eqb p 0) refl
    where
      by : (z : Bool) → eqb p 0 ≡ z → P (cond z [] (point (address n p f) v ∷ []) ++ vs)
      by true z = h
      by false z = k (eqb-false p 0 z)

  abbrev next_side_lem : Relink → List Deed
  next_side_lem s = side s.before root-next (head_or s.behind s.between)

  abbrev prior-side : Relink → List Deed
  prior-side s = side s.behind root-prior (last_or s.before s.between)

  abbrev pub links : Relink → List Deed
  links s = next_side_lem s ++ (prior-side s ++ wholes s.back)

  abbrev pub deeds : Relink → List Deed
  deeds s = wholes s.front ++ links s

  -- what stays with each of these deeds
  links-each : (P : List Deed → Type 0) (s : Relink)
      → ((ds : List Deed) → s.before ≢ 0 → P ds → P (point (address n s.before root-next) (head_or s.behind s.between) ∷ ds))
      → ((ds : List Deed) → s.behind ≢ 0 → P ds → P (point (address n s.behind root-prior) (last_or s.before s.between) ∷ ds)) → P (wholes s.back) → P (links s)
  links-each P s hp hq h =
      let rest = side_cases P s.behind root-prior (last_or s.before s.between) (wholes s.back) h (λ z. hq _ z h) in
      side_cases P s.before root-next (head_or s.behind s.between) (prior-side s ++ wholes s.back) rest (λ z. hp _ z rest)

  puts : (P : List Deed → Type 0) (Q : ℕ → Type 0) → ((x : ℕ) (ys : List ℕ) (ds : List Deed) → Q x → P ds → P (whole n x ys ∷ ds))
      → (ws : List Put) (ds : List Deed) → All Q (numbers ws) → P ds → P (wholes ws ++ ds)
  puts P Q put [] ds f h = h
  puts P Q put (w ∷ ws) ds f h = put w.0 w.1 (wholes ws ++ ds) f.0 (puts P Q put ws ds f.1 h)

  -- record r of set k is not put: what holds of no deeds and stays with each of these holds of them all
  module _ (s : Relink) (k r : ℕ) (f : k ≡ n → Fresh r (touched s)) where
    beside : (P : List Deed → Type 0) → P [] → ((x : ℕ) (ys : List ℕ) (ds : List Deed) → Elsewhere k r n x → P ds → P (whole n x ys ∷ ds))
        → ((ds : List Deed) → s.before ≢ 0 → P ds → P (point (address n s.before root-next) (head_or s.behind s.between) ∷ ds))
        → ((ds : List Deed) → s.behind ≢ 0 → P ds → P (point (address n s.behind root-prior) (last_or s.before s.between) ∷ ds)) → P (deeds s)
    beside P none put hp hq =
        let all = in_all (Elsewhere k r n) (touched s) (λ x m z. not-fresh r (touched s) (rw z.1 m) (f z.0)) in
        let back = rw append-nil at (puts P (Elsewhere k r n) put s.back [] (all_right (Elsewhere k r n) (numbers s.front) (numbers s.back) all) none) in
        puts P (Elsewhere k r n) put s.front (links s) (all_left (Elsewhere k r n) (numbers s.front) (numbers s.back) all) (links-each P s hp hq back)

    off : (k ≡ n → s.before ≢ 0 → r ≢ s.before) → (k ≡ n → s.behind ≢ 0 → r ≢ s.behind) → AllOff k r (deeds s)
    off dp dq = beside (AllOff k r) tt (λ x ys ds e h. (e, h)) (λ ds z h. (λ y. dp y.0 z y.1, h)) (λ ds z h. (λ y. dq y.0 z y.1, h))

  misses : (s : Relink) (a : ℕ) (f : Field) → Fresh a (touched s) → address n a f ≢ address n s.before root-next → address n a f ≢ address n s.behind root-prior
      → Misses (address n a f) (deeds s)
  misses s a f h dp dq = beside s n a (λ z. h) (Misses (address n a f)) tt (λ x ys ds e h. (e, h)) (λ ds z h. (dp, h)) (λ ds z h. (dq, h))

-- as stores
side-stores : (t : Schema) (z : Bool) (d : Deed) → stores_for t (cond z [] (d ∷ [])) ≡ cond z [] (store_of t d ∷ [])
side-stores t true d = refl
side-stores t false d = refl

pub links-stores : (t : Schema) (n : ℕ) (s : Relink)
    → stores_for t (links n s)
    ≡ root_prior_side (entry_of t n) s.before (head_or s.behind s.between) ++ (root_next_side (entry_of t n) s.behind (last_or s.before s.between) ++ stores_for t (wholes n s.back))
links-stores t n s = rw (stores_for_append, stores_for_append, side-stores t (eqb s.before 0), side-stores t (eqb s.behind 0)) refl

-- ---- what they leave

module _ {t : Schema} {b : List ℕ} {n : ℕ} (known : MastersKnown t b n) where
  pub relinked-within : (s : Relink) → AllValid t (wholes n s.front) × AllZeroed (wholes n s.front) → AllValid t (wholes n s.back) × AllZeroed (wholes n s.back)
      → Side b (entry_of t n) s.before → Side b (entry_of t n) s.behind → All (λ x. x ≤ (entry_of t n).records) s.between
      → Within t b n (touched s) (deeds n s)
  relinked-within s hf hb p q w =
      let u = all_head (λ x. x ≤ (entry_of t n).records) s.behind s.between (side-within b (entry_of t n) s.behind q) w in
      let v = all_last (λ x. x ≤ (entry_of t n).records) s.before s.between (side-within b (entry_of t n) s.before p) w in
      let most = many known in
      record {
        valid = valid_append t (wholes n s.front) (links n s) hf.0 (links-each n (AllValid t) s
            (λ ds z h. ((((counted known, (live p z).0, known.set), refl), omega arith), h)) (λ ds z h. ((((counted known, (live q z).0, known.set), refl), omega arith), h)) hb.0);
        zeroed = zeroed_append (wholes n s.front) (links n s) hf.1 (links-each n AllZeroed s (λ ds z h. (tt, h)) (λ ds z h. (tt, h)) hb.1);
        spared = λ a f. beside n s n a (λ z. f) (AllSpared n a) tt (λ x ys ds e h. (e, h)) (λ ds z h. (tt, h)) (λ ds z h. (tt, h));
        misses = λ a f k h. misses n s a f h (other_kind n n a s.before f root-next k.0) (other_kind n n a s.behind f root-prior k.1);
        off = λ k r f. off n s k r (λ z. (f z).0) (λ z d e. never_both _ (live p d).1 (rw e at (f z).1)) (λ z d e. never_both _ (live q d).1 (rw e at (f z).1));
      }
    where
      live : {x : ℕ} → Side b (entry_of t n) x → x ≢ 0 → Live b (entry_of t n) x
      live k d = ⊎_elim (λ z. absurd (d z)) (λ l. l) k

  -- a record that is put and not reached again
  put_whole : (ds us : List Deed) (x : ℕ) (ys : List ℕ) (vs : List Deed) → ds ≡ us ++ whole n x ys ∷ vs → AllValid t ds → AllOff n x vs
      → record_of (after t b ds) (entry_of t n) x ≡ ys
  put_whole ds us x ys vs e valid o = rw e (record_whole known.ok b known.sized us n x ys vs (rw e at valid) o)

  pub put_front : (us : List Deed) (x : ℕ) (ys : List ℕ) (s : Relink) → AllValid t (us ++ whole n x ys ∷ deeds n s) → Fresh x (touched s)
      → x ≢ s.before → x ≢ s.behind → record_of (after t b (us ++ whole n x ys ∷ deeds n s)) (entry_of t n) x ≡ ys
  put_front us x ys s valid f p q = put_whole (us ++ whole n x ys ∷ deeds n s) us x ys (deeds n s) refl valid (off n s n x (λ z. f) (λ z d. p) (λ z d. q))

  module _ (s : Relink) (w : Within t b n (touched s) (deeds n s)) where
    pub put_back : (r : ℕ) (ys : List ℕ) → s.back ≡ (r, ys) ∷ [] → record_of (after t b (deeds n s)) (entry_of t n) r ≡ ys
    put_back r ys e =
        put_whole (deeds n s) (wholes n s.front ++ (next_side_lem n s ++ prior-side n s)) r ys []
        (ap (λ ws. wholes n s.front ++ (next_side_lem n s ++ (prior-side n s ++ wholes n ws))) e ∙ sym (simp append_assoc)) w.valid tt

    -- a pointer that is set and not set again
    sided : (us : List Deed) (p : ℕ) (f : Field) (v : ℕ) (vs : List Deed) → deeds n s ≡ us ++ (side n p f v ++ vs) → 1 ≤ p → Misses (address n p f) vs
        → get_word t (after t b (deeds n s)) (address n p f) ≡ v
    sided us p f v vs e d x =
        let z : eqb p 0 ≡ false = ne_eqb p 0 (λ q. omega arith) in
        let q : deeds n s ≡ us ++ point (address n p f) v ∷ vs = rw z at e in
        rw q (word_pointed known.ok b known.sized us (address n p f) v vs (rw q at w.valid) x)

    pub relinked : Fresh s.before (numbers s.back) → Fresh s.behind (numbers s.back)
        → Spliced b (after t b (deeds n s)) (entry_of t n) (touched s) s.before s.behind s.between
    relinked fp fq =
        let l = counted known in
        record {
          live-else = kept-live known w;
          key-else = λ a i f. (kept_carried known w a i f).key;
          next_else = λ a i f d. word_missed known.ok b known.sized (deeds n s) (address n a root-next) w.valid ((l, i, known.set), refl)
              (misses n s a root-next f (other_record n n a s.before root-next root-next d) (other_kind n n a s.behind root-next root-prior refl));
          prior-else = λ a i f d. word_missed known.ok b known.sized (deeds n s) (address n a root-prior) w.valid ((l, i, known.set), refl)
              (misses n s a root-prior f (other_kind n n a s.before root-prior root-next refl) (other_record n n a s.behind root-prior root-prior d));
          next = λ d.
              sided (wholes n s.front) s.before root-next (head_or s.behind s.between) (prior-side n s ++ wholes n s.back) refl d
              (side_cases n (Misses (address n s.before root-next)) s.behind root-prior _ (wholes n s.back) (missed s.before root-next fp)
              (λ z. (other_kind n n s.before s.behind root-next root-prior refl, missed s.before root-next fp)));
          prior = λ d.
              sided (wholes n s.front ++ next_side_lem n s) s.behind root-prior (last_or s.before s.between) (wholes n s.back)
              (sym (append_assoc (wholes n s.front) (next_side_lem n s) (prior-side n s ++ wholes n s.back))) d (missed s.behind root-prior fq);
        }
      where
        missed : (p : ℕ) (f : Field) → Fresh p (numbers s.back) → Misses (address n p f) (wholes n s.back)
        missed p f h = rw append-nil at (puts n (Misses (address n p f)) (λ x. p ≢ x) (λ x ys ds d h. (λ z. d z.1, h)) s.back [] h tt)
