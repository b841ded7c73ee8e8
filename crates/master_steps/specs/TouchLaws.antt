-- A change of a set of masters that touches few records and the middle of one home's list. Every other home keeps its list, since no list
-- meets another one and free records are on none; the touched home has the new list. Keys stay distinct if each live record is a new one or
-- has its key from one record of before. Together: the set is sound after the change.
use Rattle.std.specs.Prelude.{ℕ, ◌≤◌, ◌≡◌, ◌≢◌, ◌⊎◌, true, false, List, [], ◌∷◌, ◌++◌}
use Rattle.std.proofs.Common.{sym, ap, ◌∙◌, inl, inr, ⊎_elim, arith}
use Rattle.octets.specs.Octets.{all_blank}
use Rattle.octets.specs.BelowLaws.{same?}
use Rattle.octets.specs.TestLaws.{never_both}
use Rattle.schema.specs.declared.Entry.{Entry}
use Rattle.schema.specs.Place.{InSet}
use Rattle.records.specs.Records.{is_live, root_next, root_prior, master_key}
use Rattle.chains.specs.Members.{All, In, Fresh, NoDup, all_in, in_all, all_map, all_left, all_right, all_append, in_left, in_right, in?, not-fresh}
use Rattle.chains.specs.Segments.{last_or, head_or}
use Rattle.sound.specs.Sound.{home_list}
use Rattle.sound.specs.Sets.{Live, MasterSet}
use Rattle.sound.proofs.HomeLaws.{OfHome}
use Rattle.master_steps.specs.LinkedLists.{in_other, middle-apart, not_last, not_first, Chained, chained-change}
use Rattle.master_steps.specs.RowLaws.{HomeRow, HomeRows, no_zeros, home-nodup, rows-sound, rows_of, still-home, kept_row}

-- ---- what a call does to a set of masters, field by field: b before, c after

-- the record r of c is live, with this key and these ROOT pointers
pub record Stands (c : List ℕ) (e : Entry) (r : ℕ) (k : List ℕ) (n p : ℕ) : Type 0 where
  pub live : is_live c e r ≡ true
  pub key : master_key c e r ≡ k
  pub next : root_next c e r ≡ n
  pub prior : root_prior c e r ≡ p

-- between the records l and n, each of them 0 for none, come the records ms; all else is as it was but in the records ts
pub record Spliced (b c : List ℕ) (e : Entry) (ts : List ℕ) (l n : ℕ) (ms : List ℕ) : Type 0 where
  pub live-else : (a : ℕ) → InSet e a → Fresh a ts → is_live c e a ≡ is_live b e a
  pub key-else : (a : ℕ) → InSet e a → Fresh a ts → master_key c e a ≡ master_key b e a
  pub next_else : (a : ℕ) → InSet e a → Fresh a ts → a ≢ l → root_next c e a ≡ root_next b e a
  pub prior-else : (a : ℕ) → InSet e a → Fresh a ts → a ≢ n → root_prior c e a ≡ root_prior b e a
  pub next : 1 ≤ l → root_next c e l ≡ head_or n ms
  pub prior : 1 ≤ n → root_prior c e n ≡ last_or l ms

-- ---- keys

-- where the key of the record r of c comes from: r is the new master, and none of b has its key; or one master o of b had it, and r is where
-- o went to
abbrev pub Origin : List ℕ → List ℕ → Entry → ℕ → (ℕ → ℕ) → ℕ → Type 0
Origin b c e new to r =
    ((r ≡ new) × (all_blank (master_key c e r) ≡ false) × ((m : ℕ) → Live b e m → master_key b e m ≢ master_key c e r))
    ⊎ ((o : ℕ) × Live b e o × (master_key c e r ≡ master_key b e o) × (r ≡ to o))

module _ (b c : List ℕ) (e : Entry) (ms : MasterSet b e) (new : ℕ) (to : ℕ → ℕ) where
  origin-no_blank : (r : ℕ) → Origin b c e new to r → all_blank (master_key c e r) ≡ false
  origin-no_blank r (inl n) = n.1
  origin-no_blank r (inr o) = rw o.2 (ms.no_blank o.0 o.1)

  origin-one : (q r : ℕ) → Origin b c e new to q → Origin b c e new to r → master_key c e q ≡ master_key c e r → q ≡ r
  origin-one q r (inl u) (inl v) k = u.0 ∙ sym v.0
  origin-one q r (inl u) (inr v) k = absurd (u.2 v.0 v.1 (sym v.2 ∙ sym k))
  origin-one q r (inr u) (inl v) k = absurd (v.2 u.0 u.1 (sym u.2 ∙ k))
  origin-one q r (inr u) (inr v) k = u.3 ∙ ap to (ms.one u.0 v.0 u.1 v.1 (sym u.2 ∙ k ∙ v.2)) ∙ sym v.3

-- ---- the change

-- Between l and n the list of the home g has the middle mid, which becomes mid'; each of the touched records ts is of the middle or free before,
-- and of the new middle if it is g's after.
pub record HomeChanged (b c : List ℕ) (e : Entry) (ts : List ℕ) (l n g : ℕ) (us mid mid' vs : List ℕ) : Type 0 where
  pub kept : Spliced b c e ts l n mid'
  -- the list before
  pub home : InSet e g
  pub list : home_list b e g ≡ us ++ (mid ++ vs)
  pub before : l ≡ last_or 0 us
  pub behind : n ≡ head_or 0 vs
  pub old : All (λ t. In t ts) mid
  pub each : All (λ t. In t mid ⊎ (is_live b e t ≡ false)) ts
  -- the list after
  pub middle : Chained (root_next c e) (root_prior c e) l mid' n
  pub begins : l ≡ 0 → (mid' ++ vs ≡ []) ⊎ (head_or 0 (mid' ++ vs) ≡ g)
  pub new : All (OfHome c e g) mid'
  pub full : All (λ t. OfHome c e g t → In t mid') ts

abbrev SomeRow : List ℕ → Entry → ℕ → Type 0
SomeRow c e h = (rs : List ℕ) × (InSet e h → HomeRow c e h rs)

module _ (b c : List ℕ) (e : Entry) (some : 1 ≤ e.records) (ms : MasterSet b e) (ts : List ℕ) (l n g : ℕ) (us mid mid' vs : List ℕ)
    (w : HomeChanged b c e ts l n g us mid mid' vs) where
  abbrev homes : ℕ → List ℕ
  homes = home_list b e

  abbrev rows : HomeRows b e homes
  rows = rows_of b e some ms

  abbrev row : HomeRow b e g (homes g)
  row = rows.row g w.home

  -- a record that is not touched stays its home's
  stays : (x a : ℕ) → Fresh a ts → OfHome b e x a → OfHome c e x a
  stays x a f o = still-home b c e x a (w.kept.live-else a o.0.0 f) (w.kept.key-else a o.0.0 f) o

  stayed : (x a : ℕ) → Fresh a ts → OfHome c e x a → OfHome b e x a
  stayed x a f o = still-home c b e x a (sym (w.kept.live-else a o.0.0 f)) (sym (w.kept.key-else a o.0.0 f)) o

  -- a home has the touched records that are its own now, and of the others those that it had
  pub still_full : (x : ℕ) → InSet e x → (rs : List ℕ) → All (λ r. OfHome c e x r → In r rs) ts → ((r : ℕ) → Fresh r ts → In r (home_list b e x) → In r rs)
      → (r : ℕ) → OfHome c e x r → In r rs
  still_full x ix rs h k r o =
      ⊎_elim (λ m. all_in (λ r. OfHome c e x r → In r rs) r ts h m o) (λ f. k r f ((rows.row x ix).full r (stayed x r f o))) (in? r ts)

  -- what was in the list
  kept : (a : ℕ) → In a (us ++ vs) → In a (homes g)
  kept a m = rw w.list (in_other a us [] mid vs (λ k. k) m)

  -- a master that was not in the middle is not touched
  untouched : (a : ℕ) → Live b e a → (In a mid → ⊥) → Fresh a ts
  untouched a l d =
      all_map (λ t. In t mid ⊎ (is_live b e t ≡ false)) (λ t. a ≢ t) (λ t s q. ⊎_elim (λ j. d (rw q j)) (λ free. never_both _ l.1 (rw q free)) s) ts w.each

  -- another home keeps its list
  same_row : (x : ℕ) → x ≢ g → All (λ r. OfHome c e x r → ⊥) ts → InSet e x → HomeRow c e x (homes x)
  same_row x ne none ix =
      kept_row b c e x (homes x) (rows.row x ix)
      (λ a m o.
      let f = untouched a o.0 (λ k. apart a m (rw w.list (in_right a us (mid ++ vs) (in_left a mid vs k)))) in (
        stays x a f o,
        w.kept.next_else a o.0.0 f (rw w.before (not_last a us o.0.0.0 (λ k. apart a m (kept a (in_left a us vs k))))),
        w.kept.prior-else a o.0.0 f (rw w.behind (not_first a vs o.0.0.0 (λ k. apart a m (kept a (in_right a us vs k))))),
      ))
      (still_full x ix (homes x) (all_map (λ r. OfHome c e x r → ⊥) (λ r. OfHome c e x r → In r (homes x)) (λ r k o. absurd (k o)) ts none) (λ r f m. m))
    where
      apart : (a : ℕ) → In a (homes x) → In a (homes g) → ⊥
      apart a m k = ne (sym (all_in (OfHome b e x) a (homes x) (rows.row x ix).only m).1 ∙ (all_in (OfHome b e g) a (homes g) row.only k).1)

  -- the home g has the new list
  new_row : HomeRow c e g (us ++ (mid' ++ vs))
  new_row = record {
    chain = chained-change (root_next b e) (root_prior b e) (root_next c e) (root_prior c e) us mid mid' vs (rw w.list at (no_zeros b e g (homes g) row))
        (all_map (OfHome c e g) (λ r. 1 ≤ r) (λ r o. o.0.0.0) mid' w.new)
        (λ a m q. w.kept.next_else a (member a m).0.0 (fresh a m) (rw w.before q)) (λ a m q. w.kept.prior-else a (member a m).0.0 (fresh a m) (rw w.behind q))
        (rw (w.before, w.behind) at w.middle) (rw (w.before, w.behind) at w.kept.next) (rw (w.before, w.behind) at w.kept.prior) (rw w.list at row.chain);
    begins = starts us w.before (rw w.list at row.begins);
    only = all_append (OfHome c e g) us (mid' ++ vs) (all_left (OfHome c e g) us vs round)
        (all_append (OfHome c e g) mid' vs w.new (all_right (OfHome c e g) us vs round));
    full = still_full g w.home (us ++ (mid' ++ vs))
        (all_map (λ t. OfHome c e g t → In t mid') (λ t. OfHome c e g t → In t (us ++ (mid' ++ vs))) (λ t k o. in_right t us (mid' ++ vs) (in_left t mid' vs (k o))) ts w.full)
        (λ r f m. in_other r us mid mid' vs (λ k. not-fresh r ts (all_in (λ t. In t ts) r mid w.old k) f) (rw w.list at m));
  }
    where
      nodup : NoDup (us ++ (mid ++ vs))
      nodup = rw w.list at (home-nodup b e g (homes g) row)

      member : (a : ℕ) → In a (us ++ vs) → OfHome b e g a
      member a m = all_in (OfHome b e g) a (homes g) row.only (kept a m)

      fresh : (a : ℕ) → In a (us ++ vs) → Fresh a ts
      fresh a m = untouched a (member a m).0 (middle-apart a us mid vs nodup m)

      round : All (OfHome c e g) (us ++ vs)
      round = in_all (OfHome c e g) (us ++ vs) (λ a m. stays g a (fresh a m) (member a m))

      starts : (ws : List ℕ) → l ≡ last_or 0 ws → (ws ++ (mid ++ vs) ≡ []) ⊎ (head_or 0 (ws ++ (mid ++ vs)) ≡ g)
          → (ws ++ (mid' ++ vs) ≡ []) ⊎ (head_or 0 (ws ++ (mid' ++ vs)) ≡ g)
      starts [] h s = w.begins h
      starts (x ∷ ws) h (inl q) = absurd (let z : ◌≡◌ {A = ℕ} 0 1 = cc in omega arith)
      starts (x ∷ ws) h (inr q) = inr q

  -- with the origins of the touched records the set is sound, if each other home has a new list too or none of these records
  pub changed_sound : (new : ℕ) (to : ℕ → ℕ) → ((r : ℕ) → Fresh r ts → r ≡ to r) → All (λ r. Live c e r → Origin b c e new to r) ts
      → ((x : ℕ) → x ≢ g → SomeRow c e x ⊎ All (λ r. OfHome c e x r → ⊥) ts) → MasterSet c e
  changed_sound new to still origins others = rows-sound c e (λ h. (at h).0) some (record {
    no_blank = λ r l. origin-no_blank b c e ms new to r (origin r l);
    one = λ q r lq lr k. origin-one b c e ms new to q r (origin q lq) (origin r lr) k;
    row = λ h i. (at h).1 i;
  })
    where
      origin : (r : ℕ) → Live c e r → Origin b c e new to r
      origin r l =
          ⊎_elim (λ m. all_in (λ r. Live c e r → Origin b c e new to r) r ts origins m l)
          (λ f. inr (r, (l.0, sym (w.kept.live-else r l.0 f) ∙ l.1), w.kept.key-else r l.0 f, still r f)) (in? r ts)

      at : (h : ℕ) → SomeRow c e h
      at h = ⊎_elim (λ q. (us ++ (mid' ++ vs), λ i. rw q new_row)) (λ q. ⊎_elim (λ r. r) (λ none. (homes h, same_row h q none)) (others h q)) (same? h g)
