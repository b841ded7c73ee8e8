-- What ADD-M and DEL-M do to the home lists keeps a set of masters sound: a new master behind its home's last, or alone at its home; a stranger
-- that makes room for one; a synonym that moves into its home; a master that is unlinked. Each is a change of the middle of one home's list; a
-- stranger leaves an empty list, which becomes the new master's. Document 01, "Where masters live".
use Rattle.std.specs.Prelude.{ℕ, ◌≤◌, ◌≡◌, refl, ◌≢◌, false, cond, List, [], ◌∷◌, eqb}
use Rattle.std.proofs.Common.{sym, ap, ◌∙◌, inl, inr, ⊎_elim, append-nil, eq-eqb, ne_eqb}
use Rattle.octets.specs.Octets.{all_blank}
use Rattle.octets.specs.BelowLaws.{same?}
use Rattle.octets.specs.TestLaws.{never_both}
use Rattle.schema.specs.declared.Entry.{Entry}
use Rattle.schema.specs.Place.{InSet}
use Rattle.records.specs.Records.{is_live, root_next, root_prior, master_key}
use Rattle.masters.specs.Find.{home_in, own_home, held_by_own}
use Rattle.terms.specs.Laws.{home_in_set}
use Rattle.chains.specs.Members.{all_in, all_right}
use Rattle.chains.specs.Segments.{last_or}
use Rattle.sound.specs.Sound.{home_list}
use Rattle.sound.specs.Sets.{Live, MasterSet}
use Rattle.sound.proofs.HomeLaws.{OfHome}
use Rattle.master_steps.specs.LinkedLists.{none_first}
use Rattle.master_steps.specs.RowLaws.{HomeRow, HomePlace, own-holds, none_list, no_zeros, rows_of, own_row, place_in_list}
use Rattle.master_steps.specs.Neighbours.{stranger, Second, first_home, second}
use Rattle.master_steps.specs.TouchLaws.{Stands, Spliced, Origin, HomeChanged, still_full, changed_sound}

module _ (b c : List ℕ) (e : Entry) (some : 1 ≤ e.records) (ms : MasterSet b e) where
  -- the home of a record that stands with a key is the key's
  home_of : (r x n p : ℕ) (k : List ℕ) → Stands c e r k n p → OfHome c e x r → x ≡ home_in e k
  home_of r x n p k s o = sym o.1 ∙ ap (home_in e) s.key

  -- ---- a new master, with a key that none has

  module _ (key : List ℕ) (blank : all_blank key ≡ false) (none : (m : ℕ) → Live b e m → master_key b e m ≢ key) where
    new-origin : (r n p : ℕ) (to : ℕ → ℕ) → Stands c e r key n p → Origin b c e r to r
    new-origin r n p to s = inl (refl, rw s.key blank, λ m l. rw s.key (none m l))

    -- in the free record x, behind the last of its home's list
    pub add-sound : (x l : ℕ) → InSet e x → is_live b e x ≡ false → l ≡ last_or 0 (home_list b e (home_in e key)) → (l ≡ 0 → x ≡ home_in e key)
        → Stands c e x key 0 l → Spliced b c e (x ∷ []) l 0 (x ∷ []) → MasterSet c e
    add-sound x l ix free el first new k =
        changed_sound b c e some ms (x ∷ []) l 0 (home_in e key) (home_list b e (home_in e key)) [] (x ∷ []) [] change x (λ o. o) (λ r f. refl)
        (λ o. new-origin x 0 l (λ o. o) new, tt) (λ y ne. inr (λ o. ne (home_of x y 0 l key new o), tt))
      where
        change : HomeChanged b c e (x ∷ []) l 0 (home_in e key) (home_list b e (home_in e key)) [] (x ∷ []) []
        change = record {
          kept = k;
          home = home_in_set e.records key some;
          list = rw append-nil refl;
          before = el;
          behind = refl;
          old = tt;
          each = (inr free, tt);
          middle = (new.prior, new.next, tt);
          begins = λ z. inr (first z);
          new = (((ix, new.live), ap (home_in e) new.key), tt);
          full = (λ o. inl refl, tt);
        }

    -- in its home h, from which a stranger moves to the free record x and stays in its own home's list
    pub displaced : (h x : ℕ) → h ≡ home_in e key → Live b e h → held_by_own b e h ≡ false → InSet e x → is_live b e x ≡ false
        → Stands c e h key 0 0 → Stands c e x (master_key b e h) (root_next b e h) (root_prior b e h)
        → Spliced b c e (x ∷ h ∷ []) (root_prior b e h) (root_next b e h) (x ∷ []) → MasterSet c e
    displaced h x hk live away ix free new moved k =
        changed_sound b c e some ms (x ∷ h ∷ []) (root_prior b e h) (root_next b e h) (own_home b e h) at.0 (h ∷ []) (x ∷ []) at.1 change h to
        (λ r f. rw (ne_eqb r h f.1.0) refl) (λ o. inr (h, live, moved.key, rw (eq-eqb h h refl) refl), (λ o. new-origin h 0 0 to new, tt))
        (λ y ne. ⊎_elim (λ q. inl (h ∷ [], λ i. rw q lone)) (λ d. inr (λ o. ne (its y o), (λ o. d (mine y o), tt))) (same? y h))
      where
        to : ℕ → ℕ
        to o = cond (eqb o h) x o

        at : HomePlace b e (home_list b e (own_home b e h)) h
        at = place_in_list b e some ms h live

        strange : h ≢ own_home b e h
        strange = stranger b e h live.1 away

        mine : (y : ℕ) → OfHome c e y h → y ≡ h
        mine y o = home_of h y 0 0 key new o ∙ sym hk

        its : (y : ℕ) → OfHome c e y x → y ≡ own_home b e h
        its y o = home_of x y (root_next b e h) (root_prior b e h) (master_key b e h) moved o

        change : HomeChanged b c e (x ∷ h ∷ []) (root_prior b e h) (root_next b e h) (own_home b e h) at.0 (h ∷ []) (x ∷ []) at.1
        change = record {
          kept = k;
          home = home_in_set e.records (master_key b e h) some;
          list = at.2;
          before = at.3;
          behind = at.4;
          old = (inr (inl refl), tt);
          each = (inr free, (inl (inl refl), tt));
          middle = (moved.prior, moved.next, tt);
          begins = λ z. absurd (strange (first_home b e some ms h live z));
          new = (((ix, moved.live), ap (home_in e) moved.key), tt);
          full = (λ o. inl refl, (λ o. absurd (strange (sym (mine (own_home b e h) o))), tt));
        }

        -- the new master's home had none: it has only that one
        lone : HomeRow c e h (h ∷ [])
        lone = record {
          chain = (new.prior, new.next, tt);
          begins = inr refl;
          only = (((live.0, new.live), ap (home_in e) new.key ∙ sym hk), tt);
          full = still_full b c e some ms (x ∷ h ∷ []) (root_prior b e h) (root_next b e h) (own_home b e h) at.0 (h ∷ []) (x ∷ []) at.1 change h live.0 (h ∷ [])
              (λ o. absurd (strange (its h o)), (λ o. inl refl, tt))
              (λ r f m. absurd (rw (none_list b e h (home_list b e h) ((rows_of b e some ms).row h live.0) away) at m));
        }

  -- ---- a master is deleted

  -- at its home h: its first synonym moves there
  pub promoted : (h : ℕ) → Live b e h → own_home b e h ≡ h → root_next b e h ≢ 0
      → Stands c e h (master_key b e (root_next b e h)) (root_next b e (root_next b e h)) 0 → is_live c e (root_next b e h) ≡ false
      → Spliced b c e (h ∷ root_next b e h ∷ []) 0 (root_next b e (root_next b e h)) (h ∷ []) → MasterSet c e
  promoted h live own more moved gone k =
      changed_sound b c e some ms (h ∷ root_next b e h ∷ []) 0 (root_next b e (root_next b e h)) h [] (h ∷ root_next b e h ∷ []) (h ∷ []) at.0 change 0 to
      (λ r f. rw (ne_eqb r (root_next b e h) f.1.0) refl)
      (λ o. inr (root_next b e h, s.0, moved.key, rw (eq-eqb (root_next b e h) (root_next b e h) refl) refl), (λ l. absurd (dead l), tt))
      (λ x ne. inr (λ o. ne (home_of h x (root_next b e (root_next b e h)) 0 (master_key b e (root_next b e h)) moved o ∙ s.1), (λ o. dead o.0, tt)))
    where
      to : ℕ → ℕ
      to o = cond (eqb o (root_next b e h)) h o

      at : Second b e h
      at = second b e some ms h live.0 (own-holds b e h live.1 own) more

      s : OfHome b e h (root_next b e h)
      s = all_in (OfHome b e h) (root_next b e h) (home_list b e h) ((rows_of b e some ms).row h live.0).only (rw at.1 (inr (inl refl)))

      dead : Live c e (root_next b e h) → ⊥
      dead l = never_both _ l.1 gone

      change : HomeChanged b c e (h ∷ root_next b e h ∷ []) 0 (root_next b e (root_next b e h)) h [] (h ∷ root_next b e h ∷ []) (h ∷ []) at.0
      change = record {
        kept = k;
        home = live.0;
        list = at.1;
        before = refl;
        behind = at.2;
        old = (inl refl, (inr (inl refl), tt));
        each = (inl (inl refl), (inl (inr (inl refl)), tt));
        middle = (moved.prior, moved.next, tt);
        begins = λ z. inr refl;
        new = (((live.0, moved.live), ap (home_in e) moved.key ∙ s.1), tt);
        full = (λ o. inl refl, (λ o. absurd (dead o.0), tt));
      }

  -- elsewhere, or with no synonym: its neighbours become each other's
  pub unlinked : (r : ℕ) → Live b e r → (r ≡ own_home b e r → root_next b e r ≡ 0) → is_live c e r ≡ false
      → Spliced b c e (r ∷ []) (root_prior b e r) (root_next b e r) [] → MasterSet c e
  unlinked r live alone gone k =
      changed_sound b c e some ms (r ∷ []) (root_prior b e r) (root_next b e r) (own_home b e r) at.0 (r ∷ []) [] at.1 change 0 (λ o. o) (λ r f. refl)
      (λ l. absurd (dead l), tt) (λ x ne. inr (λ o. dead o.0, tt))
    where
      at : HomePlace b e (home_list b e (own_home b e r)) r
      at = place_in_list b e some ms r live

      dead : Live c e r → ⊥
      dead l = never_both _ l.1 gone

      change : HomeChanged b c e (r ∷ []) (root_prior b e r) (root_next b e r) (own_home b e r) at.0 (r ∷ []) [] at.1
      change = record {
        kept = k;
        home = home_in_set e.records (master_key b e r) some;
        list = at.2;
        before = at.3;
        behind = at.4;
        old = (inl refl, tt);
        each = (inl (inl refl), tt);
        middle = tt;
        -- no record stands behind one at its home
        begins = λ z.
            let zeros = rw at.2 at (no_zeros b e (own_home b e r) (home_list b e (own_home b e r)) (own_row b e some ms r)) in
            inl (none_first at.1 (all_right (λ x. 1 ≤ x) at.0 (r ∷ at.1) zeros).1 (sym at.4 ∙ alone (first_home b e some ms r live z)));
        new = tt;
        full = (λ o. absurd (dead o.0), tt);
      }
