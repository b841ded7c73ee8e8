-- Masters that are in place are a sound set. Each is found by its own key, so it is on its home's chain and no other record has its key; from
-- the home on, each record is answered by the next, so the walk meets no record twice and comes to 0: it is the home's chain. And back:
-- on a chain of sound masters the search for a key goes on to the one record that has it.
use Rattle.std.specs.Prelude.{ℕ, ◌≤◌, ◌⊎◌, Bool, cond, ◌&&◌, ◌||◌, List, [], ◌∷◌}
use Rattle.std.proofs.Math.Path.{◌≡◌, refl}
use Rattle.std.proofs.Common.{sym, ap, ◌∙◌, arith}
use Rattle.std.proofs.Math.Logic.{inl, inr, ⊎_elim}
use Rattle.std.proofs.Math.Bool.{true, false, not, and-eq-true_iff}
use Rattle.std.proofs.Math.Dec.{eqb}
use borrow.Author.Tests.{eqb-true, eq-eqb, not-true}
use Rattle.octets.specs.Octets.{all_blank}
use Rattle.octets.specs.RunLaws.{tests_eq}
use Rattle.terms.specs.Laws.{home_in_set}
use Rattle.schema.specs.declared.Entry.{Entry}
use Rattle.schema.specs.Place.{InSet, in_set}
use Rattle.records.specs.Records.{is_live, root_next, root_prior, master_key}
use Rattle.masters.specs.declared.Found.TheVariants.{Missing}
use Rattle.masters.specs.Find.{home_in, own_home, held_by_own, seek, find, record_found}
use Rattle.masters.proofs.FindLaws.{in_set_true}
use Rattle.chains.specs.Members.{All, In, all_map, all_in, pigeonhole}
use Rattle.chains.specs.Segments.{walk_runs_out}
use Rattle.sound.specs.Sound.{follow, home_list, master_set_sound}
use Rattle.sound.specs.Linear.{found_at, is_of_home, next_answers, prior_ends, master_in_place, masters_in_place}
use Rattle.sound.proofs.SoundLaws.{each_record-at, Linked, follow-length}
use Rattle.sound.proofs.ListLaws.{where_holds, holds_where, in_set_test, each_record-all, run_linked, linked-nodup, linked-next, follow-linked}
use Rattle.octets.specs.TestLaws.{either, either_left, either-right}
use Rattle.sound.specs.Sets.{Live, MasterSet}
use Rattle.sound.proofs.KeyLaws.{master_set_says, master_set_holds}
use Rattle.sound.proofs.HomeLaws.{FoundAt, found_at_says, found_at-holds, seek-follow, seek-linked, OfHome, HomeChain, home_sound_says, home_sound-holds}

-- ---- one master in its place

pub record FoundInPlace (b : List ℕ) (e : Entry) (r : ℕ) : Type 0 where
  pub no_blank : all_blank (master_key b e r) ≡ false
  pub found : FoundAt (find b e (master_key b e r)) r
  pub next : (root_next b e r ≡ 0) ⊎ (OfHome b e (own_home b e r) (root_next b e r) × (root_prior b e (root_next b e r) ≡ r))
  pub prior : r ≡ own_home b e r → root_prior b e r ≡ 0

module _ (b : List ℕ) (e : Entry) (r : ℕ) where
  abbrev n : ℕ
  n = root_next b e r

  abbrev h : ℕ
  h = own_home b e r

  next_says : next_answers b e r ≡ true → (n ≡ 0) ⊎ (OfHome b e h n × (root_prior b e n ≡ r))
  unfolding next_answers
  next_says t = ⊎_elim (λ z. inl (eqb-true n 0 z)) (λ o. inr (by o)) (either (eqb n 0) (is_of_home b e h n && eqb (root_prior b e n) r) t)
    where
      by : (is_of_home b e h n && eqb (root_prior b e n) r) ≡ true → OfHome b e h n × (root_prior b e n ≡ r)
      by o =
          let a = (and-eq-true_iff (is_of_home b e h n) (eqb (root_prior b e n) r)).0 o in
          let c = (and-eq-true_iff (in_set e n && is_live b e n) (eqb (own_home b e n) h)).0 a.0 in
          let d = (and-eq-true_iff (in_set e n) (is_live b e n)).0 c.0 in
          (((in_set_true e n d.0, d.1), eqb-true _ _ c.1), eqb-true _ _ a.1)

  next_holds : (n ≡ 0) ⊎ (OfHome b e h n × (root_prior b e n ≡ r)) → next_answers b e r ≡ true
  unfolding next_answers
  next_holds (inl z) = either_left (eqb n 0) (is_of_home b e h n && eqb (root_prior b e n) r) (eq-eqb n 0 z)
  next_holds (inr o) =
      either-right (eqb n 0) (is_of_home b e h n && eqb (root_prior b e n) r)
      (rw (in_set_test e n o.0.0.0, o.0.0.1, eq-eqb (own_home b e n) h o.0.1) (eq-eqb _ _ o.1))

  placed_says : master_in_place b e r ≡ true → FoundInPlace b e r
  unfolding master_in_place prior_ends
  placed_says t =
      let blank = not (all_blank (master_key b e r)) in
      let found = found_at (find b e (master_key b e r)) r in
      let a = (and-eq-true_iff (blank && found && next_answers b e r) (prior_ends b e r)).0 t in
      let c = (and-eq-true_iff (blank && found) (next_answers b e r)).0 a.0 in
      let d = (and-eq-true_iff blank found).0 c.0 in
      record {
        no_blank = not-true _ d.0;
        found = found_at_says (find b e (master_key b e r)) r d.1;
        next = next_says c.1;
        prior = λ q. eqb-true _ _ (where_holds (eqb r h) (eqb (root_prior b e r) 0) a.1 (eq-eqb _ _ q));
      }

  placed_holds : FoundInPlace b e r → master_in_place b e r ≡ true
  unfolding master_in_place prior_ends
  placed_holds s =
      rw (s.no_blank, found_at-holds (find b e (master_key b e r)) r s.found, next_holds s.next)
      (holds_where (eqb r h) (eqb (root_prior b e r) 0) (λ q. eq-eqb _ _ (s.prior (eqb-true _ _ q))))

-- ---- the home's list, and what is found at the home

module _ (b : List ℕ) (e : Entry) (h : ℕ) where
  held-list : held_by_own b e h ≡ true → home_list b e h ≡ follow e.records e (root_next b e) h
  unfolding home_list
  held-list t = rw t refl

  none_list : held_by_own b e h ≡ false → home_list b e h ≡ []
  unfolding home_list
  none_list t = rw t refl

  -- a key that is found is found from its home, which its own hold
  found-held : (key : List ℕ) (r : ℕ) → home_in e key ≡ h → FoundAt (find b e key) r
      → (held_by_own b e h ≡ true) × FoundAt (seek e.records b e key h) r
  unfolding find
  found-held key r q f = by (held_by_own b e h) refl (rw q at f)
    where
      by : (t : Bool) → held_by_own b e h ≡ t → FoundAt (cond t (seek e.records b e key h) Missing) r → (held_by_own b e h ≡ true) × FoundAt (seek e.records b e key h) r
      by true t f = (t, f)
      by false t f = absurd (let z : ◌≡◌ {A = ℕ} 0 1 = cc in omega arith)

  held_found : (key : List ℕ) (r : ℕ) → home_in e key ≡ h → held_by_own b e h ≡ true → FoundAt (seek e.records b e key h) r → FoundAt (find b e key) r
  unfolding find
  held_found key r q t f = rw (q, t) f

-- ---- in place, so sound

module _ (b : List ℕ) (e : Entry) (some : 1 ≤ e.records) (placed : (r : ℕ) → Live b e r → FoundInPlace b e r) where
  placed_full : (h r : ℕ) → OfHome b e h r → In r (home_list b e h)
  placed_full h r o =
      let f = found-held b e h (master_key b e r) r o.1 (placed r o.0).found in
      rw (held-list b e h f.0) (seek-follow b e e.records (master_key b e r) h r f.1)

  -- from a home that one of its own masters holds, the walk comes to 0
  home-walk : (h : ℕ) → held_by_own b e h ≡ true
      → (rs : List ℕ) × Linked (root_next b e) (root_prior b e) 0 h rs × All (OfHome b e h) rs
  home-walk h t =
      let a = (and-eq-true_iff (is_live b e h) (eqb (own_home b e h) h)).0 t in
      let q : own_home b e h ≡ h = eqb-true _ _ a.1 in
      let i : InSet e h = rw q at (home_in_set e.records (master_key b e h) some) in
      let o : OfHome b e h h = ((i, a.0), q) in
      let z : root_prior b e h ≡ 0 = (placed h (i, a.0)).prior (sym q) in
      let w = walk_runs_out (root_next b e) (root_prior b e) (OfHome b e h) e.records (λ r o. o.0.0) (λ r o. rw o.1 at (placed r o.0).next) h o z in
      (h ∷ w.0, (refl, z, run_linked (root_next b e) (root_prior b e) h w.0 w.1 w.2), (o, w.3))

  held-chain : (h : ℕ) → held_by_own b e h ≡ true → (rs : List ℕ) → Linked (root_next b e) (root_prior b e) 0 h rs → All (OfHome b e h) rs → HomeChain b e h
  held-chain h t rs l o =
      let d = linked-nodup (root_next b e) (root_prior b e) 0 h rs l (all_map (OfHome b e h) (λ r. 1 ≤ r) (λ r o. o.0.0.0) rs o) in
      let i = all_map (OfHome b e h) (InSet e) (λ r o. o.0.0) rs o in
      let q : home_list b e h ≡ rs = held-list b e h t ∙ follow-linked (root_next b e) (root_prior b e) e.records e 0 h rs l i (pigeonhole e.records rs d i) in
      record { linked = rw (t, q) l; only = rw q o; full = placed_full h }

  none-chain : (h : ℕ) → held_by_own b e h ≡ false → HomeChain b e h
  none-chain h t = record { linked = rw (t, none_list b e h t) refl; only = rw (none_list b e h t) tt; full = placed_full h }

  placed_sound : MasterSet b e
  placed_sound = record {
    no_blank = λ r l. (placed r l).no_blank;
    one = λ q r lq lr k. ap record_found (sym (placed q lq).found ∙ ap (find b e) k ∙ (placed r lr).found);
    homes = λ h i. home_sound-holds b e h (by h (held_by_own b e h) refl);
  }
    where
      by : (h : ℕ) (t : Bool) → held_by_own b e h ≡ t → HomeChain b e h
      by h true t = let w = home-walk h t in held-chain h t w.0 w.1 w.2
      by h false t = none-chain h t

-- ---- sound, so in place

-- of a sound set each live master is found by its key, and so on
module _ (b : List ℕ) (e : Entry) (some : 1 ≤ e.records) (ms : MasterSet b e) (r : ℕ) (l : Live b e r) where
  abbrev home : ℕ
  home = own_home b e r

  chain : HomeChain b e home
  chain = home_sound_says b e home (ms.homes home (home_in_set e.records (master_key b e r) some))

  on_chain : In r (home_list b e home)
  on_chain = chain.full r (l, refl)

  held : held_by_own b e home ≡ true
  held = by (held_by_own b e home) refl
    where
      by : (t : Bool) → held_by_own b e home ≡ t → held_by_own b e home ≡ true
      by true t = t
      by false t = absurd (rw (none_list b e home t) at on_chain)

  linked : Linked (root_next b e) (root_prior b e) 0 home (home_list b e home)
  linked = rw held at chain.linked

  -- the head of the chain has no prior
  first_prior : (rs : List ℕ) → Linked (root_next b e) (root_prior b e) 0 home rs → In r rs → root_prior b e home ≡ 0
  first_prior [] k m = absurd m
  first_prior (q ∷ rs) k m = rw k.0 k.1

  pub sound_placed : FoundInPlace b e r
  sound_placed = record {
    no_blank = ms.no_blank r l;
    found = held_found b e home (master_key b e r) r refl held
        (seek-linked b e e.records 0 home (home_list b e home) r linked (all_map (OfHome b e home) (Live b e) (λ q o. o.0) (home_list b e home) chain.only)
        (rw (held-list b e home held) (follow-length e.records e (root_next b e) home)) on_chain
        (λ q m k. ms.one q r (all_in (OfHome b e home) q (home_list b e home) chain.only m).0 l k));
    next = ⊎_elim (λ z. inl z) (λ t. inr (all_in (OfHome b e home) (root_next b e r) (home_list b e home) chain.only t.0, t.1))
        (linked-next (root_next b e) (root_prior b e) 0 home (home_list b e home) r linked on_chain);
    prior = λ q. rw (← q) at (first_prior (home_list b e home) linked on_chain);
  }

-- ---- sign-on's test of a set of masters is document 01's

module _ (b : List ℕ) (e : Entry) (some : 1 ≤ e.records) where
  abbrev placed? : ℕ → Bool
  placed? r = not (is_live b e r) || master_in_place b e r

  pub masters_in_place-sound : masters_in_place b e ≡ master_set_sound b e
  unfolding masters_in_place
  masters_in_place-sound =
      tests_eq (masters_in_place b e) (master_set_sound b e)
      (λ h. master_set_holds b e (placed_sound b e some
      (λ r l. placed_says b e r (where_holds (is_live b e r) (master_in_place b e r) (each_record-at e placed? r h l.0) l.1))))
      (λ h. each_record-all e placed? (λ r i. holds_where (is_live b e r) (master_in_place b e r) (λ l.
      placed_holds b e r (sound_placed b e some (master_set_says b e h) r (i, l)))))
