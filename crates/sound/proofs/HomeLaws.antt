-- The search for a key and the chain of a home. What the search finds is a record that ROOT next leads to from the home; along a chain of
-- live records it goes on to the one that has its key. A home is sound if its chain is linked and has exactly the home's masters.
use Prim.Native.Nat.{ℕ, zero, suc, ◌≤◌}
use Rattle.std.proofs.Math.Path.{◌≡◌, refl, ap}
use Rattle.std.proofs.Common.{sym, arith}
use Rattle.std.specs.Prelude.{◌≢◌, Bool, cond, ◌&&◌, eqb, length}
use Rattle.std.proofs.Math.Logic.{inl, inr}
use Rattle.std.proofs.Math.Bool.{true, false, and-eq-true_iff}
use mathlib.Core.List.{List, [], ◌∷◌}
use borrow.Author.Tests.{eqb-true, eq-eqb, ne_eqb}
use Rattle.octets.specs.Octets.{same_bytes}
use Rattle.octets.specs.TestLaws.{never_both}
use Rattle.octets.specs.RunLaws.{same_bytes_eq, same_bytes_refl}
use Rattle.schema.specs.declared.Entry.{Entry}
use Rattle.schema.specs.Place.{in_set}
use Rattle.records.specs.Records.{is_live, root_next, root_prior, master_key}
use Rattle.masters.specs.declared.Found.{Found}
use Rattle.masters.specs.declared.Found.TheVariants.{At, Missing, Damaged}
use Rattle.masters.specs.Find.{own_home, held_by_own, seek, record_found}
use Rattle.chains.specs.Members.{All, In, all_in, in_all}
use Rattle.sound.specs.Sound.{within, same_records, follow, is_chain, masters_of_home, home_list, home_sound}
use Rattle.sound.specs.Linear.{found_at}
use Rattle.sound.proofs.SoundLaws.{Linked, chain-linked}
use Rattle.sound.proofs.ListLaws.{in_set_test, within_in, in_within, records_with_in, in_records_with, linked-chain}
use Rattle.sound.specs.Sets.{Live}

-- ---- the search

-- the search ended at the record r
abbrev pub FoundAt : Found → ℕ → Type 0
FoundAt f r = f ≡ At (record { 0 = r })

pub found_at_says : (f : Found) (r : ℕ) → found_at f r ≡ true → FoundAt f r
found_at_says (At q) r h = let e : q.0 ≡ r = eqb-true q.0 r h in ap (λ (n : ℕ). At (record { 0 = n })) e
found_at_says Missing r h = absurd (never_both false h refl)
found_at_says Damaged r h = absurd (never_both false h refl)

pub found_at-holds : (f : Found) (r : ℕ) → FoundAt f r → found_at f r ≡ true
found_at-holds f r h = rw h (eq-eqb r r refl)

module _ (b : List ℕ) (e : Entry) where
  -- a record that is found from r on is one that ROOT next leads to
  pub seek-follow : (n : ℕ) (key : List ℕ) (r q : ℕ) → FoundAt (seek n b e key r) q → In q (follow n e (root_next b e) r)
  unfolding seek follow
  seek-follow zero key r q h = absurd (let z : ◌≡◌ {A = ℕ} 0 1 = cc in omega arith)
  seek-follow (suc n) key r q h =
      by (in_set e r) (is_live b e r) (same_bytes (master_key b e r) key) (eqb (root_next b e r) 0) h (λ k. seek-follow n key (root_next b e r) q k)
    where
      by : (s l k z : Bool) → FoundAt (cond (s && l) (cond k (At (record { 0 = r })) (cond z Missing (seek n b e key (root_next b e r)))) Damaged) q
          → (FoundAt (seek n b e key (root_next b e r)) q → In q (follow n e (root_next b e) (root_next b e r)))
          → In q (cond s (r ∷ follow n e (root_next b e) (root_next b e r)) [])
      by true true true z h more = inl (ap record_found (sym h))
      by true true false true h more = absurd (let z : ◌≡◌ {A = ℕ} 0 1 = cc in omega arith)
      by true true false false h more = inr (more h)
      by true false k z h more = absurd (let z : ◌≡◌ {A = ℕ} 0 1 = cc in omega arith)
      by false l k z h more = absurd (let z : ◌≡◌ {A = ℕ} 0 1 = cc in omega arith)

  -- a chain with a record on it does not begin with 0
  begins : (p head : ℕ) (rs : List ℕ) (r : ℕ) → Linked (root_next b e) (root_prior b e) p head rs → All (Live b e) rs → In r rs → head ≢ 0
  begins p head [] r h l m = absurd m
  begins p head (q ∷ rs) r h l m = λ z. omega arith

  -- along a chain of live records the search goes on to the one that has its key
  pub seek-linked : (n p head : ℕ) (rs : List ℕ) (r : ℕ) → Linked (root_next b e) (root_prior b e) p head rs → All (Live b e) rs → length rs ≤ n → In r rs
      → ((q : ℕ) → In q rs → master_key b e q ≡ master_key b e r → q ≡ r) → FoundAt (seek n b e (master_key b e r) head) r
  unfolding seek
  seek-linked zero p head [] r h l s m one = absurd m
  seek-linked zero p head (q ∷ rs) r h l s m one = absurd (omega arith)
  seek-linked (suc n) p head [] r h l s m one = absurd m
  seek-linked (suc n) p head (q ∷ rs) r h l s m one =
      rw (h.0, in_set_test e q l.0.0, l.0.1) (by (same_bytes (master_key b e q) (master_key b e r)) refl m
      (λ k. begins q (root_next b e q) rs r h.2 l.1 k)
      (λ k. seek-linked n q (root_next b e q) rs r h.2 l.1 (omega arith) k (λ z i. one z (inr i))))
    where
      by : (t : Bool) → same_bytes (master_key b e q) (master_key b e r) ≡ t → In r (q ∷ rs) → (In r rs → root_next b e q ≢ 0)
          → (In r rs → FoundAt (seek n b e (master_key b e r) (root_next b e q)) r)
          → FoundAt (cond t (At (record { 0 = q })) (cond (eqb (root_next b e q) 0) Missing (seek n b e (master_key b e r) (root_next b e q)))) r
      by true t m z more = ap (λ (n : ℕ). At (record { 0 = n })) (one q (inl refl) (same_bytes_eq _ _ t))
      by false t (inl k) z more = absurd (never_both _ (rw k (same_bytes_refl (master_key b e q))) t)
      by false t (inr k) z more = rw (ne_eqb _ 0 (z k)) (more k)

-- ---- the chain of a home

-- the record r is a live master of the home h
abbrev pub OfHome : List ℕ → Entry → ℕ → ℕ → Type 0
OfHome b e h r = Live b e r × (own_home b e r ≡ h)

-- "each home's masters one two-way chain from the home, 0 at both ends"
pub record HomeChain (b : List ℕ) (e : Entry) (h : ℕ) : Type 0 where
  pub linked : Linked (root_next b e) (root_prior b e) 0 (cond (held_by_own b e h) h 0) (home_list b e h)
  pub only : All (OfHome b e h) (home_list b e h)
  pub full : (r : ℕ) → OfHome b e h r → In r (home_list b e h)

module _ (b : List ℕ) (e : Entry) (h : ℕ) where
  abbrev list : List ℕ
  list = home_list b e h

  abbrev head : ℕ
  head = cond (held_by_own b e h) h 0

  abbrev own? : ℕ → Bool
  own? r = is_live b e r && eqb (own_home b e r) h

  own_in : (r : ℕ) → OfHome b e h r → In r (masters_of_home b e h)
  unfolding masters_of_home
  own_in r o = in_records_with e own? r o.0.0 ((and-eq-true_iff (is_live b e r) (eqb (own_home b e r) h)).1 (o.0.1, eq-eqb _ _ o.1))

  in_own : (r : ℕ) → In r (masters_of_home b e h) → OfHome b e h r
  unfolding masters_of_home
  in_own r m =
      let t = records_with_in e own? r m in
      let a = (and-eq-true_iff (is_live b e r) (eqb (own_home b e r) h)).0 t.1 in
      ((t.0, a.0), eqb-true _ _ a.1)

  pub home_sound_says : home_sound b e h ≡ true → HomeChain b e h
  unfolding home_sound
  home_sound_says s =
      let a = (and-eq-true_iff (is_chain (root_next b e) (root_prior b e) 0 head list) (same_records list (masters_of_home b e h))).0 s in
      let c = (and-eq-true_iff (within list (masters_of_home b e h)) (within (masters_of_home b e h) list)).0 a.1 in
      record {
        linked = chain-linked (root_next b e) (root_prior b e) 0 head list a.0;
        only = in_all (OfHome b e h) list (λ r m. in_own r (within_in list (masters_of_home b e h) c.0 r m));
        full = λ r o. within_in (masters_of_home b e h) list c.1 r (own_in r o);
      }

  pub home_sound-holds : HomeChain b e h → home_sound b e h ≡ true
  unfolding home_sound
  home_sound-holds c =
      (and-eq-true_iff (is_chain (root_next b e) (root_prior b e) 0 head list) (same_records list (masters_of_home b e h))).1 (
        linked-chain (root_next b e) (root_prior b e) 0 head list c.linked,
        (and-eq-true_iff (within list (masters_of_home b e h)) (within (masters_of_home b e h) list)).1 (
          in_within list (masters_of_home b e h) (λ r m. own_in r (all_in (OfHome b e h) r list c.only m)),
          in_within (masters_of_home b e h) list (λ r m. c.full r (in_own r m)),
        ),
      )
