-- The tests of ADD-M and DEL-M for damage find none in a sound set of masters: the neighbours of a master are 0 or live masters of its home,
-- and a master away from its home stands behind another.
use Rattle.std.specs.Prelude.{ℕ, ◌≤◌, ◌≡◌, refl, ◌≢◌, Bool, true, false, not, ◌&&◌, ◌||◌, List, eqb}
use Rattle.std.proofs.Common.{ap, inl, inr, arith, eq-eqb, ne_eqb}
use Rattle.std.proofs.lemmas.Bool.{eqb-false}
use Rattle.schema.specs.declared.Entry.{Entry}
use Rattle.schema.specs.Place.{InSet}
use Rattle.records.specs.Records.{is_live, root_next, root_prior}
use Rattle.masters.specs.Find.{own_home, held_by_own}
use Rattle.masters.specs.Root.{bad_root, add_master_damaged, synonym_moves, del_master_damaged}
use Rattle.sound.proofs.ListLaws.{in_set_test}
use Rattle.sound.specs.Sets.{Live, MasterSet}
use Rattle.master_steps.specs.Neighbours.{Side, stranger, neighbours_aside, first_home}

-- ---- tests that fail

neither : {a b : Bool} → a ≡ false → b ≡ false → (a || b) ≡ false
neither p q = rw p q

second-fails : (a b : Bool) → b ≡ false → (a && b) ≡ false
second-fails true b p = p
second-fails false b p = refl

-- a pointer that may stand on a ROOT chain passes the test
good_root : (b : List ℕ) (e : Entry) (p : ℕ) → Side b e p → bad_root b e p ≡ false
good_root b e p (inl z) = rw (eq-eqb p 0 z) refl
good_root b e p (inr l) = let z : p ≢ 0 = λ q. omega arith in rw (ne_eqb p 0 z, in_set_test e p l.0, l.1) refl

-- away from its home a master has a prior
away-prior : (b : List ℕ) (e : Entry) → 1 ≤ e.records → MasterSet b e → (r : ℕ) → Live b e r → r ≢ own_home b e r → eqb (root_prior b e r) 0 ≡ false
away-prior b e some ms r l d = ne_eqb (root_prior b e r) 0 (λ z. d (first_home b e some ms r l z))

-- ---- the calls

pub add-master-quiet : (b : List ℕ) (e : Entry) → 1 ≤ e.records → MasterSet b e → (h : ℕ) → InSet e h → add_master_damaged b e h ≡ false
unfolding add_master_damaged
add-master-quiet b e some ms h i = by (is_live b e h) (held_by_own b e h) refl refl
  where
    by : (l o : Bool) → is_live b e h ≡ l → held_by_own b e h ≡ o
        → (l && not o && (eqb (root_prior b e h) 0 || bad_root b e (root_prior b e h) || bad_root b e (root_next b e h))) ≡ false
    by true true l o = refl
    by true false l o =
        let s = neighbours_aside b e some ms h (i, l) in
        neither (neither (away-prior b e some ms h (i, l) (stranger b e h l o)) (good_root b e (root_prior b e h) s.0.0)) (good_root b e (root_next b e h) s.1.0)
    by false o l t = refl

pub del_master-quiet : (b : List ℕ) (e : Entry) → 1 ≤ e.records → MasterSet b e → (r : ℕ) → Live b e r → del_master_damaged b e (own_home b e r) r ≡ false
unfolding del_master_damaged
del_master-quiet b e some ms r l =
    let s = neighbours_aside b e some ms r l in
    neither (neither (neither (away (eqb r (own_home b e r)) refl) (good_root b e (root_prior b e r) s.0.0)) (good_root b e (root_next b e r) s.1.0)) (behind s.1.0)
  where
    away : (t : Bool) → eqb r (own_home b e r) ≡ t → (not t && eqb (root_prior b e r) 0) ≡ false
    away true q = refl
    away false q = away-prior b e some ms r l (eqb-false r (own_home b e r) q)

    -- a synonym that moves is a live master
    behind : Side b e (root_next b e r) → (synonym_moves b e (own_home b e r) r && bad_root b e (root_next b e (root_next b e r))) ≡ false
    behind (inl z) = rw (second-fails (eqb r (own_home b e r)) _ (ap not (eq-eqb (root_next b e r) 0 z))) refl
    behind (inr k) = second-fails (synonym_moves b e (own_home b e r) r) _ (good_root b e (root_next b e (root_next b e r)) (neighbours_aside b e some ms (root_next b e r) k).1.0)
