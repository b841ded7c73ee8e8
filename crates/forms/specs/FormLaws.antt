-- The tests of the parameters and the ladder: they are its tests from Area on. And the laws by which the code asks them: a test on
-- the area's keys is asked where the area has its length, one on the control key where that has its length, and one answer stands for the
-- four tests of the reference.
use Rattle.std.specs.List.{list_any, list_all, range_with_len}
use Rattle.std.specs.Prelude.{ℕ, ◌<◌, ◌≡◌, Bool, true, false, cond, not, ◌&&◌, ◌||◌, List, [], ◌∷◌, eqb, ltb, length}
use Rattle.std.proofs.Common.{refl, sym, ap, ◌∙◌}
use Rattle.std.proofs.Math.Bool.{not-not, and-true}
use borrow.Author.Tests.{eq-eqb, ne_eqb, ltb-true, not-false, eqb-true}
use Rattle.octets.specs.Octets.{all_blank, same_bytes}
use Rattle.octets.specs.Below.{all_below}
use Rattle.octets.specs.BelowLaws.{list_all-below, all_below-fails}
use Rattle.octets.specs.TestLaws.{never_both, asked}
use Rattle.octets.specs.TestLaws as tests
use Rattle.terms.specs.declared.Status.{Status}
use Rattle.terms.specs.declared.Status.TheVariants.{Done, Area, Klen, Ivrp}
use Rattle.terms.specs.declared.Operation.{Operation}
use Rattle.schema.specs.declared.Entry.{Entry}
use Rattle.records.specs.Areas.{is_master, area_length, area_master_key, area_key_on}
use Rattle.calls.specs.Call.{Call, one_of, master_calls, variable_calls}
use Rattle.calls.proofs.OperationLaws.{each_operation, all_of}
use Rattle.calls.specs.Scene.{Scene}
use Rattle.schema.specs.Naming.{link_of}
use Rattle.calls.specs.Ladder.{wrong_kind, blank_area_key, other_area_key, other_stored_key, form_rungs, refusal}
use Rattle.forms.specs.declared.Rungs.{Rungs}
use Rattle.forms.specs.Form.{rungs_of, reference_status, form_status, decided, wrong_reference, same_stored}

-- ---- the ladder

pub form-tests : (x : Scene) (c : Call)
    → refusal x c form_rungs ≡ form_status x.operation x.entry x.on (link_of x.path) x.masters.key c.reference c.key c.area
unfolding refusal form_status
form-tests x c = refl

-- ---- what a call without a path's name need not know

module _ (o : Operation) (e : Entry) (k ref : ℕ) (key area : List ℕ) where
  -- LKxx, where no reference may be one
  pub form-link : (on l m : ℕ) → (rungs_of o).link ≡ false → form_status o e on l k ref key area ≡ form_status o e on m k ref key area
  unfolding form_status
  form-link on l m h = rw h refl

  -- the path's number, in a master set, and where no key of the area is compared with the control key
  pub form-on : (i j link : ℕ) → is_master e ≡ true → form_status o e i link k ref key area ≡ form_status o e j link k ref key area
  unfolding form_status other_area_key
  form-on i j link h = rw h refl

  pub form-on-unasked : (i j link : ℕ) → (rungs_of o).same ≡ false → form_status o e i link k ref key area ≡ form_status o e j link k ref key area
  unfolding form_status
  form-on-unasked i j link h = rw h refl

-- who has passed the tests of kind and path and compares a variable's key has a path of the set
pub on-path : (o : Operation) (e : Entry) (on : ℕ) → wrong_kind o e ≡ false → (one_of o variable_calls && not (ltb on e.count)) ≡ false
    → is_master e ≡ false → (rungs_of o).same ≡ true → on < e.count
unfolding wrong_kind
on-path o e on k p v h =
    let m : one_of o master_calls ≡ false = asked_with (one_of o master_calls) (not (is_master e)) (tests.neither (one_of o master_calls && not (is_master e)) _ k).0 (rw v refl) in
    let q = all_of (λ u. (rungs_of u).same) (λ u. one_of u master_calls || one_of u variable_calls) refl o h in
    let u : one_of o variable_calls ≡ true = rw m at q in
    ltb-true on e.count (not-false (ltb on e.count) (asked (one_of o variable_calls) _ p u))
  where
    asked_with : (a b : Bool) → (a && b) ≡ false → b ≡ true → a ≡ false
    asked_with true b h e = absurd (never_both b e h)
    asked_with false b h e = refl

-- ---- how the code asks

-- who tests the area's keys has tested the area's length, and the control key's
asks_area : (o : Operation) → ((rungs_of o).area || not ((rungs_of o).blank || (rungs_of o).same)) ≡ true
asks_area o = each_operation (λ u. (rungs_of u).area || not ((rungs_of u).blank || (rungs_of u).same)) refl o

pub asks_key : (o : Operation) → ((rungs_of o).key || not ((rungs_of o).blank || (rungs_of o).same)) ≡ true
asks_key o = each_operation (λ u. (rungs_of u).key || not ((rungs_of u).blank || (rungs_of u).same)) refl o

-- so an area whose keys are asked for has its length
asked-fits : (ar x ft : Bool) → (ar || not x) ≡ true → (ar && not ft) ≡ false → x ≡ true → ft ≡ true
asked-fits true x true h g a = refl
asked-fits true x false h g a = cc
asked-fits false true ft h g a = cc
asked-fits false false ft h g a = cc

pub area-fits : (o : Operation) {n m : ℕ} → ((rungs_of o).area && not (eqb n m)) ≡ false → ((rungs_of o).blank || (rungs_of o).same) ≡ true → n ≡ m
area-fits o {n} {m} g a = eqb-true n m (asked-fits (rungs_of o).area ((rungs_of o).blank || (rungs_of o).same) (eqb n m) (asks_area o) g a)

-- a test that is not asked, and one that is
pub not-asked : (b x : Bool) → b ≡ false → false ≡ (b && x)
not-asked b x h = rw h refl

pub is_asked : (b x r : Bool) → b ≡ true → r ≡ x → r ≡ (b && x)
is_asked b x r h k = rw h k

-- ---- the keys of an area, by the kind of its set

module _ (e : Entry) (area : List ℕ) where
  pub blank_master : is_master e ≡ true → blank_area_key e area ≡ all_blank (area_master_key e area)
  unfolding blank_area_key
  blank_master m = rw m refl

  pub other_master-key : (on : ℕ) (key : List ℕ) → is_master e ≡ true → other_area_key e on key area ≡ not (same_bytes (area_master_key e area) key)
  unfolding other_area_key
  other_master-key on key m = rw m refl

  pub other_path : (on : ℕ) (key : List ℕ) → is_master e ≡ false → other_area_key e on key area ≡ not (same_bytes (area_key_on e area on) key)
  unfolding other_area_key
  other_path on key v = rw v refl

-- ---- the keys of an area, path by path

-- a number of 0..n that f holds of is one below n that g fails of, where g is the converse of f
any-all : (f g : ℕ → Bool) → ((k : ℕ) → g k ≡ not (f k)) → (xs : List ℕ) → list_any f xs ≡ not (list_all g xs)
any-all f g c [] = refl
any-all f g c (x ∷ xs) = rw (c x, any-all f g c xs) (turn (f x) (list_all g xs))
  where
    turn : (a b : Bool) → (a || not b) ≡ not (not a && b)
    turn true b = refl
    turn false b = refl

any-below : (f g : ℕ → Bool) → ((k : ℕ) → g k ≡ not (f k)) → (n : ℕ) → list_any f (range_with_len 0 n) ≡ not (all_below g n)
any-below f g c n = any-all f g c (range_with_len 0 n) ∙ ap not (list_all-below g n)

module _ (e : Entry) (area : List ℕ) where
  abbrev pub blank_on : ℕ → Bool
  blank_on k = all_blank (area_key_on e area k)

  pub some_blank : is_master e ≡ false → list_any blank_on (range_with_len 0 e.count) ≡ blank_area_key e area
  unfolding blank_area_key
  some_blank v = rw v (any-below blank_on (λ k. not (blank_on k)) (λ k. refl) e.count)

module _ (b : List ℕ) (e : Entry) (r : ℕ) (area : List ℕ) where
  pub some_other : list_any (λ k. not (same_stored b e r area k)) (range_with_len 0 e.count) ≡ other_stored_key b e r area
  unfolding other_stored_key
  some_other = any-below (λ k. not (same_stored b e r area k)) (same_stored b e r area) (λ k. sym (not-not (same_stored b e r area k))) e.count

-- ---- the answers put together

either : (a b : Bool) (s t : Status) → cond (a || b) s t ≡ cond a s (cond b s t)
either true b s t = refl
either false b s t = refl

-- the four tests of the reference in one answer
by-reference : (q : Rungs) (e : Entry) (link ref : ℕ) → cond (wrong_reference q e link ref) Ivrp Done ≡ reference_status q e link ref
by-reference q e link ref = rw (either, either, either) refl

neither : (k b s : Bool) → (k || not (b || s)) ≡ true → k ≡ false → (b ≡ false) × (s ≡ false)
neither true b s h e = absurd (never_both true refl e)
neither false true s h e = absurd (never_both false h refl)
neither false false true h e = absurd (never_both false h refl)
neither false false false h e = (refl, refl)

module _ (o : Operation) (e : Entry) (on link k ref : ℕ) (key area : List ℕ) where
  pub form-area : ((rungs_of o).area && not (eqb (length area) (area_length e))) ≡ true → Area ≡ form_status o e on link k ref key area
  unfolding form_status
  form-area h = rw h refl

  module _ (fits : ((rungs_of o).area && not (eqb (length area) (area_length e))) ≡ false) where
    -- a call with no control key asks for no key
    pub form-keyless : (rungs_of o).key ≡ false → decided false false false (wrong_reference (rungs_of o) e link ref) ≡ form_status o e on link k ref key area
    unfolding form_status
    form-keyless h =
        let n = neither (rungs_of o).key (rungs_of o).blank (rungs_of o).same (asks_key o) h in
        rw (fits, h, n.0, n.1) (by-reference (rungs_of o) e link ref)

    module _ (keyed : (rungs_of o).key ≡ true) where
      pub form_klen : (length key ≡ k → ⊥) → Klen ≡ form_status o e on link k ref key area
      unfolding form_status
      form_klen h = rw (fits, keyed, ne_eqb (length key) k h) refl

      pub form_keys : length key ≡ k
          → decided (all_blank key) ((rungs_of o).blank && blank_area_key e area) ((rungs_of o).same && other_area_key e on key area) (wrong_reference (rungs_of o) e link ref)
          ≡ form_status o e on link k ref key area
      unfolding form_status
      form_keys h = rw (fits, keyed, eq-eqb (length key) k h, by-reference (rungs_of o) e link ref) refl

      -- an area that has not its length is asked for no key
      pub form_unsized : eqb (length area) (area_length e) ≡ false → length key ≡ k
          → decided (all_blank key) false false (wrong_reference (rungs_of o) e link ref) ≡ form_status o e on link k ref key area
      unfolding form_status
      form_unsized l h =
          let a : (rungs_of o).area ≡ false = alone (rungs_of o).area (rw l at fits) in
          let n = neither (rungs_of o).area (rungs_of o).blank (rungs_of o).same (asks_area o) a in
          rw (fits, keyed, eq-eqb (length key) k h, n.0, n.1, by-reference (rungs_of o) e link ref) refl
        where
          alone : (b : Bool) → (b && true) ≡ false → b ≡ false
          alone b q = rw and-true at q

-- ---- the keys of an area, as a loop over the paths meets them

module _ (e : Entry) (area : List ℕ) where
  abbrev pub not_blank : ℕ → Bool
  not_blank k = not (all_blank (area_key_on e area k))

  pub blank_found : is_master e ≡ false → (j : ℕ) → j < e.count → all_blank (area_key_on e area j) ≡ true → blank_area_key e area ≡ true
  unfolding blank_area_key
  blank_found v j l h = rw (v, all_below-fails not_blank e.count j l (rw h refl)) refl

  pub blank_none : is_master e ≡ false → all_below not_blank e.count ≡ true → blank_area_key e area ≡ false
  unfolding blank_area_key
  blank_none v h = rw (v, h) refl

module _ (b : List ℕ) (e : Entry) (r : ℕ) (area : List ℕ) where
  pub other_found : (j : ℕ) → j < e.count → same_stored b e r area j ≡ false → other_stored_key b e r area ≡ true
  unfolding other_stored_key
  other_found j l h = rw (all_below-fails (same_stored b e r area) e.count j l h) refl

  pub other_none : all_below (same_stored b e r area) e.count ≡ true → other_stored_key b e r area ≡ false
  unfolding other_stored_key
  other_none h = rw h refl
