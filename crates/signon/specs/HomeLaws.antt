-- A master in its place, test by test: what the code was told, and what it answers.
use Rattle.std.specs.Prelude.{ℕ, ◌≡◌, Bool, true, false, not, List, eqb, ◌≤◌, ◌<◌, ◌&&◌}
use Rattle.std.proofs.Math.Path.{refl}
use borrow.Author.Tests.{eq-eqb, ne_eqb, le-leb, lt-leb, not-true, not-false}
use Rattle.octets.specs.Octets.{all_blank}
use Rattle.schema.specs.declared.Entry.{Entry}
use Rattle.records.specs.Records.{root_next, root_prior, master_key, is_live}
use Rattle.masters.specs.declared.Found.{Found}
use Rattle.masters.specs.Find.{find, own_home}
use Rattle.sound.specs.Linear.{found_at, is_of_home, next_answers, prior_ends, master_in_place}
use Rattle.std.proofs.Common.{sym, ◌∙◌}
use Rattle.std.proofs.Math.Bool.{and-eq-true_iff}
use Rattle.masters.proofs.FindLaws.{in_set_true}
use Rattle.schema.specs.Place.{InSet, in_set}
use Rattle.signon.specs.Judged.{in_place_at}

-- ---- its neighbours

module _ (b : List ℕ) (e : Entry) (r : ℕ) {q : ℕ} (eq : q ≡ root_next b e r) where
  pub next_none : q ≡ 0 → eqb q 0 ≡ next_answers b e r
  unfolding next_answers
  next_none h = rw (← eq, eq-eqb q 0 h) refl

  module _ (some : q ≡ 0 → ⊥) {h : ℕ} (eh : h ≡ own_home b e r) {o : Bool} (eo : o ≡ is_of_home b e h q) where
    pub next_other : o ≡ false → o ≡ next_answers b e r
    unfolding next_answers
    next_other n = rw (← eq, ne_eqb q 0 some, ← eh, ← eo, n) refl

    pub next_back : o ≡ true → {w : ℕ} → w ≡ root_prior b e q → eqb w r ≡ next_answers b e r
    unfolding next_answers
    next_back n d = rw (← eq, ne_eqb q 0 some, ← eh, ← eo, n, d) refl

-- at its home a master has no ROOT prior
module _ (b : List ℕ) (e : Entry) (r : ℕ) {h : ℕ} (eh : h ≡ own_home b e r) {n : Bool} (en : n ≡ not (eqb r h)) where
  pub prior_synonym : n ≡ true → n ≡ prior_ends b e r
  unfolding prior_ends
  prior_synonym m = rw (← eh, ← en, m) refl

  pub prior_home : n ≡ false → {w : ℕ} → w ≡ root_prior b e r → eqb w 0 ≡ prior_ends b e r
  unfolding prior_ends
  prior_home m d = rw (← eh, ← en, m, d) refl

-- ---- the master

module _ (b : List ℕ) (e : Entry) (r : ℕ) {key : List ℕ} (ek : key ≡ master_key b e r) {s : Bool} (es : s ≡ all_blank key) where
  pub place_blank : s ≡ true → false ≡ master_in_place b e r
  unfolding master_in_place
  place_blank h = rw (← ek, ← es, h) refl

  module _ (keyed : s ≡ false) {f : Found} (ef : f ≡ find b e key) where
    pub place_lost : found_at f r ≡ false → false ≡ master_in_place b e r
    unfolding master_in_place
    place_lost h = rw (← ek, ← es, keyed, ← ef, h) refl

    module _ (found : found_at f r ≡ true) {n : Bool} (en : n ≡ next_answers b e r) where
      pub place_next : n ≡ false → n ≡ master_in_place b e r
      unfolding master_in_place
      place_next h = rw (← ek, ← es, keyed, ← ef, found, ← en, h) refl

      pub place_prior : n ≡ true → {d : Bool} → d ≡ prior_ends b e r → d ≡ master_in_place b e r
      unfolding master_in_place
      place_prior h q = rw (← ek, ← es, keyed, ← ef, found, ← en, h) q

-- ---- by a test and its converse, as a loop is told them

pub not_live : (b : List ℕ) (e : Entry) (r : ℕ) {l : Bool} → l ≡ is_live b e r → not l ≡ true → true ≡ in_place_at b e r
not_live b e r {l} el h = rw (← el, not-true l h) refl

pub is_live_lem : (b : List ℕ) (e : Entry) (r : ℕ) {l o : Bool} → l ≡ is_live b e r → not l ≡ false → o ≡ master_in_place b e r → o ≡ in_place_at b e r
is_live_lem b e r {l} el h d = rw (← el, not-false l h) d

module _ (b : List ℕ) (e : Entry) (h q : ℕ) (some : 1 ≤ q) where
  pub home-above : e.records < q → false ≡ is_of_home b e h q
  home-above l = rw (le-leb 1 q some, lt-leb q e.records l) refl

  module _ (most : q ≤ e.records) {l : Bool} (el : l ≡ is_live b e q) where
    pub home_free : not l ≡ true → false ≡ is_of_home b e h q
    home_free n = rw (le-leb 1 q some, le-leb q e.records most, ← el, not-true l n) refl

    pub home-own : not l ≡ false → {w : ℕ} → w ≡ own_home b e q → eqb w h ≡ is_of_home b e h q
    home-own n d = rw (le-leb 1 q some, le-leb q e.records most, ← el, not-false l n, d) refl

-- a neighbour of the home is a record of the set
module _ (b : List ℕ) (e : Entry) (r : ℕ) {q : ℕ} (eq : q ≡ root_next b e r) (some : q ≡ 0 → ⊥) {h : ℕ} (eh : h ≡ own_home b e r) {o : Bool} (eo : o ≡ is_of_home b e h q) where
  pub next_in : not o ≡ false → InSet e q
  next_in n =
      let t = ((and-eq-true_iff (in_set e q && is_live b e q) (eqb (own_home b e q) h)).0 (sym eo ∙ not-false o n)).0 in
      in_set_true e q ((and-eq-true_iff (in_set e q) (is_live b e q)).0 t).0
