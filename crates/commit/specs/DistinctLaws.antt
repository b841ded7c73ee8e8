-- Numbers taken once each say the same as all of them: every one of them passes a test, or not, and the blocks of those numbers, sealed in
-- turn, are the same, since sealing a sealed block changes nothing.
use Rattle.std.specs.Prelude.{ℕ, ◌+◌, ◌≤◌, Bool, cond, not, ◌&&◌, eqb}
use Rattle.std.proofs.Math.Path.{◌≡◌, refl, sym}
use Rattle.std.proofs.Common.{ap, ◌∙◌, arith, ne_eqb, leb-true}
use Rattle.std.proofs.Math.Logic.{⊎_elim}
use Rattle.std.proofs.Math.Bool.{true, false, and-true, and_assoc, and-eq-true_iff}
use mathlib.Core.List.{List, [], ◌∷◌, ◌++◌}
use Rattle.std.proofs.lemmas.Bool.{eqb-false, not-true}
use Rattle.std.proofs.Math.ListN.{length}
use Rattle.octets.specs.Octets.{Bytes, every}
use Rattle.octets.specs.RunLaws.{every_append}
use Rattle.octets.specs.BelowLaws.{same?}
use Rattle.blocks.specs.declared.Check.{Check}
use Rattle.blocks.specs.Blocks.{block_at, is_sealed, seal}
use Rattle.blocks.specs.Laws.{length-seal, bytes-seal, is_sealed-seal, is_sealed-seal-other, seal-sealed}
use Rattle.commit.specs.Touched.{is_other, is_new, add_new, add_all, distinct, once, block_within, AllWithin, seal_each}

-- ---- each number once

-- the last is new to the others
once-behind : (ks : List ℕ) (n : ℕ) → once ks ≡ true → is_new n ks ≡ true → once (ks ++ (n ∷ [])) ≡ true
unfolding once every
once-behind [] n h w = refl
once-behind (k ∷ ks) n h w =
    let t = (and-eq-true_iff (is_new k ks) (once ks)).0 h in
    let u = (and-eq-true_iff (is_other n k) (is_new n ks)).0 w in
    let o : is_other k n ≡ true = ap not (ne_eqb n k (λ e. eqb-false k n (not-true (eqb k n) u.0) (sym e))) in
    rw (every_append (is_other k) ks (n ∷ []), t.0, o) (once-behind ks n t.1 u.1)

once-add_new : (ks : List ℕ) (n : ℕ) → once ks ≡ true → once (add_new ks n) ≡ true
once-add_new ks n h = go (is_new n ks) refl
  where
    go : (t : Bool) → is_new n ks ≡ t → once (cond t (ks ++ (n ∷ [])) ks) ≡ true
    go true e = once-behind ks n h e
    go false e = h

once-add_all : (ks ns : List ℕ) → once ks ≡ true → once (add_all ks ns) ≡ true
unfolding add_all
once-add_all ks [] h = h
once-add_all ks (n ∷ ns) h = once-add_all (add_new ks n) ns (once-add_new ks n h)

-- so a plan's blocks are looked at once each, and sealed once each
pub distinct-once : (ns : List ℕ) → once (distinct ns) ≡ true
unfolding once
distinct-once ns = once-add_all [] ns refl

-- ---- a test of every number

-- n is one of numbers that all pass
among : (f : ℕ → Bool) (n : ℕ) (ns : List ℕ) → is_new n ns ≡ false → every f ns ≡ true → f n ≡ true
unfolding every
among f n [] h k = absurd (let z : ◌≡◌ {A = ℕ} 0 1 = cc in omega arith)
among f n (m ∷ ms) h k =
    let t = (and-eq-true_iff (f m) (every f ms)).0 k in
    ⊎_elim (λ e. rw e at t.0) (λ e. among f n ms (rw (ne_eqb m n e) at h) t.1) (same? m n)

and_follows : (t u : Bool) → (t ≡ true → u ≡ true) → t ≡ (t && u)
and_follows true u h = sym (h refl)
and_follows false u h = refl

every_add_new : (f : ℕ → Bool) (ks : List ℕ) (n : ℕ) → every f (add_new ks n) ≡ (every f ks && f n)
unfolding every
every_add_new f ks n = go (is_new n ks) refl
  where
    go : (t : Bool) → is_new n ks ≡ t → every f (cond t (ks ++ (n ∷ [])) ks) ≡ (every f ks && f n)
    go true h = every_append f ks (n ∷ []) ∙ (rw and-true refl)
    go false h = and_follows (every f ks) (f n) (among f n ks h)

every_add_all : (f : ℕ → Bool) (ks ns : List ℕ) → every f (add_all ks ns) ≡ (every f ks && every f ns)
unfolding every add_all
every_add_all f ks [] = sym (and-true (every f ks))
every_add_all f ks (n ∷ ns) = every_add_all f (add_new ks n) ns ∙ (rw every_add_new (and_assoc (every f ks) (f n) (every f ns)))

pub every_distinct : (f : ℕ → Bool) (ns : List ℕ) → every f (distinct ns) ≡ every f ns
unfolding every
every_distinct f ns = every_add_all f [] ns

-- ---- every block sealed

module _ (k : Check) where
  pub length-seal_each : (b ns : List ℕ) → length (seal_each k b ns) ≡ length b
  unfolding seal_each
  length-seal_each b [] = refl
  length-seal_each b (n ∷ ns) = length-seal_each (seal k b n) ns ∙ length-seal k b n

  bytes-seal_each : (b ns : List ℕ) → Bytes b → Bytes (seal_each k b ns)
  unfolding seal_each
  bytes-seal_each b [] h = h
  bytes-seal_each b (n ∷ ns) h = bytes-seal_each (seal k b n) ns (bytes-seal k b n h)

  seal_each_append : (b ks ns : List ℕ) → seal_each k b (ks ++ ns) ≡ seal_each k (seal_each k b ks) ns
  unfolding seal_each
  seal_each_append b [] ns = refl
  seal_each_append b (n ∷ ks) ns = seal_each_append (seal k b n) ks ns

  -- a sealed block stays sealed, and one of the numbers is sealed
  sealed-kept : (b ns : List ℕ) (n : ℕ) → block_at n + 512 ≤ length b → is_sealed k b n ≡ true → is_sealed k (seal_each k b ns) n ≡ true
  unfolding seal_each
  sealed-kept b [] n w h = h
  sealed-kept b (m ∷ ms) n w h =
      sealed-kept (seal k b m) ms n (rw (length-seal k b m) w)
      (⊎_elim (λ e. rw e (is_sealed-seal k b m (rw e at w))) (λ e. is_sealed-seal-other k b m n e ∙ h) (same? n m))

  sealed-among : (b ns : List ℕ) (n : ℕ) → block_at n + 512 ≤ length b → is_new n ns ≡ false → is_sealed k (seal_each k b ns) n ≡ true
  unfolding seal_each every
  sealed-among b [] n w h = absurd (let z : ◌≡◌ {A = ℕ} 0 1 = cc in omega arith)
  sealed-among b (m ∷ ms) n w h =
      let l : block_at n + 512 ≤ length (seal k b m) = rw (length-seal k b m) w in
      ⊎_elim
      (λ e. sealed-kept (seal k b m) ms n l (rw e (is_sealed-seal k b n w)))
      (λ e. sealed-among (seal k b m) ms n l (rw (ne_eqb m n e) at h))
      (same? m n)

  -- sealing a block that has been sealed changes nothing
  seal_each-add_new : (b ks : List ℕ) (n : ℕ) → Bytes b → block_at n + 512 ≤ length b → seal_each k b (add_new ks n) ≡ seal k (seal_each k b ks) n
  unfolding seal_each
  seal_each-add_new b ks n h w = go (is_new n ks) refl
    where
      go : (t : Bool) → is_new n ks ≡ t → seal_each k b (cond t (ks ++ (n ∷ [])) ks) ≡ seal k (seal_each k b ks) n
      go true e = seal_each_append b ks (n ∷ [])
      go false e = sym (seal-sealed k (seal_each k b ks) n (sealed-among b ks n w e) (rw (length-seal_each b ks) w) (bytes-seal_each b ks h))

  seal_each-add_all : (b ks ns : List ℕ) → Bytes b → AllWithin (length b) ns → seal_each k b (add_all ks ns) ≡ seal_each k (seal_each k b ks) ns
  unfolding seal_each add_all every
  seal_each-add_all b ks [] h w = refl
  seal_each-add_all b ks (n ∷ ns) h w =
      let t = (and-eq-true_iff (block_within (length b) n) (every (block_within (length b)) ns)).0 w in
      seal_each-add_all b (add_new ks n) ns h t.1 ∙ (rw (seal_each-add_new b ks n h (leb-true _ _ t.0)) refl)

  pub seal_each-distinct : (b ns : List ℕ) → Bytes b → AllWithin (length b) ns → seal_each k b (distinct ns) ≡ seal_each k b ns
  unfolding seal_each
  seal_each-distinct b ns h w = seal_each-add_all b [] ns h w

-- ---- numbers, part by part

add_all_append : (ks ms ns : List ℕ) → add_all (add_all ks ms) ns ≡ add_all ks (ms ++ ns)
unfolding add_all
add_all_append ks [] ns = refl
add_all_append ks (m ∷ ms) ns = add_all_append (add_new ks m) ms ns

-- one number, and two, added to none
pub one_block : {ks ms ns : List ℕ} {k n : ℕ} → ks ≡ [] → ms ≡ add_new ks k → k ≡ n → ns ≡ n ∷ [] → ms ≡ distinct ns
unfolding add_all
one_block p a e q = rw q (rw (p, e) at a)

pub two_blocks : {ks ms ls ns : List ℕ} {k l m n : ℕ} → ks ≡ [] → ms ≡ add_new ks k → ls ≡ add_new ms l → k ≡ m → l ≡ n → ns ≡ m ∷ n ∷ [] → ls ≡ distinct ns
unfolding add_all
two_blocks {ms = ms} {m = m} p a b e f q = let c : ms ≡ add_new [] m = rw (p, e) at a in rw q (rw (c, f) at b)

-- three parts, one behind the other
pub three-parts : {ks ls ms : List ℕ} (hs ws rs : List ℕ) → ks ≡ distinct hs → ls ≡ add_all ks ws → ms ≡ add_all ls rs → ms ≡ distinct (hs ++ (ws ++ rs))
three-parts hs ws rs p q r =
    r ∙ ap (λ (ks : List ℕ). add_all ks rs) (q ∙ ap (λ (ks : List ℕ). add_all ks ws) p) ∙ add_all_append (distinct hs) ws rs ∙ add_all_append [] hs (ws ++ rs)
