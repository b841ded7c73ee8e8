-- The blocks that a plan touches: a list of them goes block by block, a plan's words go word by word, and the blocks of a plan's stores are
-- those that the plan names, and lie within the data base.
use Rattle.std.specs.Prelude.{ℕ, zero, suc, ◌+◌, ◌≤◌, ◌<◌, ◌≡◌, Bool, ◌&&◌, ◌||◌, ◌⊎◌, not, length, get_or, take, drop, set}
use Rattle.std.proofs.Math.Path.{refl}
use Rattle.std.proofs.Math.Logic.{⊎_elim}
use Rattle.std.proofs.Common.{ap, ◌∙◌, arith, add-one, drop_of_length-le, drop-cons, take-suc-set}
use Rattle.std.specs.List.{list_all, list_any}
use Rattle.std.proofs.Math.Bool.{true, false, cond, and-eq-true_iff}
use mathlib.Core.List.{List, [], ◌∷◌, ◌++◌}
use borrow.Author.Tests.{eqb-false, le-leb, leb-true}
use Rattle.std.proofs.Math.Dec.{eqb}
use Rattle.octets.specs.Octets.{every}
use Rattle.octets.specs.RunLaws.{every_append}
use Rattle.terms.specs.declared.BlockNo.{BlockNo}
use Rattle.blocks.specs.declared.Check.{Check}
use Rattle.blocks.specs.Blocks.{block_at, block_with, seal}
use Rattle.schema.specs.declared.Entry.{Entry}
use Rattle.schema.specs.Place.{InSet, LiesIn, block_of}
use Rattle.schema.proofs.PlaceLaws.{block_inside, block_of_place, block_of_record}
use Rattle.records.specs.declared.Link.{Link}
use Rattle.plans.specs.declared.Word.{Word}
use Rattle.plans.specs.declared.Head.{Head}
use Rattle.plans.specs.declared.Head.TheVariants.{Nothing, Body, Master, Variable, Stranger, Synonym}
use Rattle.plans.specs.declared.Plan.{Plan}
use Rattle.plans.specs.Plan.{Store, wipe_record, blocks_sealed, seal_all}
use Rattle.plans.specs.PlanOk.{HeadOk, PlanOk, AllFit, WordsOk}
use Rattle.plans.proofs.FitLaws.{word_block}
use Rattle.plans.specs.Stores.{words_of, word_stores, head_stores, wiped_stores, plan_stores}
use Rattle.commit.specs.declared.Blocks.{Blocks}
use Rattle.commit.specs.Touched.{no_word, no_block, bare_numbers, is_new, add_new, add_all, numbers_of, block_within, AllWithin, all_sealed, seal_each, store_blocks, word_blocks, head_blocks, wiped_blocks, plan_blocks}

-- ---- the numbers that a `Blocks` holds, one after the other

length-plain : (ns : List BlockNo) → length (bare_numbers ns) ≡ length ns
unfolding bare_numbers
length-plain [] = refl
length-plain (n ∷ ns) = ap suc (length-plain ns)

plain-set : (ns : List BlockNo) (i : ℕ) (n : BlockNo) → bare_numbers (set ns i n) ≡ set (bare_numbers ns) i n.0
unfolding bare_numbers
plain-set [] i n = refl
plain-set (m ∷ ns) zero n = refl
plain-set (m ∷ ns) (suc i) n = ap (λ (ks : List ℕ). m.0 ∷ ks) (plain-set ns i n)

pub bare-take : (n : ℕ) (ns : List BlockNo) → bare_numbers (take n ns) ≡ take n (bare_numbers ns)
unfolding bare_numbers
bare-take zero ns = refl
bare-take (suc n) [] = refl
bare-take (suc n) (m ∷ ns) = ap (λ (ks : List ℕ). m.0 ∷ ks) (bare-take n ns)

-- a test of each block is a test of each number
pub list_all-bare : (f : ℕ → Bool) (ns : List BlockNo) → list_all (λ m. f m.0) ns ≡ every f (bare_numbers ns)
unfolding bare_numbers every
list_all-bare f [] = refl
list_all-bare f (n ∷ ns) = ap (λ (t : Bool). f n.0 && t) (list_all-bare f ns)

-- a block is among them, or its number is new to theirs
pub list_any-bare : (k : ℕ) (ns : List BlockNo) → list_any (λ m. eqb m.0 k) ns ≡ not (is_new k (bare_numbers ns))
unfolding bare_numbers every
list_any-bare k [] = refl
list_any-bare k (n ∷ ns) = rw (list_any-bare k ns) (go (eqb n.0 k))
  where
    go : (t : Bool) → (t || not (is_new k (bare_numbers ns))) ≡ not (not t && is_new k (bare_numbers ns))
    go true = refl
    go false = refl

-- the blocks from i on
pub blocks_step : (ns : List BlockNo) (i : ℕ) → i < length ns → drop i ns ≡ get_or ns i no_block ∷ drop (i + 1) ns
blocks_step ns i h = rw add-one (drop-cons ns i no_block h)

pub block_within_lem : (ns : List BlockNo) (n i : ℕ) (d : BlockNo) → AllWithin n (bare_numbers ns) → i < length ns → block_at (get_or ns i d).0 + 512 ≤ n
unfolding bare_numbers every
block_within_lem [] n i d w h = absurd (omega arith)
block_within_lem (m ∷ ns) n zero d w h = leb-true (block_at m.0 + 512) n ((and-eq-true_iff (block_within n m.0) (every (block_within n) (bare_numbers ns))).0 w).0
block_within_lem (m ∷ ns) n (suc i) d w h =
    block_within_lem ns n i d ((and-eq-true_iff (block_within n m.0) (every (block_within n) (bare_numbers ns))).0 w).1 (omega arith)

pub seal-turn : (k : Check) (b : List ℕ) (ns : List BlockNo) (i : ℕ) → i < length ns
    → seal_each k b (bare_numbers (drop i ns)) ≡ seal_each k (seal k b (get_or ns i no_block).0) (bare_numbers (drop (i + 1) ns))
unfolding seal_each bare_numbers
seal-turn k b ns i h = rw (blocks_step ns i h) refl

pub seal_end : (k : Check) (b : List ℕ) (ns : List BlockNo) (i : ℕ) → length ns ≤ i → seal_each k b (bare_numbers (drop i ns)) ≡ b
unfolding seal_each bare_numbers
seal_end k b ns i h = rw (drop_of_length-le ns {i = i} h) refl

-- a new number stands behind the others, and one of them changes nothing
pub block_added : (s : Blocks) (n : BlockNo) → length s.numbers ≡ 12 → s.count < 12 → is_new n.0 (numbers_of s) ≡ true
    → take (s.count + 1) (bare_numbers (set s.numbers s.count n)) ≡ add_new (numbers_of s) n.0
block_added s n w l h = rw (h, plain-set, add-one s.count) (take-suc-set (bare_numbers s.numbers) s.count n.0 (omega (arith, length-plain s.numbers)))

pub block_known : (s : Blocks) (n : ℕ) → is_new n (numbers_of s) ≡ false → numbers_of s ≡ add_new (numbers_of s) n
block_known s n h = rw h refl

-- ---- words, one after the other

pub words_step : (ws : List Word) (i : ℕ) → i < length ws → drop i ws ≡ get_or ws i no_word ∷ drop (i + 1) ws
words_step ws i h = rw add-one (drop-cons ws i no_word h)

pub word_block_turn : (ws : List Word) (ks : List ℕ) (i : ℕ) → i < length ws
    → add_all ks (word_blocks (drop i ws)) ≡ add_all (add_new ks (block_with (get_or ws i no_word).at)) (word_blocks (drop (i + 1) ws))
unfolding add_all word_blocks
word_block_turn ws ks i h = rw (words_step ws i h) refl

pub word_blocks_end : (ws : List Word) (ks : List ℕ) (i : ℕ) → length ws ≤ i → add_all ks (word_blocks (drop i ws)) ≡ ks
unfolding add_all word_blocks
word_blocks_end ws ks i h = rw (drop_of_length-le ws {i = i} h) refl

-- ---- the blocks of stores

pub blocks_sealed-blocks : (k : Check) (b : List ℕ) (xs : List Store) → blocks_sealed k b xs ≡ all_sealed k b (store_blocks xs)
unfolding blocks_sealed store_blocks every
blocks_sealed-blocks k b [] = refl
blocks_sealed-blocks k b (x ∷ xs) = rw (blocks_sealed-blocks k b xs) refl

pub seal_all-blocks : (k : Check) (b : List ℕ) (xs : List Store) → seal_all k b xs ≡ seal_each k b (store_blocks xs)
unfolding seal_all seal_each store_blocks
seal_all-blocks k b [] = refl
seal_all-blocks k b (x ∷ xs) = seal_all-blocks k (seal k b _) xs

store_blocks_append : (xs ys : List Store) → store_blocks (xs ++ ys) ≡ store_blocks xs ++ store_blocks ys
unfolding store_blocks
store_blocks_append [] ys = refl
store_blocks_append (x ∷ xs) ys = rw (store_blocks_append xs ys) refl

-- a word goes into its record's block
word_blocks_lem : (ws : List Word) → WordsOk ws → store_blocks (word_stores ws) ≡ word_blocks ws
unfolding store_blocks word_stores word_blocks
word_blocks_lem [] k = refl
word_blocks_lem (w ∷ ws) k = rw (word_block w k.0, word_blocks_lem ws k.1) refl

module _ (b : List ℕ) (e : Entry) (area : List ℕ) {n : ℕ} (ok : LiesIn e n) where
  head_blocks_lem : (h : Head) (r q : ℕ) (links : List Link) → store_blocks (head_stores h b e area r q links) ≡ head_blocks h e r q
  unfolding store_blocks
  head_blocks_lem Nothing r q links = refl
  head_blocks_lem Body r q links = rw (block_of_place r e.body ok (omega (arith, ok.sized))) refl
  head_blocks_lem Master r q links = rw (block_of_record r ok) refl
  head_blocks_lem Variable r q links = rw (block_of_record r ok) refl
  head_blocks_lem Stranger r q links = rw (block_of_record q ok, block_of_record r ok) refl
  head_blocks_lem Synonym r q links = rw (block_of_record r ok) refl

  wiped-blocks : (r : ℕ) → store_blocks (wiped_stores e r) ≡ wiped_blocks e r
  unfolding store_blocks
  wiped-blocks r = go (eqb r 0)
    where
      go : (t : Bool) → store_blocks (cond t [] (wipe_record e r ∷ [])) ≡ cond t [] (block_of e r ∷ [])
      go true = refl
      go false = rw (block_of_record r ok) refl

  -- the blocks of a plan's stores do not depend on what is stored
  pub plan_blocks_lem : (p : Plan) → PlanOk n e p → store_blocks (plan_stores b e area p) ≡ plan_blocks e p
  unfolding plan_stores plan_blocks
  plan_blocks_lem p k =
      let hs = head_stores p.head b e area p.target.0 p.other.0 p.links in
      let ws = word_stores (words_of p) in
      let h : store_blocks hs ≡ head_blocks p.head e p.target.0 p.other.0 = head_blocks_lem p.head p.target.0 p.other.0 p.links in
      store_blocks_append hs (ws ++ wiped_stores e p.wiped)
      ∙ (rw (store_blocks_append ws (wiped_stores e p.wiped), h, word_blocks_lem (words_of p) k.records, wiped-blocks p.wiped) refl)

-- ---- a plan's blocks lie within the data base

words-within : (n : ℕ) (ws : List Word) → AllFit n (word_stores ws) → WordsOk ws → AllWithin n (word_blocks ws)
unfolding word_stores word_blocks every
words-within n [] h k = refl
words-within n (w ∷ ws) h k = rw (le-leb _ _ (rw (word_block w k.0) at h.0.whole)) (words-within n ws h.1 k.1)

module _ (n : ℕ) (e : Entry) (ok : LiesIn e n) where
  inside : (r : ℕ) → InSet e r → block_within n (block_of e r) ≡ true
  inside r h = le-leb _ _ (block_inside r ok h)

  head_within : (h : Head) (r q : ℕ) → HeadOk h e r q → AllWithin n (head_blocks h e r q)
  unfolding every
  head_within Nothing r q k = refl
  head_within Body r q k = rw (inside r k) refl
  head_within Master r q k = rw (inside r k.0) refl
  head_within Variable r q k = rw (inside r k.0) refl
  head_within Stranger r q k = rw (inside q k.1, inside r k.0) refl
  head_within Synonym r q k = rw (inside r k.0) refl

  wiped-within : (r : ℕ) → r ≤ e.records → AllWithin n (wiped_blocks e r)
  unfolding every
  wiped-within r h = go (eqb r 0) refl
    where
      go : (t : Bool) → eqb r 0 ≡ t → AllWithin n (cond t [] (block_of e r ∷ []))
      go true k = refl
      go false k = rw (inside r (omega (arith, eqb-false r 0 k), h)) refl

  pub plan_within : (p : Plan) → PlanOk n e p → AllWithin n (plan_blocks e p)
  unfolding plan_blocks
  plan_within p k =
      let f = block_within n in
      let hs = head_blocks p.head e p.target.0 p.other.0 in
      let ws = word_blocks (words_of p) in
      let h : every f hs ≡ true = head_within p.head p.target.0 p.other.0 k.head in
      let w : every f ws ≡ true = words-within n (words_of p) k.words k.records in
      every_append f hs (ws ++ wiped_blocks e p.wiped) ∙ (rw (every_append f ws (wiped_blocks e p.wiped), h, w) (wiped-within p.wiped k.wiped))

-- ---- the heads that store into the target alone

abbrev pub OneRecord : Head → Type 0
OneRecord h = (h ≡ Body) ⊎ ((h ≡ Master) ⊎ ((h ≡ Variable) ⊎ (h ≡ Synonym)))

module _ (e : Entry) (r q : ℕ) where
  pub one-in_set : (h : Head) → OneRecord h → HeadOk h e r q → InSet e r
  one-in_set Nothing o k = ⊎_elim (λ x. cc) (λ y. ⊎_elim (λ x. cc) (λ z. ⊎_elim (λ x. cc) (λ x. cc) z) y) o
  one-in_set Body o k = k
  one-in_set Master o k = k.0
  one-in_set Variable o k = k.0
  one-in_set Stranger o k = k.0
  one-in_set Synonym o k = k.0

  pub one-block_of : (h : Head) → OneRecord h → head_blocks h e r q ≡ block_of e r ∷ []
  one-block_of h o = ⊎_elim (λ x. rw x refl) (λ y. ⊎_elim (λ x. rw x refl) (λ z. ⊎_elim (λ x. rw x refl) (λ x. rw x refl) z) y) o
