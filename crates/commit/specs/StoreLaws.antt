-- What a plan's stores leave, one part behind the other, and a record that is stored whole with one word of it changed.
use Rattle.std.specs.Prelude.{ℕ, zero, suc, ◌+◌, ◌≤◌, ◌<◌, ◌≡◌, List, [], ◌∷◌, ◌++◌, length, get_or, drop}
use Rattle.std.proofs.Math.Path.{refl}
use Rattle.std.proofs.Common.{sym, ap, ◌∙◌, arith, drop_of_length-le}
use borrow.Rule.Slice.PartMut.{put_mid}
use Rattle.octets.specs.Octets.{run, splice, word_bytes, set_word}
use Rattle.octets.specs.SpliceLaws.{length-splice, run_splice, splice-part, splice-splice, splice-whole}
use Rattle.schema.specs.declared.Entry.{Entry}
use Rattle.plans.specs.declared.Word.{Word}
use Rattle.plans.specs.declared.Plan.{Plan}
use Rattle.plans.specs.Plan.{Store, store_all}
use Rattle.plans.specs.PlanOk.{AllFit, WordsOk}
use Rattle.plans.proofs.FitLaws.{word_inside}
use Rattle.plans.specs.Stores.{words_of, word_stores, head_stores, wiped_stores, plan_stores}
use Rattle.commit.specs.Touched.{no_word}
use Rattle.commit.specs.TouchedLaws.{words_step}

store_all_append : (b : List ℕ) (xs ys : List Store) → store_all b (xs ++ ys) ≡ store_all (store_all b xs) ys
unfolding store_all
store_all_append b [] ys = refl
store_all_append b (x ∷ xs) ys = store_all_append (splice b x.at x.bytes) xs ys

-- a run stored within one that has been stored
splice_inner : (b : List ℕ) (a : ℕ) (ys : List ℕ) (j : ℕ) (zs : List ℕ) → j + length zs ≤ length ys → a + length ys ≤ length b
    → splice (splice b a ys) (a + j) zs ≡ splice b a (splice ys j zs)
splice_inner b a ys j zs h k =
    let x = splice b a ys in
    let w = splice ys j zs in
    let l : length w ≡ length ys = length-splice ys j zs in
    let r : run x a (length ys) ≡ ys = run_splice b a ys k in
    let z : a + 0 ≡ a = omega arith in
    let p : put_mid a (length ys) x w ≡ splice x (a + j) zs = rw r at (splice-part a (length ys) x j zs h) in
    let q : put_mid a (length ys) x w ≡ splice x a w = rw (r, splice-whole ys w l, z) at (splice-part a (length ys) x 0 w (omega arith)) in
    sym p ∙ q ∙ splice-splice b a ys w (omega arith)

pub set_word_inner : (b : List ℕ) (a : ℕ) (ys : List ℕ) (j v : ℕ) → j + 4 ≤ length ys → a + length ys ≤ length b
    → set_word (splice b a ys) (a + j) v ≡ splice b a (set_word ys j v)
unfolding set_word
set_word_inner b a ys j v h k = splice_inner b a ys j (word_bytes v) h k

-- ---- words, one after the other

pub word_in_base : (n : ℕ) (ws : List Word) (i : ℕ) → AllFit n (word_stores ws) → WordsOk ws → i < length ws
    → ((get_or ws i no_word).offset + 4 ≤ (get_or ws i no_word).size) × ((get_or ws i no_word).at + (get_or ws i no_word).size ≤ n)
unfolding word_stores
word_in_base n [] i f k h = absurd (omega arith)
word_in_base n (w ∷ ws) zero f k h = (k.0.field, word_inside w k.0 f.0)
word_in_base n (w ∷ ws) (suc i) f k h = word_in_base n ws i f.1 k.1 (omega arith)

pub store-word_turn : (ws : List Word) (b : List ℕ) (i : ℕ) → i < length ws
    → store_all b (word_stores (drop i ws)) ≡ store_all (set_word b ((get_or ws i no_word).at + (get_or ws i no_word).offset) (get_or ws i no_word).value) (word_stores (drop (i + 1) ws))
unfolding store_all word_stores set_word
store-word_turn ws b i h = rw (words_step ws i h) refl

pub store-words_end : (ws : List Word) (b : List ℕ) (i : ℕ) → length ws ≤ i → store_all b (word_stores (drop i ws)) ≡ b
unfolding store_all word_stores
store-words_end ws b i h = rw (drop_of_length-le ws {i = i} h) refl

-- the three parts of a plan's stores
pub plan_stored : (b : List ℕ) (e : Entry) (area : List ℕ) (p : Plan) (x y z : List ℕ)
    → x ≡ store_all b (head_stores p.head b e area p.target.0 p.other.0 p.links)
    → y ≡ store_all x (word_stores (words_of p))
    → z ≡ store_all y (wiped_stores e p.wiped)
    → z ≡ store_all b (plan_stores b e area p)
unfolding plan_stores
plan_stored b e area p x y z h w r =
    let hs = head_stores p.head b e area p.target.0 p.other.0 p.links in
    let ws = word_stores (words_of p) in
    let rs = wiped_stores e p.wiped in
    r
    ∙ ap (λ (t : List ℕ). store_all t rs) (w ∙ ap (λ (t : List ℕ). store_all t ws) h)
    ∙ sym (store_all_append b hs (ws ++ rs) ∙ store_all_append (store_all b hs) ws rs)
