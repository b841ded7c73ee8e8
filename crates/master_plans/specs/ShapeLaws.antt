-- How a plan of ADD-M or DEL-M grows, what it stores, and that it can be committed.
use Rattle.std.specs.Prelude.{ℕ, ◌+◌, ◌≤◌, ◌≡◌, refl, Bool, true, false, cond, List, [], ◌∷◌, ◌++◌, eqb}
use Rattle.std.proofs.Common.{sym, ap, ◌∙◌, append-nil, arith, eq-eqb, ne_eqb}
use Rattle.std.proofs.lemmas.Bool.{eqb-false}
use Rattle.octets.specs.Octets.{word_bytes}
use Rattle.terms.specs.declared.RecordNo.{RecordNo}
use Rattle.schema.specs.declared.Entry.{Entry}
use Rattle.schema.specs.declared.Part.{Part}
use Rattle.schema.specs.Place.{LiesIn, part_of}
use Rattle.plans.specs.declared.Head.{Head}
use Rattle.plans.specs.declared.Word.{Word}
use Rattle.plans.specs.declared.Plan.{Plan}
use Rattle.plans.specs.Plan.{Store, store_word}
use Rattle.plans.specs.PlanOk.{HeadOk, PlanOk, AllFit, WordOk, WordsOk}
use Rattle.plans.proofs.FitLaws.{run_fits, word_ok}
use Rattle.plans.specs.Made.{with_wiped}
use Rattle.plans.specs.Stores.{words_of, word_in, word_store, word_stores, head_stores, wiped_stores, plan_stores}
use Rattle.master_plans.specs.Shape.{root_links, root_side, Shaped, OneLonger}

-- ---- words

word_stores_more : (ws : List Word) (w : Word) → word_stores (ws ++ (w ∷ [])) ≡ word_stores ws ++ (word_store w ∷ [])
unfolding word_stores
word_stores_more [] w = refl
word_stores_more (x ∷ ws) w = ap (λ (l : List Store). word_store x ∷ l) (word_stores_more ws w)

words-ok_more : (ws : List Word) (w : Word) → WordsOk ws → WordOk w → WordsOk (ws ++ (w ∷ []))
words-ok_more [] w k h = (h, tt)
words-ok_more (x ∷ ws) w k h = (k.0, words-ok_more ws w k.1 h)

-- ---- a plan grows

-- a pointer that is 0 has no side
pub one_longer_none : (p : Plan) (e : Entry) (r o v : ℕ) → r ≡ 0 → OneLonger p p (root_side e r o v)
one_longer_none p e r o v h =
    rw (eq-eqb r 0 h)
    (record {
      head = refl;
      target = refl;
      other = refl;
      links = refl;
      few = omega arith;
      words = sym (append-nil (word_stores (words_of p)));
      records = λ k. k;
      wiped = refl;
    })

-- one that is not 0 has a word in its record
module _ (p q : Plan) (e : Entry) (r o v : ℕ) {w : Word} {part : Part} (lies : part ≡ part_of e r) (made : w ≡ word_in part o v) (h : words_of q ≡ words_of p ++ (w ∷ [])) where
  pub side-word : (r ≡ 0 → ⊥) → word_stores (words_of q) ≡ word_stores (words_of p) ++ root_side e r o v
  side-word l = rw (ne_eqb r 0 l, h, made, lies) (word_stores_more (words_of p) (word_in (part_of e r) o v))

  pub side_record : {n : ℕ} → LiesIn e n → o + 4 ≤ e.size → WordsOk (words_of p) → WordsOk (words_of q)
  side_record ok k g = rw (h, made, lies) (words-ok_more (words_of p) (word_in (part_of e r) o v) g (word_ok r o v ok k))

-- a word behind the others, and a record that is wiped in the end
pub shaped_longer : {p q : Plan} {n : ℕ} {hd : Head} {r o prior : ℕ} {xs ys : List Store} {w : ℕ} → Shaped p n hd r o prior xs w → OneLonger p q ys
    → Shaped q (n + 1) hd r o prior (xs ++ ys) w
shaped_longer {ys = ys} s l =
    record {
      head = l.head ∙ s.head;
      target = ap (λ (x : RecordNo). x.0) l.target ∙ s.target;
      other = ap (λ (x : RecordNo). x.0) l.other ∙ s.other;
      links = l.links ∙ s.links;
      few = omega arith;
      words = l.words ∙ ap (λ (x : List Store). x ++ ys) s.words;
      records = l.records s.records;
      wiped = l.wiped ∙ s.wiped;
    }

pub shaped_wiped : {p q : Plan} {n : ℕ} {hd : Head} {r o prior : ℕ} {xs : List Store} {v w : ℕ} → Shaped p n hd r o prior xs v → q ≡ with_wiped p w
    → Shaped q n hd r o prior xs w
shaped_wiped s l =
    rw l (record { head = s.head; target = s.target; other = s.other; links = s.links; few = s.few; words = s.words; records = s.records; wiped = refl })

-- ---- what it stores

pub shaped_stores : {p : Plan} {n : ℕ} {hd : Head} {r o prior : ℕ} {xs : List Store} {w : ℕ} (b : List ℕ) (e : Entry) (area : List ℕ) → Shaped p n hd r o prior xs w
    → plan_stores b e area p ≡ head_stores hd b e area r o (root_links prior) ++ (xs ++ wiped_stores e w)
unfolding plan_stores
shaped_stores b e area s = rw (s.head, s.target, s.other, s.links, s.words, s.wiped) refl

-- ---- it can be committed

pub fit_append : (n : ℕ) (xs ys : List Store) → AllFit n xs → AllFit n ys → AllFit n (xs ++ ys)
fit_append n [] ys f g = g
fit_append n (x ∷ xs) ys f g = (f.0, fit_append n xs ys f.1 g)

pub fit_side : {e : Entry} {n : ℕ} (r o v : ℕ) → LiesIn e n → r ≤ e.records → o + 4 ≤ e.size → AllFit n (root_side e r o v)
fit_side {e} {n} r o v ok l h = go (eqb r 0) refl
  where
    go : (t : Bool) → eqb r 0 ≡ t → AllFit n (cond t [] (store_word e r o v ∷ []))
    go true q = tt
    go false q = let k = eqb-false r 0 q in (run_fits r o (word_bytes v) ok (omega arith, l) h, tt)

pub shaped_ok : {p : Plan} {n m : ℕ} {hd : Head} {r o prior : ℕ} {xs : List Store} {w : ℕ} {e : Entry} → Shaped p n hd r o prior xs w → n ≤ 8 → HeadOk hd e r o → AllFit m xs → w ≤ e.records
    → PlanOk m e p
shaped_ok s f h x l =
    record {
      few = omega arith;
      head = rw (s.head, s.target, s.other) h;
      words = rw s.words x;
      records = s.records;
      wiped = omega arith;
    }
