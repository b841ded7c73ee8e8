-- A plan that grows by the words of one path after the other.
use Rattle.std.specs.Prelude.{ℕ, ◌+◌, ◌*◌, ◌≤◌, ◌<◌, ◌≡◌, refl, List, [], ◌∷◌, ◌++◌, get_or, take, replicate}
use Rattle.std.proofs.Common.{sym, ap, ◌∙◌, append_assoc, append-nil, arith, get_or-take, drop-set-lt}
use Rattle.octets.specs.Below.{concat_below}
use Rattle.octets.specs.BelowLaws.{drop_later, get_d_upto, concat_below-turn, concat_below-same}
use Rattle.std.proofs.lemmas.List.{get_or-replicate}
use Rattle.terms.specs.declared.RecordNo.{RecordNo}
use Rattle.schema.specs.declared.Entry.{Entry}
use Rattle.schema.specs.declared.Part.{Part}
use Rattle.records.specs.declared.Link.{Link}
use Rattle.records.specs.Areas.{no_link}
use Rattle.plans.specs.declared.Word.{Word}
use Rattle.plans.specs.declared.Head.{Head}
use Rattle.plans.specs.declared.Plan.{Plan}
use Rattle.plans.specs.Made.{head_plan, with_word, with_wiped}
use Rattle.plans.specs.Stores.{words_of}
use Rattle.point_plans.specs.Paths.{both, both_on, words_on, words_below}
use Rattle.point_plans.specs.Plans.{Longer, Built}

-- ---- a longer plan

pub longer_none : (p : Plan) (n : ℕ) (ws : List Word) → p.count ≡ n → ws ≡ [] → Longer p p n ws
longer_none p n ws h e =
    record { head = refl; target = refl; other = refl; links = refl; wiped = refl; count = h; words = sym (append-nil (words_of p)) ∙ ap (λ (xs : List Word). words_of p ++ xs) (sym e); rest = refl }

pub longer_more : (p q r : Plan) (n m : ℕ) (us vs ws : List Word) → n ≤ m → Longer p q n us → Longer q r m vs → ws ≡ us ++ vs → Longer p r m ws
longer_more p q r n m us vs ws h a b e =
    record {
      head = b.head ∙ a.head;
      target = b.target ∙ a.target;
      other = b.other ∙ a.other;
      links = b.links ∙ a.links;
      wiped = b.wiped ∙ a.wiped;
      count = b.count;
      words = b.words ∙ ap (λ (xs : List Word). xs ++ vs) a.words ∙ append_assoc (words_of p) us vs ∙ ap (λ (xs : List Word). words_of p ++ xs) (sym e);
      rest = b.rest ∙ drop_later q.words p.words n m h a.rest;
    }

-- what `with_word` says of its result
pub longer_word : (p r : Plan) (w : Word) → r ≡ with_word p w → words_of r ≡ words_of p ++ (w ∷ []) → Longer p r (p.count + 1) (w ∷ [])
longer_word p r w e f =
    record { head = rw e refl; target = rw e refl; other = rw e refl; links = rw e refl; wiped = rw e refl; count = rw e refl; words = f; rest = rw e (drop-set-lt (p.count + 1) p.words p.count w (omega arith)) }

-- the two words of a path
pub two_words : (p q r : Plan) (u v : Word) (ws : List Word) → Longer p q (p.count + 1) (u ∷ []) → Longer q r (q.count + 1) (v ∷ []) → u ∷ v ∷ [] ≡ ws
    → Longer p r (p.count + 2) ws
two_words p q r u v ws a b e =
    let l = longer_more p q r (p.count + 1) (q.count + 1) (u ∷ []) (v ∷ []) ws (omega (arith, a.count)) a b (sym e) in
    let n : q.count + 1 ≡ p.count + 2 = omega (arith, a.count) in
    rw n at l

-- a turn: path k's words behind those of the paths before it
pub longer_turn : (p q r : Plan) (f : ℕ → List Word) (k : ℕ) (ws : List Word) → Longer p q (2 * k) (concat_below f k) → Longer q r (q.count + 2) ws → ws ≡ f k
    → Longer p r (2 * (k + 1)) (concat_below f (k + 1))
longer_turn p q r f k ws a b e =
    let l = longer_more p q r (2 * k) (q.count + 2) (concat_below f k) ws (concat_below f (k + 1)) (omega (arith, a.count)) a b (concat_below-turn f k ∙ ap (λ (xs : List Word). concat_below f k ++ xs) (sym e)) in
    let n : q.count + 2 ≡ 2 * (k + 1) = omega (arith, a.count) in
    rw n at l

-- ---- what the rest of a call makes

-- only the paths of the set count
pub words_same : (e : Entry) (owners : List Part) (ls ms vs ws : List Link) (n : ℕ) → ((k : ℕ) → k < n → get_or ls k no_link ≡ get_or ms k no_link)
    → ((k : ℕ) → k < n → get_or vs k no_link ≡ get_or ws k no_link) → words_below e owners ls vs n ≡ words_below e owners ms ws n
words_same e owners ls ms vs ws n p q = concat_below-same (words_on e owners ls vs) (words_on e owners ms ws) n (λ k l. rw (p k l, q k l))

pub both-same : (e : Entry) (r : ℕ) → e.count ≤ 4 → (k : ℕ) → k < e.count → get_or (replicate 4 (both r)) k no_link ≡ get_or (both_on e r) k no_link
both-same e r h k l = get_or-replicate 4 k (both r) no_link (omega arith) ∙ sym (get_d_upto (λ i. both r) e.count k no_link l)

module _ (e : Entry) (owners : List Part) (ls vs ws : List Link) (h : Head) (q : RecordNo) where
  -- what `of` and `with_sides` make
  pub built : (p r : Plan) → p ≡ head_plan h q (record { 0 = 0 }) ls → Longer p r (2 * e.count) (words_below e owners ls vs e.count)
      → ((k : ℕ) → k < e.count → get_or vs k no_link ≡ get_or ws k no_link) → Built e owners (take e.count ls) ws h q.0 0 r
  built p r m l same =
      record {
        head = l.head ∙ (rw m refl);
        target = rw (l.target, m) refl;
        other = rw (l.other, m) refl;
        linked = rw (l.links, m) refl;
        wiped = l.wiped ∙ (rw m refl);
        count = l.count;
        words = l.words ∙ (rw m (words_same e owners ls (take e.count ls) vs ws e.count (λ k n. sym (get_or-take e.count ls k no_link n)) same));
      }

  -- and `with_wiped`
  pub built-wiped : (p r : Plan) (w v : ℕ) → Built e owners ls ws h q.0 w p → r ≡ with_wiped p v → Built e owners ls ws h q.0 v r
  built-wiped p r w v l m =
      rw m (record { head = l.head; target = l.target; other = l.other; linked = l.linked; wiped = refl; count = l.count; words = l.words })

-- the same of neighbours and a record that were read
pub linked-same : (e : Entry) (owners : List Part) {ls ms : List Link} {h : Head} {q r w : ℕ} {p : Plan} → ls ≡ ms → q ≡ r → Built e owners ls (both_on e q) h q w p → Built e owners ms (both_on e r) h r w p
linked-same e owners f g b = rw (← f, ← g) b

pub unlinked-same : (e : Entry) (owners : List Part) {ls ms : List Link} {h : Head} {q w : ℕ} {p : Plan} → ls ≡ ms → Built e owners ls ls h q w p → Built e owners ms ms h q w p
unlinked-same e owners f b = rw (← f) b
