-- Where the arrays hold what they should (each path's part is the record of its master), what is said of the arrays is what Points says of
-- the paths: the damage, and the stores of both sides of every path. Those stores fit.
use Rattle.std.specs.Prelude.{ℕ, zero, suc, ◌+◌, ◌≤◌, ◌<◌, ◌≡◌, refl, Bool, true, false, cond, List, [], ◌∷◌, ◌++◌, eqb, length, get_or, take}
use Rattle.std.proofs.Math.Path.{ap}
use Rattle.std.proofs.Common.{◌∙◌, arith}
use Rattle.std.proofs.Math.Bool.{not}
use Rattle.std.proofs.lemmas.Bool.{eqb-false}
use Rattle.octets.specs.Octets.{word_at, word_bytes}
use Rattle.octets.specs.Below.{all_below, upto, concat_below}
use Rattle.octets.specs.BelowLaws.{all_below-same, concat_below-same}
use Rattle.terms.specs.declared.RecordNo.{RecordNo}
use Rattle.terms.specs.declared.Status.{Status}
use Rattle.terms.specs.declared.Status.TheVariants.{Done}
use Rattle.terms.specs.Status.{is_done}
use Rattle.schema.specs.declared.Path.{Path}
use Rattle.schema.specs.declared.Entry.{Entry}
use Rattle.schema.specs.declared.Part.{Part}
use Rattle.schema.specs.declared.Schema.{Schema}
use Rattle.schema.specs.Decode.{path_of, masters_on}
use Rattle.schema.specs.Place.{InSet, LiesIn, part_of}
use Rattle.schema.proofs.PlaceLaws.{place_inside}
use Rattle.records.specs.declared.Link.{Link}
use Rattle.records.specs.Records.{last_on}
use Rattle.records.specs.Areas.{no_link}
use Rattle.plans.specs.declared.Word.{Word}
use Rattle.plans.specs.Plan.{Store}
use Rattle.plans.specs.PlanOk.{Fits, AllFit, WordOk, WordsOk}
use Rattle.plans.proofs.FitLaws.{run_fits, word_ok}
use Rattle.plans.specs.Stores.{word_in, word_store, word_stores}
use Rattle.masters.specs.declared.Found.TheVariants.{At}
use Rattle.masters.specs.Find.{find, record_found}
use Rattle.masters.proofs.FindLaws.{find_at}
use Rattle.points.specs.Chains.{prior_side, next_side}
use Rattle.points.specs.Points.{master_on, damaged_on}
use Rattle.point_plans.specs.Rest.{other_masters}
use Rattle.point_plans.specs.Paths.{no_part, owner_on, master_at, key_at, clean_at, damaged, side_words, words_on, words_below}
use Rattle.point_plans.specs.Within.{OwnersIn, LinkIn}
use Rattle.records.specs.InBase.{masters_kept, MastersOf, PointsIn, MastersIn}
use Rattle.point_plans.specs.PathLaws.{HasMaster, others-held, filled_at}
use Rattle.point_plans.specs.DamageLaws.{last_from_lem, uneven_from}

-- ---- stores made path by path

pub word_stores_append : (xs ys : List Word) → word_stores (xs ++ ys) ≡ word_stores xs ++ word_stores ys
unfolding word_stores
word_stores_append [] ys = refl
word_stores_append (x ∷ xs) ys = rw (word_stores_append xs ys)

pub word_stores-below : (f : ℕ → List Word) (n : ℕ) → word_stores (concat_below f n) ≡ concat_below (λ k. word_stores (f k)) n
unfolding word_stores concat_below
word_stores-below f zero = refl
word_stores-below f (suc n) = word_stores_append (concat_below f n) (f n) ∙ ap (λ (xs : List Store). xs ++ word_stores (f n)) (word_stores-below f n)

pub fits_append : (n : ℕ) (xs ys : List Store) → AllFit n xs → AllFit n ys → AllFit n (xs ++ ys)
fits_append n [] ys h g = g
fits_append n (x ∷ xs) ys h g = (h.0, fits_append n xs ys h.1 g)

pub fits_below : (n : ℕ) (f : ℕ → List Store) (m : ℕ) → ((k : ℕ) → k < m → AllFit n (f k)) → AllFit n (concat_below f m)
unfolding concat_below
fits_below n f zero h = tt
fits_below n f (suc m) h = fits_append n (concat_below f m) (f m) (fits_below n f m (λ k l. h k (omega arith))) (h m (omega arith))

words-ok_append : (us ws : List Word) → WordsOk us → WordsOk ws → WordsOk (us ++ ws)
words-ok_append [] ws h g = g
words-ok_append (u ∷ us) ws h g = (h.0, words-ok_append us ws h.1 g)

words-ok-below : (f : ℕ → List Word) (m : ℕ) → ((k : ℕ) → k < m → WordsOk (f k)) → WordsOk (concat_below f m)
unfolding concat_below
words-ok-below f zero h = tt
words-ok-below f (suc m) h = words-ok_append (concat_below f m) (f m) (words-ok-below f m (λ k l. h k (omega arith))) (h m (omega arith))

fits-cond : (n : ℕ) (z : Bool) (x y : Store) → (z ≡ true → Fits n x) → (z ≡ false → Fits n y) → Fits n (cond z x y)
fits-cond n true x y h g = h refl
fits-cond n false x y h g = g refl

-- ---- one path

-- words of one record or of another
two_stores : (s t : Bool) (u v w z : Word) → word_stores (cond s u v ∷ cond t w z ∷ []) ≡ cond s (word_store u) (word_store v) ∷ cond t (word_store w) (word_store z) ∷ []
unfolding word_stores
two_stores true true u v w z = refl
two_stores true false u v w z = refl
two_stores false true u v w z = refl
two_stores false false u v w z = refl

ok-cond : (z : Bool) (u w : Word) → WordOk u → WordOk w → WordOk (cond z u w)
ok-cond true u w h g = h
ok-cond false u w h g = g

module _ (e : Entry) (p : Path) (x : Entry) (m : ℕ) (l v : Link) {o : Part} (h : o ≡ part_of x m) where
  -- the two words of a path are its two sides, where the part is the record m of the masters x
  pub two_sides : word_stores (side_words e p o l v) ≡ prior_side e p x m l.prior v.next ∷ next_side e p x m l.next v.prior ∷ []
  two_sides =
      rw h
      (two_stores (eqb l.prior 0) (eqb l.next 0) (word_in (part_of x m) p.link v.next) (word_in (part_of e l.prior) (p.at + p.len + 4) v.next)
      (word_in (part_of x m) (p.link + 4) v.prior) (word_in (part_of e l.next) (p.at + p.len) v.prior))

  -- they lie in their records
  pub two_ok : {n k : ℕ} → LiesIn e n → LiesIn x k → p.at + p.len + 8 ≤ e.size → p.link + 8 ≤ x.size → WordsOk (side_words e p o l v)
  two_ok i j a b =
      rw h (
        ok-cond (eqb l.prior 0) _ _ (word_ok m p.link v.next j (omega arith)) (word_ok l.prior (p.at + p.len + 4) v.next i (omega arith)),
        (ok-cond (eqb l.next 0) _ _ (word_ok m (p.link + 4) v.prior j (omega arith)) (word_ok l.next (p.at + p.len) v.prior i (omega arith)), tt),
      )

-- ---- every path

-- both sides of path k, for a record with these keys: `f` are its neighbours, `g` what the sides become
abbrev pub sides_on : List ℕ → Schema → Entry → (ℕ → List ℕ) → (ℕ → Link) → (ℕ → Link) → ℕ → List Store
sides_on b t e key f g k =
    prior_side e (path_of e k) (masters_on t e k) (master_on b t e k (key k)) (f k).prior (g k).next
    ∷ next_side e (path_of e k) (masters_on t e k) (master_on b t e k (key k)) (f k).next (g k).prior
    ∷ []

-- every path's master is there, among the path's masters `x`, and `owners` are their records
pub record Known (b : List ℕ) (x : ℕ → Entry) (e : Entry) (key : ℕ → List ℕ) (owners : List Part) : Type 0 where
  pub points : PointsIn e (length b)
  pub masters : (k : ℕ) → k < e.count → MastersIn (x k) (path_of e k) (length b)
  pub held : (k : ℕ) → k < e.count → HasMaster b x key k
  pub owned : (k : ℕ) → k < e.count → get_or owners k no_part ≡ owner_on b x key k

-- what the search for the other masters leaves where it refuses none: `read` are the keys as they were read
pub known_of : (b : List ℕ) (e : Entry) (masters : List Entry) (on : ℕ) (absent : Status) (read key : ℕ → List ℕ) (owners : List Part) (m : RecordNo) → PointsIn e (length b)
    → ((k : ℕ) → k < e.count → MastersIn (masters_kept masters k) (path_of e k) (length b)) → ((k : ℕ) → k < e.count → read k ≡ key k) → is_done absent ≡ false → other_masters b (masters_kept masters) on absent key e.count ≡ Done → find b (masters_kept masters on) (key on) ≡ At m
    → take e.count owners ≡ upto (owner_on b (masters_kept masters) read) e.count → Known b (masters_kept masters) e key owners
known_of b e masters on absent read key owners m points masters_in same a done named filled =
    record {
      points = points;
      masters = masters_in;
      held = others-held b (masters_kept masters) on absent key e.count m a done named;
      owned = λ k l. filled_at (owner_on b (masters_kept masters) read) owners e.count no_part filled k l ∙ (rw (same k l));
    }

-- so it is under every schema that has these masters on the paths
pub known-by-schema : (b : List ℕ) (t : Schema) (e : Entry) (masters : List Entry) (key : ℕ → List ℕ) (owners : List Part) → MastersOf t e masters
    → Known b (masters_kept masters) e key owners → Known b (masters_on t e) e key owners
known-by-schema b t e masters key owners of h =
    record {
      points = h.points;
      masters = λ k l. rw (of.same k l) at (h.masters k l);
      held = λ k l. record { master = (h.held k l).master; found = rw (of.same k l) at (h.held k l).found };
      owned = λ k l. rw (of.same k l) at (h.owned k l);
    }

module _ (b : List ℕ) (x : ℕ → Entry) (e : Entry) (key : ℕ → List ℕ) (owners : List Part) (known : Known b x e key owners) where
  abbrev m : ℕ → ℕ
  m k = record_found (find b (x k) (key k))

  owner-is : (k : ℕ) → k < e.count → get_or owners k no_part ≡ part_of (x k) (m k)
  owner-is k l = known.owned k l ∙ (rw (known.held k l).found)

  link_in : (k : ℕ) → k < e.count → (path_of e k).link + 8 ≤ (x k).size
  link_in k l = (known.masters k l).link

  master_in_lem : (k : ℕ) → k < e.count → InSet (x k) (m k)
  master_in_lem k l = rw (known.held k l).found (find_at b (x k) (key k) _ (known.held k l).found).in_set

  -- the masters' records lie in the base
  pub owners_in : OwnersIn e owners (length b)
  owners_in = record { owner = λ k l. rw (owner-is k l) (record { inside = place_inside (m k) (known.masters k l).lies (master_in_lem k l); link = link_in k l }) }

module _ (b : List ℕ) (t : Schema) (e : Entry) (key : ℕ → List ℕ) (owners : List Part) (known : Known b (masters_on t e) e key owners) where
  abbrev x : ℕ → Entry
  x k = masters_on t e k

  abbrev master : ℕ → ℕ
  master k = master_on b t e k (key k)

  owner-there : (k : ℕ) → k < e.count → get_or owners k no_part ≡ part_of (x k) (master k)
  owner-there k l = owner-is b (masters_on t e) e key owners known k l

  link-there : (k : ℕ) → k < e.count → (path_of e k).link + 8 ≤ (x k).size
  link-there k l = (known.masters k l).link

  pub last_is : (k : ℕ) → k < e.count → word_at (master_at b owners k) ((path_of e k).link + 4) ≡ last_on b (masters_on t e k) (master_on b t e k (key k)) (path_of e k)
  last_is k l = rw (owner-there k l) (last_from_lem (x k) (path_of e k) (master k) (link-there k l) b)

  -- the final 16
  pub damaged-is : (src at : List ℕ) (links : List Link) (f : ℕ → Link) → ((k : ℕ) → k < e.count → key_at src e at k ≡ key k)
      → ((k : ℕ) → k < e.count → get_or links k no_link ≡ f k) → damaged b e src at owners links ≡ not (all_below (λ k. not (damaged_on b t e k (key k) (f k))) e.count)
  unfolding damaged
  damaged-is src at links f p q =
      ap not
      (all_below-same (clean_at b e src at owners links) (λ k. not (damaged_on b t e k (key k) (f k))) e.count
      (λ k l. rw (p k l, q k l, owner-there k l, uneven_from (x k) (path_of e k) (master k) (link-there k l) b)))

  -- the stores
  pub sides-are : (links values : List Link) (f g : ℕ → Link) → ((k : ℕ) → k < e.count → get_or links k no_link ≡ f k) → ((k : ℕ) → k < e.count → get_or values k no_link ≡ g k)
      → word_stores (words_below e owners links values e.count) ≡ concat_below (sides_on b t e key f g) e.count
  sides-are links values f g p q =
      word_stores-below (words_on e owners links values) e.count
      ∙ concat_below-same (λ k. word_stores (words_on e owners links values k)) (sides_on b t e key f g) e.count
      (λ k l. rw (p k l, q k l) (two_sides e (path_of e k) (x k) (master k) (f k) (g k) (owner-there k l)))

  -- their words lie in their records
  pub sides-ok : (links values : List Link) → WordsOk (words_below e owners links values e.count)
  sides-ok links values =
      words-ok-below (words_on e owners links values) e.count
      (λ k l.
      two_ok e (path_of e k) (x k) (master k) (get_or links k no_link) (get_or values k no_link) (owner-there k l) known.points.lies (known.masters k l).lies
      (known.points.path k l).inside (link-there k l))

  -- they fit
  pub sides_fit : (f g : ℕ → Link) → ((k : ℕ) → k < e.count → LinkIn e (f k)) → AllFit (length b) (concat_below (sides_on b t e key f g) e.count)
  sides_fit f g inside =
      fits_below (length b) (sides_on b t e key f g) e.count
      (λ k l.
      let p = path_of e k in
      let s = known.masters k l in
      let o = (known.points.path k l).inside in
      let v = known.points.lies in (
        fits-cond (length b) (eqb (f k).prior 0) _ _ (λ z. run_fits (master k) p.link (word_bytes (g k).next) s.lies (master_in_lem b (masters_on t e) e key owners known k l) (omega (arith, s.link)))
            (λ z. run_fits (f k).prior (p.at + p.len + 4) (word_bytes (g k).next) v ((inside k l).prior (eqb-false _ _ z)) (omega arith)),
        (
          fits-cond (length b) (eqb (f k).next 0) _ _ (λ z. run_fits (master k) (p.link + 4) (word_bytes (g k).prior) s.lies (master_in_lem b (masters_on t e) e key owners known k l) (omega (arith, s.link)))
              (λ z. run_fits (f k).next (p.at + p.len) (word_bytes (g k).prior) v ((inside k l).next (eqb-false _ _ z)) (omega arith)),
          tt,
        ),
      ))
