-- What the plans of ADD-M and DEL-M look like, and the facts of a plan that are read on the way.
use Rattle.std.specs.Prelude.{ℕ, ◌+◌, ◌≤◌, ◌<◌, ◌≡◌, Bool, cond, not, ◌&&◌, ◌||◌, List, [], ◌∷◌, ◌++◌, eqb, length}
use Rattle.octets.specs.Below.{all_below}
use Rattle.terms.specs.declared.Status.{Status}
use Rattle.terms.specs.declared.Status.TheVariants.{Done, Damg}
use Rattle.schema.specs.declared.Entry.{Entry}
use Rattle.schema.specs.declared.Path.{Path}
use Rattle.schema.specs.Decode.{path_of}
use Rattle.records.specs.declared.Link.{Link}
use Rattle.records.specs.Areas.{no_link}
use Rattle.records.specs.Records.{root_next, root_prior, first_on, last_on}
use Rattle.plans.specs.declared.Head.{Head}
use Rattle.plans.specs.declared.Plan.{Plan}
use Rattle.plans.specs.Plan.{Store, store_word}
use Rattle.plans.specs.PlanOk.{PlanOk, WordsOk}
use Rattle.plans.specs.Stores.{words_of, word_stores, plan_stores}
use Rattle.masters.specs.Find.{held_by_own}
use Rattle.masters.specs.Root.{bad_root, add_synonym, add_for_stranger}

-- the links of a plan whose new master has this ROOT prior: a new master is the last of its chain, so its ROOT next is 0
abbrev pub root_links : ℕ → List Link
root_links prior = record { prior = prior; next = 0 } ∷ no_link ∷ no_link ∷ no_link ∷ []

-- a side of a place on the ROOT chain: the word at o of the record r becomes v; none for 0
abbrev pub root_side : Entry → ℕ → ℕ → ℕ → List Store
root_side e r o v = cond (eqb r 0) [] (store_word e r o v ∷ [])

-- the plan p has this head, speaks of the records r and q and a new master with this ROOT prior, and has at most n words, which lie in
-- their records and store xs; w is wiped
pub record Shaped (p : Plan) (n : ℕ) (hd : Head) (r q prior : ℕ) (xs : List Store) (w : ℕ) : Type 0 where
  pub head : p.head ≡ hd
  pub target : p.target.0 ≡ r
  pub other : p.other.0 ≡ q
  pub links : p.links ≡ root_links prior
  pub few : p.count ≤ n
  pub words : word_stores (words_of p) ≡ xs
  pub records : WordsOk (words_of p)
  pub wiped : p.wiped ≡ w

-- the plan q is the plan p with at most one word more, whose store is ys
pub record OneLonger (p q : Plan) (ys : List Store) : Type 0 where
  pub head : q.head ≡ p.head
  pub target : q.target ≡ p.target
  pub other : q.other ≡ p.other
  pub links : q.links ≡ p.links
  pub few : q.count ≤ p.count + 1
  pub words : word_stores (words_of q) ≡ word_stores (words_of p) ++ ys
  pub records : WordsOk (words_of p) → WordsOk (words_of q)
  pub wiped : q.wiped ≡ p.wiped

-- committed to the base b, the plan p stores what f says of the area, and it can be committed
pub record StandsFor (b : List ℕ) (e : Entry) (p : Plan) (f : List ℕ → List Store) : Type 0 where
  pub stores : (area : List ℕ) → plan_stores b e area p ≡ f area
  pub ok : PlanOk (length b) e p

-- ---- the final 16, as the code asks it

-- ADD-M: the home h is held by a stranger
abbrev pub stranger_damaged : List ℕ → Entry → ℕ → Bool
stranger_damaged b e h = eqb (root_prior b e h) 0 || bad_root b e (root_prior b e h) || bad_root b e (root_next b e h)

-- what is left of ADD-M where the home h is live and the set has a free record f: l is where the home's own chain ends
abbrev pub beside_status : List ℕ → Entry → ℕ → Status
beside_status b e h = cond (held_by_own b e h) Done (cond (stranger_damaged b e h) Damg Done)

abbrev pub add_beside : List ℕ → Entry → ℕ → ℕ → ℕ → List ℕ → List Store
add_beside b e h f l area = cond (held_by_own b e h) (add_synonym e f l area) (add_for_stranger b e h f area)

-- DEL-M: the record's own neighbours
abbrev pub neighbours_damaged : List ℕ → Entry → ℕ → ℕ → Bool
neighbours_damaged b e h r = not (eqb r h) && eqb (root_prior b e r) 0 || bad_root b e (root_prior b e r) || bad_root b e (root_next b e r)

-- ---- 14, path by path

-- the path p leads to another set than number n, or the record r of that set e has no point on it
abbrev pub empty_on : List ℕ → Entry → ℕ → ℕ → Path → Bool
empty_on b e n r p = not (eqb p.master.0 n) || eqb (first_on b e r p) 0 && eqb (last_on b e r p) 0

-- every path of the set x does
abbrev pub empty_in : List ℕ → Entry → ℕ → ℕ → Entry → Bool
empty_in b e n r x = all_below (λ j. empty_on b e n r (path_of x j)) x.count

-- the paths of the set x to set number n have their linkage fields in the records of that set e
abbrev pub LinkInside : Entry → ℕ → Entry → Type 0
LinkInside e n x = (j : ℕ) → j < x.count → (path_of x j).master.0 ≡ n → (path_of x j).link + 8 ≤ e.size
