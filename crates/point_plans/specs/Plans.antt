-- The plans of the calls on points as their makers say them: a plan with more words, and a plan built whole.
use Rattle.std.specs.Prelude.{ℕ, ◌*◌, ◌≡◌, List, ◌++◌, take, drop}
use Rattle.schema.specs.declared.Entry.{Entry}
use Rattle.schema.specs.declared.Part.{Part}
use Rattle.records.specs.declared.Link.{Link}
use Rattle.plans.specs.declared.Word.{Word}
use Rattle.plans.specs.declared.Head.{Head}
use Rattle.plans.specs.declared.Plan.{Plan}
use Rattle.plans.specs.Stores.{words_of}
use Rattle.point_plans.specs.Paths.{words_below}

-- r is p with the words ws behind its own, n words in all
pub record Longer (p r : Plan) (n : ℕ) (ws : List Word) : Type 0 where
  pub head : r.head ≡ p.head
  pub target : r.target ≡ p.target
  pub other : r.other ≡ p.other
  pub links : r.links ≡ p.links
  pub wiped : r.wiped ≡ p.wiped
  pub count : r.count ≡ n
  pub words : words_of r ≡ words_of p ++ ws
  pub rest : drop n r.words ≡ drop n p.words

-- a plan of this head and target, for these neighbours; `values` become the words of each path. It speaks of no other record
pub record Built (e : Entry) (owners : List Part) (links values : List Link) (h : Head) (r w : ℕ) (p : Plan) : Type 0 where
  pub head : p.head ≡ h
  pub target : p.target.0 ≡ r
  pub other : p.other.0 ≡ 0
  pub linked : take e.count p.links ≡ links
  pub wiped : p.wiped ≡ w
  pub count : p.count ≡ 2 * e.count
  pub words : words_of p ≡ words_below e owners links values e.count
