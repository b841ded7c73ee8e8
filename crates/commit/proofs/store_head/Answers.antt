-- `commit::store_head` meets its contract: each head has its own stores. Assumes nothing.
use Rattle.std.proofs.Common.{ℕ, List, ◌≡◌, sym, ap, ◌∙◌, refl}
use Rattle.schema.specs.declared.Entry.{Entry}
use Rattle.records.specs.declared.Link.{Link}
use Rattle.plans.specs.declared.Head.{Head}
use Rattle.plans.specs.Plan.{store_all}
use Rattle.plans.specs.Stores.{head_stores}
use Rattle.commit.proofs.store_head.Goals as goal

by-head : (b : List ℕ) (e : Entry) (area : List ℕ) (r q : ℕ) (links : List Link) {h k : Head} {new : List ℕ}
    → h ≡ k → new ≡ store_all b (head_stores k b e area r q links) → new ≡ store_all b (head_stores h b e area r q links)
by-head b e area r q links m s = s ∙ sym (ap (λ (x : Head). store_all b (head_stores x b e area r q links)) m)

pub returns-in-Nothing : goal.returns-in-Nothing
unfolding store_all
returns-in-Nothing c = by-head _ _ _ _ _ _ c.in-Nothing.is refl

pub returns-in-Synonym : goal.returns-in-Synonym
unfolding store_all
returns-in-Synonym c = by-head _ _ _ _ _ _ c.in-Synonym.is c.put_synonym.ensures

pub returns-in-Body : goal.returns-in-Body
unfolding store_all
returns-in-Body c = by-head _ _ _ _ _ _ c.in-Body.is (rw (c.of.ensures.0, c.of.ensures.1) at c.put_body.ensures)

pub returns-in-Master : goal.returns-in-Master
unfolding store_all
returns-in-Master c = by-head _ _ _ _ _ _ c.in-Master.is (rw (c.of-in-Master.ensures.0, c.of-in-Master.ensures.1) at c.put_master.ensures)

pub returns-in-Variable : goal.returns-in-Variable
unfolding store_all
returns-in-Variable c = by-head _ _ _ _ _ _ c.in-Variable.is (rw (c.of-in-Variable.ensures.0, c.of-in-Variable.ensures.1) at c.put_variable.ensures)

pub returns-in-Stranger : goal.returns-in-Stranger
unfolding store_all
returns-in-Stranger c = by-head _ _ _ _ _ _ c.in-Stranger.is (rw (c.of-in-Stranger.ensures.0, c.of-in-Stranger.ensures.1) at c.put_stranger.ensures)
