-- The blocks that a plan touches, taken once each, answer for its stores: their checks are true where every store's block is sealed, and
-- setting them behind the stores is the commit.
use Rattle.std.specs.Prelude.{◌≡◌, refl, Bool, true, false, cond, List, ℕ}
use Rattle.std.proofs.Common.{sym, ◌∙◌}
use Rattle.std.proofs.Math.Path.{ap}
use Rattle.std.proofs.Math.ListN.{length}
use Rattle.octets.specs.Octets.{Bytes}
use Rattle.blocks.specs.declared.Check.{Check}
use Rattle.blocks.specs.Blocks.{is_sealed}
use Rattle.schema.specs.declared.Entry.{Entry}
use Rattle.schema.specs.Place.{LiesIn}
use Rattle.plans.specs.declared.Plan.{Plan}
use Rattle.plans.specs.Plan.{blocks_sealed, store_all, committed}
use Rattle.plans.proofs.PlanLaws.{length-store_all}
use Rattle.plans.specs.PlanOk.{PlanOk}
use Rattle.plans.specs.Stores.{plan_stores}
use Rattle.commit.specs.Touched.{distinct, block_within, AllWithin, all_sealed, seal_each, plan_blocks}
use Rattle.commit.specs.DistinctLaws.{every_distinct, seal_each-distinct}
use Rattle.commit.specs.TouchedLaws.{blocks_sealed-blocks, seal_all-blocks, plan_blocks_lem, plan_within}

module _ (b : List ℕ) (e : Entry) (area : List ℕ) (p : Plan) (ok : LiesIn e (length b)) (k : PlanOk (length b) e p) (ns : List ℕ) (q : ns ≡ distinct (plan_blocks e p)) where
  pub touched-within : AllWithin (length b) ns
  touched-within = rw q (every_distinct (block_within (length b)) (plan_blocks e p) ∙ plan_within (length b) e ok p k)

  pub touched-sealed : (c : Check) → all_sealed c b ns ≡ blocks_sealed c b (plan_stores b e area p)
  touched-sealed c =
      ap (all_sealed c b) q
      ∙ every_distinct (is_sealed c b) (plan_blocks e p)
      ∙ ap (all_sealed c b) (sym (plan_blocks_lem b e area ok p k))
      ∙ sym (blocks_sealed-blocks c b (plan_stores b e area p))

  -- x is what the stores leave, and y what setting the checks makes of it
  pub touched-committed : (c : Check) (x y : List ℕ) → Bytes x → x ≡ store_all b (plan_stores b e area p) → y ≡ seal_each c x ns → y ≡ committed c b (plan_stores b e area p)
  unfolding committed
  touched-committed c x y h s t =
      let xs = plan_stores b e area p in
      let l : length x ≡ length b = ap length s ∙ length-store_all b xs in
      let w : AllWithin (length x) (plan_blocks e p) = rw l (plan_within (length b) e ok p k) in
      t
      ∙ ap (seal_each c x) q
      ∙ seal_each-distinct c x (plan_blocks e p) h w
      ∙ ap (seal_each c x) (sym (plan_blocks_lem b e area ok p k))
      ∙ (rw s (sym (seal_all-blocks c (store_all b xs) xs)))

-- the outcome, by the answer
pub commit_refused : {t u : Bool} (x y : List ℕ) → t ≡ u → t ≡ false → (false ≡ u) × (y ≡ cond u x y)
commit_refused x y e f = let g = sym f ∙ e in (g, rw (sym g) refl)

pub commit_done : {t u : Bool} {x z : List ℕ} (y : List ℕ) → t ≡ u → t ≡ true → z ≡ x → (true ≡ u) × (z ≡ cond u x y)
commit_done y e f h = let g = sym f ∙ e in (g, rw (sym g) h)
