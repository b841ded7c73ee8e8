-- What is left of the ladder once the named master and the referenced record are known, operation by operation: each has a few of the
-- tests, in the one order, and in the end the test of the blocks that it stores into.
use Rattle.std.specs.Prelude.{◌≡◌, false, cond, not, ◌&&◌, [], ◌∷◌}
use Rattle.std.proofs.Math.Path.{refl, ap}
use Rattle.std.proofs.Common.{◌∙◌}
use Rattle.terms.specs.declared.Status.{Status}
use Rattle.terms.specs.declared.Status.TheVariants.{Done, Keys, Imdl, Full, Damg}
use Rattle.terms.specs.declared.Operation.TheVariants.{Formt, Sinon, AddM, DelM, Readm, Writm, Rqloc, Rdnxt, Readv, Readr, Readd, Writv, Delvd}
use Rattle.blocks.specs.Blocks.{check_by}
use Rattle.plans.specs.Plan.{blocks_sealed}
use Rattle.masters.specs.Root.{add_master_full, add_master_damaged, del_master_damaged}
use Rattle.points.specs.Chains.{read_damaged, has_points}
use Rattle.sound.specs.Sound.{sound}
use Rattle.calls.specs.Call.{Call, one_of, adds}
use Rattle.calls.specs.Scene.{Scene}
use Rattle.calls.specs.Ladder.{is_link, other_stored_key, other_rungs, final_rungs, rest_rungs, refusal}
use Rattle.calls.specs.Reply.{full_area, stores_of, master_in, home_of_key, forward, backward}
use Rattle.calls.proofs.LadderLaws.{refusal-passed, others_pass}

module _ (x : Scene) (c : Call) where
  -- the last test of all: "a block to be stored into has a false check"
  abbrev pub storable : Status
  storable = cond (not (blocks_sealed (check_by x.schema.edition) c.base (stores_of x c))) Damg Done

  rest-short : one_of x.operation adds ≡ false → one_of x.operation (Delvd ∷ []) ≡ false
      → refusal x c (rest_rungs x)
      ≡ cond (one_of x.operation (Writv ∷ []) && other_stored_key c.base x.entry c.reference (full_area x c)) Keys (refusal x c final_rungs)
  unfolding refusal
  rest-short h k =
      ap (cond (one_of x.operation (Writv ∷ []) && other_stored_key c.base x.entry c.reference (full_area x c)) Keys)
      (refusal-passed x c (other_rungs x.entry.count) final_rungs (others_pass x c h k x.entry.count))

  -- ---- calls that store nothing

  pub rest-readm : x.operation ≡ Readm → refusal x c (rest_rungs x) ≡ Done
  unfolding refusal stores_of blocks_sealed
  rest-readm e = rest-short (rw e refl) (rw e refl) ∙ rw e refl

  pub rest-rdnxt : x.operation ≡ Rdnxt → refusal x c (rest_rungs x) ≡ Done
  unfolding refusal stores_of blocks_sealed
  rest-rdnxt e = rest-short (rw e refl) (rw e refl) ∙ rw e refl

  pub rest_rqloc : x.operation ≡ Rqloc → refusal x c (rest_rungs x) ≡ Done
  unfolding refusal stores_of blocks_sealed
  rest_rqloc e = rest-short (rw e refl) (rw e refl) ∙ rw e refl

  pub rest_readd : x.operation ≡ Readd → refusal x c (rest_rungs x) ≡ Done
  unfolding refusal stores_of blocks_sealed
  rest_readd e = rest-short (rw e refl) (rw e refl) ∙ rw e refl

  pub rest-formt : x.operation ≡ Formt → refusal x c (rest_rungs x) ≡ Done
  unfolding refusal stores_of blocks_sealed
  rest-formt e = rest-short (rw e refl) (rw e refl) ∙ rw e refl

  pub rest-sinon : x.operation ≡ Sinon → refusal x c (rest_rungs x) ≡ cond (not (sound x.schema c.base)) Damg Done
  unfolding refusal stores_of blocks_sealed
  rest-sinon e = rest-short (rw e refl) (rw e refl) ∙ rw e refl

  pub rest-readv : x.operation ≡ Readv
      → refusal x c (rest_rungs x) ≡ cond (read_damaged c.base x.entry x.path x.masters (master_in x) c.key (is_link x c) (forward x c)) Damg Done
  unfolding refusal stores_of blocks_sealed
  rest-readv e = rest-short (rw e refl) (rw e refl) ∙ rw e refl

  pub rest-readr : x.operation ≡ Readr
      → refusal x c (rest_rungs x) ≡ cond (read_damaged c.base x.entry x.path x.masters (master_in x) c.key (is_link x c) (backward x c)) Damg Done
  unfolding refusal stores_of blocks_sealed
  rest-readr e = rest-short (rw e refl) (rw e refl) ∙ rw e refl

  -- ---- calls that store

  pub rest-writm : x.operation ≡ Writm → refusal x c (rest_rungs x) ≡ storable
  unfolding refusal
  rest-writm e = rest-short (rw e refl) (rw e refl) ∙ rw e refl

  pub rest-writv : x.operation ≡ Writv
      → refusal x c (rest_rungs x) ≡ cond (other_stored_key c.base x.entry c.reference (full_area x c)) Keys storable
  unfolding refusal
  rest-writv e = rest-short (rw e refl) (rw e refl) ∙ rw e refl

  pub rest-addm : x.operation ≡ AddM
      → refusal x c (rest_rungs x)
      ≡ cond (add_master_full c.base x.entry (home_of_key x c)) Full (cond (add_master_damaged c.base x.entry (home_of_key x c)) Damg storable)
  unfolding refusal
  rest-addm e = rest-short (rw e refl) (rw e refl) ∙ rw e refl

  pub rest-delm : x.operation ≡ DelM
      → refusal x c (rest_rungs x)
      ≡ cond (has_points x.schema c.base x.number (master_in x)) Imdl
      (cond (del_master_damaged c.base x.entry (home_of_key x c) (master_in x)) Damg storable)
  unfolding refusal
  rest-delm e = rest-short (rw e refl) (rw e refl) ∙ rw e refl
