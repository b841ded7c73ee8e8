-- What DEL-M stores and what it leaves. Of a master at its home with a synonym behind it: that synonym moves into the home, its ROOT prior 0, the
-- record behind it follows, and its old place is wiped. Of any other: its neighbours become each other's and its record is wiped.
use Rattle.std.specs.Prelude.{ℕ, ◌≡◌, ◌≢◌, Bool, cond, not, ◌&&◌, ◌||◌, List, [], ◌∷◌, eqb}
use Rattle.std.proofs.Math.Path.{refl, sym}
use Rattle.std.proofs.Common.{ap, ◌∙◌, inl, inr, ⊎_elim, arith}
use Rattle.std.proofs.Math.Bool.{true, false, and-eq-true_iff}
use Rattle.std.proofs.lemmas.List.{length-replicate}
use borrow.Author.Tests.{eqb-true, eqb-false, eq-eqb, not-true, not-false}
use Rattle.octets.specs.Octets.{set_word, zeros, all_zero}
use Rattle.octets.specs.Below.{all_below}
use Rattle.octets.specs.BelowLaws.{all_below-at}
use Rattle.octets.specs.SpliceLaws.{get_d_zeros, run_zeros}
use Rattle.octets.specs.RunLaws.{all_zero-zeros}
use Rattle.schema.specs.declared.Entry.{Entry}
use Rattle.schema.specs.declared.Schema.{Schema}
use Rattle.schema.specs.Decode.{entry_of, path_of, set_count}
use Rattle.schema.specs.Place.{InSet, record_of}
use Rattle.records.specs.Records.{is_live, root_next, root_prior, first_on, last_on}
use Rattle.records.proofs.FieldPlaces.{record_least}
use Rattle.plans.specs.Plan.{store_record}
use Rattle.masters.specs.Find.{own_home}
use Rattle.masters.specs.Root.{synonym_moves, del_by_move, del_by_unlink, del_master_stores}
use Rattle.points.specs.Chains.{has_points}
use Rattle.sound.specs.Sets.{Live}
use Rattle.kept_state.specs.Deeds.{whole, after, AllValid, AllZeroed}
use Rattle.kept_state.specs.Frames.{Bare}
use Rattle.master_steps.specs.RowLaws.{own-holds}
use Rattle.master_steps.specs.Neighbours.{neighbours_aside, second}
use Rattle.master_steps.specs.ChangeLaws.{promoted, unlinked}
use Rattle.master_steps.specs.CallDeeds.{MastersKnown, counted, some, CallDeeds, deeds-told}
use Rattle.master_steps.specs.Relinks.{Put, Relink, touched, deeds, links-stores, relinked-within, put_front, put_back, relinked}
use Rattle.kept_state.specs.HeldLaws.{live-is}
use Rattle.master_steps.specs.Images.{image_valid, image_stands, copy-first, copy_carried}

-- ---- test 14, IMDL, has passed: the master has no points

-- none on path j of set i
abbrev spare : Schema → List ℕ → ℕ → ℕ → ℕ → ℕ → Bool
spare t b n r i j =
    not (eqb (path_of (entry_of t i) j).master.0 n)
    || eqb (first_on b (entry_of t n) r (path_of (entry_of t i) j)) 0 && eqb (last_on b (entry_of t n) r (path_of (entry_of t i) j)) 0

no_points : (t : Schema) (b : List ℕ) (n r : ℕ) → has_points t b n r ≡ false → Bare t b n r
unfolding has_points
no_points t b n r h i j p m =
    let on = all_below-at (spare t b n r i) (entry_of t i).count j (all_below-at (λ i. all_below (spare t b n r i) (entry_of t i).count) (set_count t) i (not-false _ h) p.1) p.2 in
    let z = (and-eq-true_iff (eqb (first_on b (entry_of t n) r (path_of (entry_of t i) j)) 0) (eqb (last_on b (entry_of t n) r (path_of (entry_of t i) j)) 0)).0
    (rw (eq-eqb _ n m) at on) in
    (eqb-true _ 0 z.0, eqb-true _ 0 z.1)

-- ---- a wiped record

module _ {t : Schema} {b : List ℕ} {n : ℕ} (known : MastersKnown t b n) where
  abbrev e : Entry
  e = entry_of t n

  abbrev nothing : List ℕ
  nothing = zeros (entry_of t n).size

  wiping : (r : ℕ) → InSet e r → AllValid t (whole n r nothing ∷ []) × AllZeroed (whole n r nothing ∷ [])
  wiping r i =
      let least = record_least t known.ok n (counted known) in
      (((counted known, i, length-replicate e.size 0), tt), (run_zeros e.size 1 3 (omega arith), tt))

  wiped : (r : ℕ) (c : List ℕ) → record_of c e r ≡ nothing → (is_live c e r ≡ false) × (all_zero (record_of c e r) ≡ true)
  wiped r c is =
      (live-is known.ok c n r nothing (counted known) is ∙ ap (λ (x : ℕ). eqb x 1) (get_d_zeros e.size 0), ap all_zero is ∙ all_zero-zeros e.size)

  module _ (r : ℕ) (l : Live b e r) (none : has_points t b n r ≡ false) where
    bare : Bare t b n r
    bare = no_points t b n r none

    -- ---- "that synonym moves into the home"

    abbrev raised : List Put → Relink
    raised front = record {
      front = front;
      before = 0;
      behind = root_next b e (root_next b e r);
      between = r ∷ [];
      back = (root_next b e r, nothing) ∷ [];
    }

    promote : own_home b e r ≡ r → root_next b e r ≢ 0 → CallDeeds t b n (del_by_move b e r (root_next b e r))
    promote own more =
        let m : ℕ = root_next b e r in
        let two = (neighbours_aside b e (some known) known.sound r l).1 in
        let lm : Live b e m = ⊎_elim (λ z. absurd (more z)) (λ k. k) two.0 in
        let behind = (neighbours_aside b e (some known) known.sound m lm).1 in
        let third = (second b e (some known) known.sound r l.0 (own-holds b e r l.1 own) more).3 in
        let ys : List ℕ = set_word (record_of b e m) 8 0 in
        let im = copy-first known m lm in
        let s : Relink = raised ((r, ys) ∷ []) in
        let w = relinked-within known s ((image_valid known im r l.0, tt), (im.filler, tt)) (wiping m lm.0) (inl refl) behind.0 (l.0.1, tt) in
        let c : List ℕ = after t b (deeds n s) in
        let here = put_front known [] r ys (raised []) w.valid (two.1, tt) (λ z. omega arith) third in
        let gone = wiped m c (put_back known s w m nothing refl) in
        let stands = image_stands known im r c here in
        let carried = copy_carried known m lm ys (root_next b e m) 0 im r c here in
        deeds-told known _ (deeds n s) (ap (λ zs. store_record e r ys ∷ zs) (sym (links-stores t n s))) (touched s) w
        ((λ k. inr bare, inl (stands.live, inl (m, lm, carried))), ((λ k. inl (r, (l.0, stands.live), carried), inr gone), tt))
        (promoted b c e (some known) known.sound r l own more stands gone.0 (relinked known s w (λ z. omega arith, tt) (λ z. behind.1 (sym z), tt)))

    -- ---- "Otherwise unlink and wipe."

    unlink : (r ≡ own_home b e r → root_next b e r ≡ 0) → CallDeeds t b n (del_by_unlink b e r)
    unlink alone =
        let s : Relink = record { front = []; before = root_prior b e r; behind = root_next b e r; between = []; back = (r, nothing) ∷ [] } in
        let near = neighbours_aside b e (some known) known.sound r l in
        let w = relinked-within known s (tt, tt) (wiping r l.0) near.0.0 near.1.0 tt in
        let gone = wiped r (after t b (deeds n s)) (put_back known s w r nothing refl) in
        deeds-told known _ (deeds n s) (sym (links-stores t n s)) (touched s) w ((λ k. inr bare, inr gone), tt)
        (unlinked b (after t b (deeds n s)) e (some known) known.sound r l alone gone.0 (relinked known s w (λ z. near.0.1 (sym z), tt) (λ z. near.1.1 (sym z), tt)))

    -- ---- the two cases

    pub del_deeds : CallDeeds t b n (del_master_stores b (entry_of t n) (own_home b (entry_of t n) r) r)
    unfolding del_master_stores
    del_deeds = by (synonym_moves b e (own_home b e r) r) refl
      where
        by : (m : Bool) → synonym_moves b e (own_home b e r) r ≡ m → CallDeeds t b n (cond m (del_by_move b e (own_home b e r) (root_next b e r)) (del_by_unlink b e r))
        by true m =
            let a = (and-eq-true_iff (eqb r (own_home b e r)) (not (eqb (root_next b e r) 0))).0 m in
            let own : own_home b e r ≡ r = sym (eqb-true _ _ a.0) in
            rw own (promote own (eqb-false _ 0 (not-true _ a.1)))
        by false m = unlink (λ own. eqb-true _ 0 (not-false _ (rw (eq-eqb _ _ own) at m)))
