-- How a call ends is what `answered` makes of its status.
use Prim.Native.Nat.{ℕ, ◌<◌}
use Rattle.std.specs.Prelude.{◌≡◌, Bool, true, false, cond, not, eqb}
use Rattle.std.proofs.Math.Path.{refl}
use Rattle.std.proofs.Common.{◌∙◌, eqb-true, eq-eqb, ne_eqb}
use mathlib.Core.List.{List, [], ◌∷◌}
use Rattle.terms.specs.declared.Status.{Status}
use Rattle.terms.specs.declared.Status.TheVariants.{Done, Damg}
use Rattle.terms.specs.declared.Operation.TheVariants.{Formt}
use Rattle.terms.specs.Terms.{end_ref}
use Rattle.terms.specs.declared.Refusal.{Refusal}
use Rattle.terms.specs.Status.{status_number, is_done, first_of, status_by}
use Rattle.terms.specs.Laws.{status-number-one, not_done, refusal-not-done}
use Rattle.blocks.specs.declared.Check.{Check}
use Rattle.blocks.specs.Blocks.{check_by}
use Rattle.schema.specs.declared.Entry.{Entry}
use Rattle.records.specs.Areas.{area_of}
use Rattle.plans.specs.Plan.{Store, blocks_sealed, store_all, seal_all, committed}
use Rattle.calls.specs.Call.{Call, one_of}
use Rattle.calls.specs.Scene.{Scene}
use Rattle.calls.specs.Reply.{or_end, given, reference_after, area_after, stores_of, base_after}
use Rattle.calls.specs.Outcome.{refused, done, answered}
use Rattle.calls.proofs.RestLaws.{storable}
use Rattle.ends.specs.Ends.{Ends, gave, settled}

-- ---- refused

pub refused-ends : (x : Scene) (c : Call) (s t : Status) → s ≡ t → 0 < status_number t → Ends (answered x c s) t c.reference c.area c.base
unfolding answered
refused-ends x c s t e h = rw (e, not_done t h) (record { status = refl; reference = refl; area = refl; base = refl })

-- ---- a record that is given, or none

module _ (b : List ℕ) (e : Entry) (r : ℕ) (area : List ℕ) where
  pub gave-none : {q : ℕ} → r ≡ 0 → q ≡ end_ref → Ends (gave b e r area) Done q area b
  unfolding gave
  gave-none h k = rw h (record { status = refl; reference = k; area = refl; base = refl })

  pub gave_some : {q : ℕ} {a : List ℕ} → (r ≡ 0 → ⊥) → q ≡ r → a ≡ area_of b e r → Ends (gave b e r area) Done q a b
  unfolding gave
  gave_some h k l = rw (ne_eqb r 0 h) (record { status = refl; reference = k; area = l; base = refl })

-- ---- stores

module _ (d : Check) (s : Status) (b : List ℕ) (xs : List Store) (after reference : ℕ) (area : List ℕ) where
  pub settled-refused : {u : Status} {q : ℕ} → (status_number s ≡ 0 → ⊥) → u ≡ s → q ≡ reference → Ends (settled d s b xs after reference area) u q area b
  unfolding settled
  settled-refused h e f = rw (ne_eqb (status_number s) 0 h) (record { status = e; reference = f; area = refl; base = refl })

  pub settled-err : (why : Refusal) → s ≡ status_by why → Ends (settled d s b xs after reference area) (status_by why) reference area b
  unfolding settled
  settled-err why h = rw (h, refusal-not-done why) (record { status = refl; reference = refl; area = refl; base = refl })

  pub settled-done : {u : Status} {q : ℕ} {new : List ℕ} {r : Bool} → status_number s ≡ 0 → r ≡ blocks_sealed d b xs → r ≡ true
      → new ≡ cond (blocks_sealed d b xs) (committed d b xs) b → u ≡ Done → q ≡ after → Ends (settled d s b xs after reference area) u q area new
  unfolding settled
  settled-done h k l n e f = rw (eq-eqb (status_number s) 0 h, ← k, l) (record { status = e; reference = f; area = refl; base = n ∙ (rw (← k, l) refl) })

  pub settled-damaged : {u : Status} {q : ℕ} {new : List ℕ} {r : Bool} → status_number s ≡ 0 → r ≡ blocks_sealed d b xs → r ≡ false
      → new ≡ cond (blocks_sealed d b xs) (committed d b xs) b → u ≡ Damg → q ≡ reference → Ends (settled d s b xs after reference area) u q area new
  unfolding settled
  settled-damaged h k l n e f = rw (eq-eqb (status_number s) 0 h, ← k, l) (record { status = e; reference = f; area = refl; base = n ∙ (rw (← k, l) refl) })

module _ (x : Scene) (c : Call) where
  -- a read: it stores nothing
  pub gave-answers : (s : Status) (r : ℕ) → s ≡ Done → given x c ≡ r → reference_after x c ≡ or_end r → stores_of x c ≡ [] → one_of x.operation (Formt ∷ []) ≡ false
      → answered x c s ≡ gave c.base x.entry r c.area
  unfolding answered gave done area_after base_after committed store_all seal_all
  gave-answers s r e g h w f = rw (e, h, g, w, f) refl

  in_done : (n : ℕ) (s : Status) (xs : List Store) (after : ℕ) → x.schema.edition ≡ n → s ≡ first_of Done (storable x c) → stores_of x c ≡ xs
      → reference_after x c ≡ after → area_after x c ≡ c.area → one_of x.operation (Formt ∷ []) ≡ false
      → answered x c s ≡ settled (check_by n) Done c.base xs after c.reference c.area
  unfolding answered settled done base_after
  in_done n s xs after q e w h a f = rw (e, h, a, w, f, q) (by-seal (blocks_sealed (check_by n) c.base xs))
    where
      new : List ℕ
      new = committed (check_by n) c.base xs

      by-seal : (d : Bool) → cond (eqb (status_number (cond (not d) Damg Done)) 0) (record { status = Done; reference = after; area = c.area; base = new })
          (refused c (cond (not d) Damg Done))
          ≡ cond d (record { status = Done; reference = after; area = c.area; base = new }) (record { status = Damg; reference = c.reference; area = c.area; base = c.base })
      by-seal true = refl
      by-seal false = refl

  in_refusal : (k : Check) (s u : Status) (xs : List Store) (after : ℕ) → s ≡ first_of u (storable x c) → is_done u ≡ false
      → answered x c s ≡ settled k u c.base xs after c.reference c.area
  unfolding answered settled
  in_refusal k s u xs after e d = rw (e, d, d) refl

  -- a call that stores: n is the schema's edition, u what its tests came to but for the last, xs what it stores, `after` the reference it
  -- returns; both count only where the call is done
  pub settled-answers : (n : ℕ) (s u : Status) (xs : List Store) (after : ℕ) → x.schema.edition ≡ n → s ≡ first_of u (storable x c)
      → (u ≡ Done → stores_of x c ≡ xs) → (u ≡ Done → reference_after x c ≡ after) → area_after x c ≡ c.area → one_of x.operation (Formt ∷ []) ≡ false
      → answered x c s ≡ settled (check_by n) u c.base xs after c.reference c.area
  settled-answers n s u xs after q e w h a f = go (is_done u) refl
    where
      go : (d : Bool) → is_done u ≡ d → answered x c s ≡ settled (check_by n) u c.base xs after c.reference c.area
      go false d = in_refusal (check_by n) s u xs after e d
      go true d =
          let u-done : u ≡ Done = status-number-one u Done (eqb-true (status_number u) 0 d) in
          rw u-done (in_done n s xs after q (rw u-done at e) (w u-done) (h u-done) a f)
