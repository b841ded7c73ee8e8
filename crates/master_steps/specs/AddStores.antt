-- What ADD-M stores and what it leaves. A new master at its home or behind its synonyms is one case: a free record put whole, and the pointer of
-- the record before it, if there is one. A stranger in the home is the other: its record is put at a free place, the new master into the home, and
-- the stranger's neighbours follow it.
use Rattle.std.specs.Prelude.{ℕ, ◌≤◌, ◌≡◌, ◌≢◌, Bool, true, cond, List, [], ◌∷◌, ◌++◌}
use Rattle.std.proofs.Math.Path.{refl}
use Rattle.std.proofs.Common.{sym, ap, ◌∙◌, inl, inr, append-nil, arith}
use Rattle.std.proofs.Math.Bool.{false}
use Rattle.octets.specs.TestLaws.{never_both}
use Rattle.schema.specs.declared.Entry.{Entry}
use Rattle.schema.specs.declared.Schema.{Schema}
use Rattle.schema.specs.Decode.{entry_of}
use Rattle.schema.specs.Place.{InSet, record_of}
use Rattle.records.specs.Records.{is_live, root_next, root_prior, master_key}
use Rattle.plans.specs.Plan.{store_record}
use Rattle.scan.specs.Scan.{lowest_free, is_full}
use Rattle.masters.specs.Find.{home_in, held_by_own, tail_from}
use Rattle.scan.specs.ScanLaws.{lowest_free_in, lowest_free_free}
use Rattle.masters.specs.Root.{root_prior_side, root_next_side, put_master, add_at_home, add_synonym, add_for_stranger, add_master_stores, add_master_full}
use Rattle.terms.specs.Laws.{home_in_set}
use Rattle.chains.specs.Segments.{last_or}
use Rattle.sound.specs.Sound.{home_list}
use Rattle.sound.specs.Sets.{Live}
use Rattle.kept_state.specs.Deeds.{whole, after}
use Rattle.kept_state.specs.Tests.{AddMasterTests}
use Rattle.master_steps.specs.RowLaws.{none_list, rows_of}
use Rattle.master_steps.specs.FindLaws.{find_missing}
use Rattle.master_steps.specs.Neighbours.{Side, side-within, free_aside, neighbours_aside, last_live}
use Rattle.master_steps.specs.ChangeLaws.{add-sound, displaced}
use Rattle.master_steps.specs.CallDeeds.{MastersKnown, some, CallDeeds, Came, deeds-told}
use Rattle.master_steps.specs.Relinks.{Put, Relink, touched, deeds, links-stores, relinked-within, put_front, relinked}
use Rattle.master_steps.specs.Images.{Image, image_valid, image_stands, image_links, new_between, new_image, copy, copy_carried}

-- test 15, FULL, has passed: with the home held there is a free record
not_full : (b : List ℕ) (e : Entry) (h : ℕ) → add_master_full b e h ≡ false → is_live b e h ≡ true → is_full b e ≡ false
unfolding add_master_full
not_full b e h room live = rw live at room

module _ {t : Schema} {b : List ℕ} {n : ℕ} {key area : List ℕ} (known : MastersKnown t b n) (tests : AddMasterTests t b n key area) where
  abbrev e : Entry
  e = entry_of t n

  abbrev h : ℕ
  h = home_in (entry_of t n) key

  in_home : InSet e h
  in_home = home_in_set e.records key (some known)

  absent : (m : ℕ) → Live b e m → master_key b e m ≢ key
  absent = find_missing b e (some known) known.sound key tests.absent

  -- the new master, and a record x that holds it
  new : (p q : ℕ) → p ≤ e.records → q ≤ e.records → Image t n (new_between e area p q) key q p (λ o. 0)
  new p q lp lq = rw tests.same_key at (new_image known area tests.area-length p q lp lq)

  came : (p q : ℕ) → Image t n (new_between e area p q) key q p (λ o. 0) → (x : ℕ) (c : List ℕ) → record_of c e x ≡ new_between e area p q → Came t b c n x
  came p q im x c is = inr (image_links known im x c is, rw (image_stands known im x c is).key absent)

  -- ---- in the free record x, behind l, the last of its home's list

  abbrev behind : ℕ → ℕ → List Put → Relink
  behind x l front = record { front = front; before = l; behind = 0; between = x ∷ []; back = [] }

  linked-last : (x l : ℕ) → InSet e x → is_live b e x ≡ false → Side b e l → l ≡ last_or 0 (home_list b e h) → (l ≡ 0 → x ≡ h)
      → CallDeeds t b n (put_master e x l 0 area ∷ root_prior_side e l x)
  linked-last x l i free hl el first =
      let s : Relink = behind x l ((x, new_between e area l 0) ∷ []) in
      let im = new l 0 (side-within b e l hl) (omega arith) in
      let w = relinked-within known s ((image_valid known im x i, tt), (im.filler, tt)) (tt, tt) hl (inl refl) (i.1, tt) in
      let c : List ℕ = after t b (deeds n s) in
      let is = put_front known [] x (new_between e area l 0) (behind x l []) w.valid tt (free_aside b e x l i free hl) (λ z. omega arith) in
      let stands = image_stands known im x c is in
      deeds-told known _ (deeds n s) (ap (λ ys. put_master e x l 0 area ∷ ys) (sym (links-stores t n s ∙ append-nil (root_prior_side e l x)))) (touched s) w
      ((λ k. absurd (never_both _ k.1 free), inl (stands.live, came l 0 im x c is)), tt)
      (add-sound b c e (some known) known.sound key tests.no_blank absent x l i free el first stands (relinked known s w tt tt))

  -- ---- in its home, while the stranger there goes to the free record x

  abbrev shifted : ℕ → List Put → Relink
  shifted x front = record { front = front; before = root_prior b e h; behind = root_next b e h; between = x ∷ []; back = [] }

  home-taken : is_live b e h ≡ true → held_by_own b e h ≡ false → (x : ℕ) → InSet e x → is_live b e x ≡ false → CallDeeds t b n (add_for_stranger b e h x area)
  home-taken live away x i free =
      let l : Live b e h = (in_home, live) in
      let s : Relink = shifted x ((x, record_of b e h) ∷ (h, new_between e area 0 0) ∷ []) in
      let near = neighbours_aside b e (some known) known.sound h l in
      let old = copy known h l in
      let im = new 0 0 (omega arith) (omega arith) in
      let w = relinked-within known s ((image_valid known old x i, (image_valid known im h in_home, tt)), (old.filler, (im.filler, tt))) (tt, tt) near.0.0 near.1.0 (i.1, tt) in
      let c : List ℕ = after t b (deeds n s) in
      let there = put_front known [] x (record_of b e h) (shifted x ((h, new_between e area 0 0) ∷ [])) w.valid (λ z. never_both _ live (rw z at free), tt)
      (free_aside b e x (root_prior b e h) i free near.0.0) (free_aside b e x (root_next b e h) i free near.1.0) in
      let here = put_front known (whole n x (record_of b e h) ∷ []) h (new_between e area 0 0) (shifted x []) w.valid tt near.0.1 near.1.1 in
      let moved = image_stands known old x c there in
      let stands = image_stands known im h c here in
      let carried = copy_carried known h l (record_of b e h) (root_next b e h) (root_prior b e h) old x c there in
      deeds-told known _ (deeds n s)
      (ap (λ ys. store_record e x (record_of b e h) ∷ put_master e h 0 0 area ∷ ys)
      (sym (links-stores t n s ∙ ap (λ ys. root_prior_side e (root_prior b e h) x ++ ys) (append-nil (root_next_side e (root_next b e h) x))))) (touched s) w (
        (λ k. absurd (never_both _ k.1 free), inl (moved.live, inl (h, l, carried))),
        ((λ k. inl (x, (i, moved.live), carried), inl (stands.live, came 0 0 im h c here)), tt),
      ) (displaced b c e (some known) known.sound key tests.no_blank absent h x refl l away i free stands moved (relinked known s w tt tt))

  -- ---- the three cases of the home: free, held by its own, held by a stranger

  pub add-deeds : CallDeeds t b n (add_master_stores b (entry_of t n) (home_in (entry_of t n) key) area)
  unfolding add_master_stores
  add-deeds = by (is_live b e h) refl (held_by_own b e h) refl
    where
      free_home : is_live b e h ≡ false → CallDeeds t b n (add_at_home e h area)
      free_home free =
          let none = none_list b e h (home_list b e h) ((rows_of b e (some known) known.sound).row h in_home) (rw free refl) in
          linked-last h 0 in_home free (inl refl) (rw none refl) (λ z. refl)

      by : (l : Bool) → is_live b e h ≡ l → (o : Bool) → held_by_own b e h ≡ o
          → CallDeeds t b n (cond l (cond o (add_synonym e (lowest_free b e) (tail_from e.records b e h) area) (add_for_stranger b e h (lowest_free b e) area)) (add_at_home e h area))
      by true live true held =
          let room = not_full b e h tests.room live in
          let last = last_live b e (some known) known.sound h in_home held in
          linked-last (lowest_free b e) (tail_from e.records b e h) (lowest_free_in b e room) (lowest_free_free b e room) (inr last.1) last.0 (λ z. let i = last.1.0 in absurd (omega arith))
      by true live false away =
          let room = not_full b e h tests.room live in
          home-taken live away (lowest_free b e) (lowest_free_in b e room) (lowest_free_free b e room)
      by false free true o = free_home free
      by false free false o = free_home free
