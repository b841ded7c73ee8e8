-- What a call does to the lists, list by list: a new point, a point taken out, a point's area rewritten, or nothing at all. What the lists show
-- before it, changed by the plain step, is what they show after it.
use Rattle.std.specs.Prelude.{ℕ, ◌≤◌, ◌<◌, ◌≡◌, refl, ◌≢◌, Bool, true, false, cond, ◌&&◌, List, [], ◌∷◌, ◌++◌, eqb}
use Rattle.std.proofs.Common.{sym, ◌∙◌, eqb-true}
use Rattle.std.proofs.lemmas.Bool.{eqb-false}
use Rattle.octets.specs.Octets.{same_bytes}
use Rattle.octets.specs.TestLaws.{never_both}
use Rattle.schema.specs.declared.Entry.{Entry}
use Rattle.schema.specs.declared.Schema.{Schema}
use Rattle.schema.specs.Decode.{entry_of, set_count, schema_of}
use Rattle.schema.specs.Place.{InSet}
use Rattle.schema.specs.Guarantee.{IsPathOf}
use Rattle.records.specs.Records.{is_live}
use Rattle.records.specs.Areas.{area_of, area_key_on, area_body}
use Rattle.blocks.specs.Blocks.{check_by}
use Rattle.plans.specs.Plan.{store_run, committed}
use Rattle.points.specs.Points.{add_place, add_stores, del_stores, spot_on}
use Rattle.chains.specs.Members.{All, all_map}
use Rattle.points.specs.declared.Spot.{Spot}
use Rattle.points.specs.declared.Spot.TheVariants.{Last}
use Rattle.calls.specs.Call.{Call}
use Rattle.kept_state.specs.Rows.{Mine, Represents, inserted, without}
use Rattle.kept_state.specs.Tests.{AddTests, DelTests, WriteTests}
use Rattle.point_steps.specs.RowFacts.{row_in_set}
use Rattle.point_steps.specs.AddSteps.{rows_added, add-point-step, add-area, add-keeps, add-new}
use Rattle.point_steps.specs.DelSteps.{del_point-step, del_keeps}
use Rattle.point_steps.specs.WriteSteps.{write_point-step, write_keeps, write_area}
use Rattle.condition3.specs.Plain.{Point, Lists, taken_out, rewritten, set_in, entry_in, path_in, brought_by, overwritten_by, added, in_set_of}
use Rattle.condition3.specs.Shown.{point_of, shown, Ready}
use Rattle.condition3.proofs.ShownLaws.{shown-same, shown_append, taken-shown, rewritten-shown}

-- rows, for each set, path and key
abbrev pub AllRows : Type 0
AllRows = ℕ → ℕ → List ℕ → List ℕ

-- the lists show the rows of path j of set i
abbrev pub Shows : Schema → List ℕ → AllRows → Lists → ℕ → ℕ → Type 0
Shows t b rows l i j = (key : List ℕ) → l i j key ≡ shown b (entry_of t i) (rows i j key)

-- after the call, with this base: it stands for the rows `now`, and what was shown before is shown now, changed by f
pub record Turned (t : Schema) (b c : List ℕ) (rows : AllRows) (f : Lists → Lists) : Type 0 where
  pub now : AllRows
  pub stands : Represents t c now
  pub shows : (l : Lists) (i j : ℕ) → IsPathOf t i j → Shows t b rows l i j → Shows t c now (f l) i j

-- ---- calls that leave every list as it was

module _ (t : Schema) (b : List ℕ) (rows : AllRows) (g : Represents t b rows) where
  pub nothing_turned : Turned t b b rows (λ l. l)
  nothing_turned = record { now = rows; stands = g; shows = λ l i j p h. h }

  -- the records of a row are records of its set
  inside : (i j : ℕ) → IsPathOf t i j → (key : List ℕ) → All (InSet (entry_of t i)) (rows i j key)
  inside i j p key = row_in_set t b i j (rows i j) key (g.paths i j p)

  -- the areas of the records of a row
  row-areas : (c : List ℕ) → ((i r : ℕ) → t.masters ≤ i → i < set_count t → InSet (entry_of t i) r → area_of c (entry_of t i) r ≡ area_of b (entry_of t i) r)
      → (i j : ℕ) → IsPathOf t i j → (key : List ℕ) → shown b (entry_of t i) (rows i j key) ≡ shown c (entry_of t i) (rows i j key)
  row-areas c h i j p key =
      shown-same b c (entry_of t i) (rows i j key)
      (all_map (InSet (entry_of t i)) _ (λ r s. h i r p.0 p.1 s) (rows i j key) (inside i j p key))

  pub same_turned : (c : List ℕ) → Represents t c rows → ((i r : ℕ) → t.masters ≤ i → i < set_count t → InSet (entry_of t i) r → area_of c (entry_of t i) r ≡ area_of b (entry_of t i) r)
      → Turned t b c rows (λ l. l)
  same_turned c k h = record { now = rows; stands = k; shows = λ l i j p s key. s key ∙ row-areas c h i j p key }

-- ---- a record that comes, and one that goes

-- one list after an add: s where the new record goes into it, u where its path is the named one
one_added : (a : List ℕ) (e : Entry) (r : ℕ) (spot : Spot) (area : List ℕ) (place : Point → List Point → List Point)
    → ((xs : List ℕ) → place (point_of a e r) (shown a e xs) ≡ shown a e (inserted spot r xs)) → area_of a e r ≡ area
    → (s u : Bool) (xs : List ℕ) (l : List Point) → l ≡ shown a e xs
    → cond s (cond u (place (record { number = r; area = area }) l) (l ++ (record { number = r; area = area } ∷ []))) l
    ≡ shown a e (cond s (inserted (cond u spot Last) r xs) xs)
one_added a e r spot area place k q true true xs l h = rw (← q, h) (k xs)
one_added a e r spot area place k q true false xs l h = rw (← q, h) (sym (shown_append a e xs (r ∷ [])))
one_added a e r spot area place k q false u xs l h = h

without_all : (P : ℕ → Type 0) (r : ℕ) (xs : List ℕ) → All P xs → All (λ q. P q × (q ≢ r)) (without r xs)
unfolding without
without_all P r [] h = tt
without_all P r (x ∷ xs) h = by (eqb x r) refl (without_all P r xs h.1)
  where
    by : (s : Bool) → eqb x r ≡ s → All (λ q. P q × (q ≢ r)) (without r xs) → All (λ q. P q × (q ≢ r)) (cond s (without r xs) (x ∷ without r xs))
    by true q k = k
    by false q k = ((h.0, eqb-false x r q), k)

module _ (c : Call) (rows : AllRows) (g : Ready c.schema c.base rows) where
  abbrev t : Schema
  t = schema_of c.schema

  abbrev b : List ℕ
  b = c.base

  abbrev n : ℕ
  n = set_in c

  abbrev e : Entry
  e = entry_in c

  abbrev j : ℕ
  j = path_in c

  module _ (spot : Spot) (ok : AddTests t b n j (brought_by c) spot) where
    abbrev r : ℕ
    r = add_place b t e (brought_by c) spot j

    abbrev a : List ℕ
    a = committed (check_by t.edition) b (add_stores b t e (brought_by c) spot j r)

    -- the records of a row are not the new one, and read as they did
    others : (i k : ℕ) → IsPathOf t i k → (key : List ℕ) → shown b (entry_of t i) (rows i k key) ≡ shown a (entry_of t i) (rows i k key)
    others i k p key =
        shown-same b a (entry_of t i) (rows i k key)
        (all_map (Mine t b i k key) _ (λ q m. (add-point-step t g.world b rows g.stands n j (brought_by c) spot ok).areas i q p.0 p.1 m.0.0
        (λ s. never_both (is_live b e r) (rw (s.0, s.1) at m.0.1) (add-new t g.world b rows g.stands n j (brought_by c) spot ok).1)) (rows i k key) ((g.stands.paths i k p).mine key))

    pub add_turned : (place : Point → List Point → List Point) → ((d : List ℕ) (f : Entry) (q : ℕ) (xs : List ℕ) → place (point_of d f q) (shown d f xs) ≡ shown d f (inserted spot q xs))
        → Turned t b a rows (added c r place)
    add_turned place k = record {
      now = rows_added t n j (brought_by c) spot r rows;
      stands = add-keeps t g.world b rows g.stands n j (brought_by c) spot ok;
      shows = λ l i v p h key. by l i v key (eqb i n) refl (h key ∙ others i v p key);
    }
      where
        by : (l : Lists) (i v : ℕ) (key : List ℕ) (s : Bool) → eqb i n ≡ s → l i v key ≡ shown a (entry_of t i) (rows i v key)
            → cond (s && same_bytes key (area_key_on e (brought_by c) v)) (cond (eqb v j) (place (record { number = r; area = brought_by c }) (l i v key)) (l i v key ++ (record { number = r; area = brought_by c } ∷ []))) (l i v key)
            ≡ shown a (entry_of t i) (cond (s && same_bytes key (area_key_on e (brought_by c) v)) (inserted (spot_on spot j v) r (rows i v key)) (rows i v key))
        by l i v key true q h =
            let z : i ≡ n = eqb-true i n q in
            one_added a (entry_of t i) r spot (brought_by c) place (k a (entry_of t i) r) (rw z (add-area t g.world b rows g.stands n j (brought_by c) spot ok))
            (same_bytes key (area_key_on e (brought_by c) v)) (eqb v j) (rows i v key) (l i v key) h
        by l i v key false q h = h

  module _ (ok : DelTests t b n c.reference) where
    abbrev deleted : List ℕ
    deleted = committed (check_by t.edition) b (del_stores b t e c.reference)

    left-areas : (i q : ℕ) → t.masters ≤ i → i < set_count t → InSet (entry_of t i) q → ((i ≡ n) × (q ≡ c.reference) → ⊥) → area_of deleted (entry_of t i) q ≡ area_of b (entry_of t i) q
    left-areas = (del_point-step t g.world b rows g.stands n c.reference ok).areas

    pub del_turned : Turned t b deleted rows (in_set_of c (taken_out c.reference))
    del_turned = record {
      now = λ i v key. cond (eqb i n) (without c.reference (rows i v key)) (rows i v key);
      stands = del_keeps t g.world b rows g.stands n c.reference ok;
      shows = λ l i v p h key. by l i v p key (eqb i n) refl (h key);
    }
      where
        by : (l : Lists) (i v : ℕ) → IsPathOf t i v → (key : List ℕ) (s : Bool) → eqb i n ≡ s → l i v key ≡ shown b (entry_of t i) (rows i v key)
            → cond s (taken_out c.reference (l i v key)) (l i v key) ≡ shown deleted (entry_of t i) (cond s (without c.reference (rows i v key)) (rows i v key))
        by l i v p key true q h =
            rw h (taken-shown b (entry_of t i) c.reference (rows i v key))
            ∙ shown-same b deleted (entry_of t i) (without c.reference (rows i v key))
            (all_map _ _ (λ d m. left-areas i d p.0 p.1 m.0 (λ z. m.1 z.1)) (without c.reference (rows i v key))
            (without_all (InSet (entry_of t i)) c.reference (rows i v key) (inside t b rows g.stands i v p key)))
        by l i v p key false q h =
            h ∙ shown-same b deleted (entry_of t i) (rows i v key)
            (all_map (InSet (entry_of t i)) _ (λ d m. left-areas i d p.0 p.1 m (λ z. eqb-false i n q z.0)) (rows i v key) (inside t b rows g.stands i v p key))

  module _ (ok : WriteTests t b n c.reference c.area) where
    abbrev written : List ℕ
    written = committed (check_by t.edition) b (store_run e c.reference e.body (area_body e c.area) ∷ [])

    kept-areas : (i q : ℕ) → t.masters ≤ i → i < set_count t → InSet (entry_of t i) q → ((i ≡ n) × (q ≡ c.reference) → ⊥) → area_of written (entry_of t i) q ≡ area_of b (entry_of t i) q
    kept-areas = (write_point-step t g.world b rows g.stands n c.reference c.area ok).areas

    pub write_turned : Turned t b written rows (in_set_of c (rewritten c.reference (overwritten_by c)))
    write_turned = record {
      now = rows;
      stands = write_keeps t g.world b rows g.stands n c.reference c.area ok;
      shows = λ l i v p h key. by l i v p key (eqb i n) refl (h key);
    }
      where
        by : (l : Lists) (i v : ℕ) → IsPathOf t i v → (key : List ℕ) (s : Bool) → eqb i n ≡ s → l i v key ≡ shown b (entry_of t i) (rows i v key)
            → cond s (rewritten c.reference (overwritten_by c) (l i v key)) (l i v key) ≡ shown written (entry_of t i) (rows i v key)
        by l i v p key true q h =
            let z : i ≡ n = eqb-true i n q in
            rw h (rewritten-shown b written (entry_of t i) c.reference (overwritten_by c) (rows i v key)
            (rw z (write_area t g.world b rows g.stands n c.reference c.area ok))
            (all_map (InSet (entry_of t i)) _ (λ d m s. kept-areas i d p.0 p.1 m (λ z. s z.1)) (rows i v key) (inside t b rows g.stands i v p key)))
        by l i v p key false q h =
            h ∙ shown-same b written (entry_of t i) (rows i v key)
            (all_map (InSet (entry_of t i)) _ (λ d m. kept-areas i d p.0 p.1 m (λ z. eqb-false i n q z.0)) (rows i v key) (inside t b rows g.stands i v p key))
