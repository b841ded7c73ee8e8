-- The adds and DELVD, whole: the status that the code comes to is the ladder's, and the plan that it makes stands for the stores of the room
-- `points` and may be committed.
use Rattle.std.specs.Prelude.{ℕ, zero, suc, ◌+◌, ◌<◌, ◌≡◌, refl, Bool, true, false, cond, length, Result, Ok, Err, IfOk}
use Rattle.std.proofs.Math.Path.{sym, ap}
use Rattle.std.proofs.Common.{◌∙◌, arith, get_or-take}
use mathlib.Core.List.{List, append-nil}
use borrow.Author.Tests.{ne_eqb}
use Rattle.std.proofs.Math.ListN.{get_or}
use Rattle.octets.specs.Octets.{run}
use Rattle.octets.specs.Below.{upto, concat_below}
use Rattle.octets.specs.BelowLaws.{get_d_upto}
use Rattle.terms.specs.declared.Refusal.{Refusal}
use Rattle.terms.specs.declared.Status.{Status}
use Rattle.terms.specs.declared.Status.TheVariants.{Done, Mrnf, Full, Damg}
use Rattle.terms.specs.Status.{is_done, status_of}
use Rattle.schema.specs.declared.Entry.{Entry}
use Rattle.schema.specs.declared.Part.{Part}
use Rattle.schema.specs.declared.Schema.{Schema}
use Rattle.schema.specs.Decode.{path_of, masters_on}
use Rattle.schema.specs.Place.{InSet, record_of}
use Rattle.records.specs.declared.Link.{Link}
use Rattle.records.specs.Areas.{area_key_place, area_key_on, no_link, new_paths, new_variable}
use Rattle.plans.specs.declared.Head.{Head}
use Rattle.plans.specs.declared.Head.TheVariants.{Nothing, Variable}
use Rattle.plans.specs.declared.Plan.{Plan}
use Rattle.plans.specs.PlanOk.{PlanOk, AllFit, WordsOk}
use Rattle.plans.specs.Stores.{words_of, word_stores, plan_stores}
use Rattle.scan.specs.Scan.{is_full}
use Rattle.points.specs.declared.Spot.{Spot}
use Rattle.points.specs.PlaceLaws.{new_place_in}
use Rattle.points.specs.Points.{spot_on, neighbours_at, new_place, add_link, add_place, add_damaged, add_stores, own_key, own_link, del_damaged, del_stores}
use Rattle.point_plans.specs.Rest.{other_masters, add_status, del_status}
use Rattle.point_plans.specs.Paths.{link_on, link_at, own_links, new_links, place_at, both, both_on, damaged}
use Rattle.point_plans.specs.WithinLaws.{record_key}
use Rattle.point_plans.specs.DamageLaws.{links_in}
use Rattle.point_plans.specs.Plans.{Built}
use Rattle.point_plans.specs.SideLaws.{Known, sides_on, last_is, damaged-is, sides-are, sides_fit, sides-ok}

-- ---- the two ladders

-- where all masters are found and the rest is done, nothing was refused
pub rest-done : (f d : Bool) → cond f Full (cond d Damg Done) ≡ Done → (f ≡ false) × (d ≡ false)
rest-done true d h = absurd (let z : ◌≡◌ {A = ℕ} 0 1 = cc in omega arith)
rest-done false true h = absurd (let z : ◌≡◌ {A = ℕ} 0 1 = cc in omega arith)
rest-done false false h = (refl, refl)

module _ (b : List ℕ) (t : Schema) (e : Entry) (area : List ℕ) (spot : Spot) (on : ℕ) where
  pub add-refused : {s : Status} → s ≡ other_masters b (masters_on t e) on Mrnf (area_key_on e area) e.count → is_done s ≡ false → s ≡ add_status b t e area spot on
  unfolding add_status
  add-refused h d = rw (← h, d)

  pub add-passed : other_masters b (masters_on t e) on Mrnf (area_key_on e area) e.count ≡ Done
      → add_status b t e area spot on ≡ cond (is_full b e) Full (cond (add_damaged b t e area spot on) Damg Done)
  unfolding add_status
  add-passed h = rw h

module _ (b : List ℕ) (t : Schema) (e : Entry) (r on : ℕ) where
  pub del_refused : {s : Status} → s ≡ other_masters b (masters_on t e) on Damg (own_key b t e r) e.count → is_done s ≡ false → s ≡ del_status b t e r on
  unfolding del_status
  del_refused h d = rw (← h, d)

  pub del_passed : other_masters b (masters_on t e) on Damg (own_key b t e r) e.count ≡ Done → del_status b t e r on ≡ cond (del_damaged b t e r) Damg Done
  unfolding del_status
  del_passed h = rw h

-- ---- the words of a plan, for neighbours f that become g

module _ (b : List ℕ) (t : Schema) (e : Entry) (key : ℕ → List ℕ) (owners : List Part) (known : Known b (masters_on t e) e key owners) (f g : ℕ → Link) (ls vs : List Link)
    (linked : (k : ℕ) → k < e.count → get_or ls k no_link ≡ f k) (valued : (k : ℕ) → k < e.count → get_or vs k no_link ≡ g k) where
  words_are : (h : Head) (r w : ℕ) (p : Plan) → Built e owners ls vs h r w p → word_stores (words_of p) ≡ concat_below (sides_on b t e key f g) e.count
  words_are h r w p made = ap word_stores made.words ∙ sides-are b t e key owners known ls vs f g linked valued

  words-ok : (h : Head) (r w : ℕ) (p : Plan) → Built e owners ls vs h r w p → WordsOk (words_of p)
  words-ok h r w p made = rw made.words (sides-ok b t e key owners known ls vs)

  words_fit : (h : Head) (r w : ℕ) (p : Plan) → Built e owners ls vs h r w p → (src at : List ℕ) → damaged b e src at owners ls ≡ false → AllFit (length b) (word_stores (words_of p))
  words_fit h r w p made src at clean =
      rw (words_are h r w p made)
      (sides_fit b t e key owners known f g (λ k l. rw (linked k l) at ((links_in b e src at owners ls clean).inside k l)))

-- ---- an add

-- only the neighbours on the paths of the set are stored
new-paths-same : (e : Entry) (ls ms : List Link) (area : List ℕ) (n j : ℕ) → ((k : ℕ) → k < j + n → get_or ls k no_link ≡ get_or ms k no_link) → new_paths e ls area n j ≡ new_paths e ms area n j
unfolding new_paths
new-paths-same e ls ms area zero j h = refl
new-paths-same e ls ms area (suc n) j h = rw (h j (omega arith), new-paths-same e ls ms area n (j + 1) (λ k l. h k (omega arith)))

new-variable-same : (e : Entry) (ls ms : List Link) (area : List ℕ) → ((k : ℕ) → k < e.count → get_or ls k no_link ≡ get_or ms k no_link) → new_variable e ls area ≡ new_variable e ms area
unfolding new_variable
new-variable-same e ls ms area h = rw (new-paths-same e ls ms area e.count 0 (λ k l. h k (omega arith)))

module _ (b : List ℕ) (t : Schema) (e : Entry) (area : List ℕ) (spot : Spot) (on : ℕ) (owners : List Part) (known : Known b (masters_on t e) e (area_key_on e area) owners) where
  abbrev link : ℕ → Link
  link k = add_link b t e area spot on k

  link-is : (k : ℕ) → k < e.count → link_at b e owners spot on k ≡ link k
  link-is k l = ap (λ (z : ℕ). neighbours_at b e (path_of e k) z (spot_on spot on k)) (last_is b t e (area_key_on e area) owners known k l)

  link-at : (k : ℕ) → k < e.count → get_or (new_links b e owners spot on) k no_link ≡ link k
  link-at k l = get_d_upto (link_at b e owners spot on) e.count k no_link l ∙ link-is k l

  pub add_damage_lem : (at : List ℕ) → ((k : ℕ) → k < e.count → get_or at k 0 ≡ area_key_place e k) → damaged b e area at owners (new_links b e owners spot on) ≡ add_damaged b t e area spot on
  unfolding add_damaged
  add_damage_lem at places =
      damaged-is b t e (area_key_on e area) owners known area at (new_links b e owners spot on) link (λ k l. ap (λ (n : ℕ). run area n (path_of e k).len) (places k l)) link-at

  -- the plan stands for the stores
  pub add-stores : (r : ℕ) (p : Plan) → Built e owners (new_links b e owners spot on) (both_on e r) Variable r 0 p → plan_stores b e area p ≡ add_stores b t e area spot on r
  unfolding plan_stores add_stores
  add-stores r p made =
      let links : new_variable e p.links area ≡ new_variable e (upto link e.count) area
      = new-variable-same e p.links (upto link e.count) area (λ k l. at_path k l ∙ sym (get_d_upto link e.count k no_link l)) in
      let words : word_stores (words_of p) ≡ concat_below (sides_on b t e (area_key_on e area) link (λ k. both r)) e.count
      = words_are b t e (area_key_on e area) owners known link (λ k. both r) (new_links b e owners spot on) (both_on e r) link-at
      (λ k l. get_d_upto (λ i. both r) e.count k no_link l) Variable r 0 p made in
      rw (made.head, made.target, made.wiped, links, words, append-nil)
    where
      at_path : (k : ℕ) → k < e.count → get_or p.links k no_link ≡ link k
      at_path k l = sym (get_or-take e.count p.links k no_link l) ∙ ap (λ (xs : List Link). get_or xs k no_link) made.linked ∙ link-at k l

  -- and may be committed
  pub add_ok : (r : ℕ) (p : Plan) → Built e owners (new_links b e owners spot on) (both_on e r) Variable r 0 p → InSet e r → (at : List ℕ)
      → damaged b e area at owners (new_links b e owners spot on) ≡ false → PlanOk (length b) e p
  add_ok r p made in_set at clean =
      record {
        few = omega (arith, made.count, known.points.few);
        head = rw (made.head, made.target) (in_set, known.points.kind);
        words = words_fit b t e (area_key_on e area) owners known link (λ k. both r) (new_links b e owners spot on) (both_on e r) link-at
            (λ k l. get_d_upto (λ i. both r) e.count k no_link l) Variable r 0 p made area at clean;
        records = words-ok b t e (area_key_on e area) owners known link (λ k. both r) (new_links b e owners spot on) (both_on e r) link-at
            (λ k l. get_d_upto (λ i. both r) e.count k no_link l) Variable r 0 p made;
        wiped = rw made.wiped (omega arith);
      }

  -- the place that the code takes
  place_is : on < e.count → place_at b e owners spot on ≡ add_place b t e area spot on
  place_is l = ap (λ (z : Link). new_place b e z.prior) (link-is on l)

  -- the whole answer
  pub add-answer : (at : List ℕ) → ((k : ℕ) → k < e.count → get_or at k 0 ≡ area_key_place e k) → other_masters b (masters_on t e) on Mrnf (area_key_on e area) e.count ≡ Done
      → {s : Status} → s ≡ cond (is_full b e) Full (cond (damaged b e area at owners (new_links b e owners spot on)) Damg Done) → s ≡ add_status b t e area spot on
  add-answer at places done is = is ∙ (rw (add_damage_lem at places) (sym (add-passed b t e area spot on done)))

  pub add-plan : (at : List ℕ) (a : Result Plan Refusal) → on < e.count
      → status_of a ≡ cond (is_full b e) Full (cond (damaged b e area at owners (new_links b e owners spot on)) Damg Done)
      → IfOk a (Built e owners (new_links b e owners spot on) (both_on e (place_at b e owners spot on)) Variable (place_at b e owners spot on) 0)
      → IfOk a (λ p. (plan_stores b e area p ≡ add_stores b t e area spot on (add_place b t e area spot on)) × PlanOk (length b) e p × (p.target.0 ≡ add_place b t e area spot on) × (p.head ≡ Variable))
  add-plan at (Err why) named is made = tt
  add-plan at (Ok p) named is made =
      let w = rw (place_is named) at made in
      let d = rest-done (is_full b e) (damaged b e area at owners (new_links b e owners spot on)) (sym is) in
      (add-stores _ p w, add_ok _ p w (new_place_in b e _ d.0) at d.1, w.target, w.head)

-- ---- DELVD of the record r

module _ (b : List ℕ) (t : Schema) (e : Entry) (r : ℕ) (owners : List Part) (known : Known b (masters_on t e) e (own_key b t e r) owners) where
  own_at : (k : ℕ) → k < e.count → get_or (own_links b e r) k no_link ≡ own_link b t e r k
  own_at k l = get_d_upto (link_on b e r) e.count k no_link l

  pub del_damage_lem : (at : List ℕ) → ((k : ℕ) → k < e.count → get_or at k 0 ≡ (path_of e k).at) → damaged b e (record_of b e r) at owners (own_links b e r) ≡ del_damaged b t e r
  unfolding del_damaged
  del_damage_lem at places = damaged-is b t e (own_key b t e r) owners known (record_of b e r) at (own_links b e r) (own_link b t e r) (record_key b r at known.points places) own_at

  pub del_stores_lem : (p : Plan) → Built e owners (own_links b e r) (own_links b e r) Nothing r r p → InSet e r → (area : List ℕ) → plan_stores b e area p ≡ del_stores b t e r
  unfolding plan_stores del_stores
  del_stores_lem p made in_set area =
      let words : word_stores (words_of p) ≡ concat_below (sides_on b t e (own_key b t e r) (own_link b t e r) (own_link b t e r)) e.count
      = words_are b t e (own_key b t e r) owners known (own_link b t e r) (own_link b t e r) (own_links b e r) (own_links b e r) own_at own_at Nothing r r p made in
      rw (made.head, made.wiped, words, ne_eqb r 0 (λ z. omega arith))

  pub del_ok : (p : Plan) → Built e owners (own_links b e r) (own_links b e r) Nothing r r p → InSet e r → (at : List ℕ) → damaged b e (record_of b e r) at owners (own_links b e r) ≡ false → PlanOk (length b) e p
  del_ok p made in_set at clean =
      record {
        few = omega (arith, made.count, known.points.few);
        head = rw made.head tt;
        words = words_fit b t e (own_key b t e r) owners known (own_link b t e r) (own_link b t e r) (own_links b e r) (own_links b e r) own_at own_at Nothing r r p made (record_of b e r) at clean;
        records = words-ok b t e (own_key b t e r) owners known (own_link b t e r) (own_link b t e r) (own_links b e r) (own_links b e r) own_at own_at Nothing r r p made;
        wiped = rw made.wiped in_set.1;
      }

  pub del_answer : (at : List ℕ) (on : ℕ) → ((k : ℕ) → k < e.count → get_or at k 0 ≡ (path_of e k).at) → other_masters b (masters_on t e) on Damg (own_key b t e r) e.count ≡ Done
      → {s : Status} → s ≡ cond (damaged b e (record_of b e r) at owners (own_links b e r)) Damg Done → s ≡ del_status b t e r on
  del_answer at on places done is = is ∙ (rw (del_damage_lem at places) (sym (del_passed b t e r on done)))

  pub del_plan : (at : List ℕ) (a : Result Plan Refusal) → InSet e r → status_of a ≡ cond (damaged b e (record_of b e r) at owners (own_links b e r)) Damg Done
      → IfOk a (Built e owners (own_links b e r) (own_links b e r) Nothing r r)
      → IfOk a (λ p. ((area : List ℕ) → plan_stores b e area p ≡ del_stores b t e r) × PlanOk (length b) e p × (p.head ≡ Nothing))
  del_plan at (Err why) in_set is made = tt
  del_plan at (Ok p) in_set is made =
      let d = rest-done false (damaged b e (record_of b e r) at owners (own_links b e r)) (sym is) in
      (del_stores_lem p made in_set, del_ok p made in_set at d.1, made.head)
