-- ADDVC, ADDVB, ADDVA: their stores are the deeds of a linkage, by what their tests say, and the bytes of the new record are those of the area and
-- of its neighbours. So the data base after them stands for the rows with the new record in the list of its key on every path of its set.
use Rattle.std.specs.Prelude.{ℕ, ◌<◌, ◌≡◌, refl, Bool, true, false, cond, not, ◌&&◌, eqb, get_or}
use Rattle.std.proofs.Common.{sym, ◌∙◌, ⊎_elim, eq-eqb, ne_eqb}
use Rattle.std.proofs.Math.Path.{ap}
use mathlib.Core.List.{List, ◌∷◌}
use Rattle.octets.specs.Octets.{run, zeros, same_bytes}
use Rattle.octets.specs.Below.{upto}
use Rattle.octets.specs.BelowLaws.{get_d_upto}
use Rattle.octets.specs.TestLaws.{never_both}
use Rattle.octets.specs.RunLaws.{ne_same_bytes}
use Rattle.schema.specs.declared.Entry.{Entry}
use Rattle.schema.specs.declared.Schema.{Schema}
use Rattle.schema.specs.Decode.{entry_of}
use Rattle.schema.specs.Place.{InSet}
use Rattle.schema.specs.Guarantee.{IsPathOf}
use Rattle.records.specs.declared.Link.{Link}
use Rattle.records.specs.Records.{is_live, key_on}
use Rattle.records.specs.Areas.{is_master, area_key_on, no_link, new_variable, area_of}
use Rattle.records.proofs.KindLaws.{is_variable}
use Rattle.records.specs.Address.{body, key, prior, next}
use Rattle.records.specs.Fields.{Fields}
use Rattle.records.proofs.NewLaws.{length-new_variable, new-variable-state, new-variable-key, new-variable-prior, new-variable-next, new-variable_body}
use Rattle.blocks.specs.Blocks.{check_by}
use Rattle.plans.specs.Plan.{Store, store_record, blocks_sealed, committed}
use Rattle.points.specs.declared.Spot.{Spot}
use Rattle.points.specs.PlaceLaws.{new_place_in, new_place_free}
use Rattle.points.specs.Points.{spot_on, add_link, add_place, add_stores}
use Rattle.kept_state.specs.Deeds.{stores_for, after}
use Rattle.kept_state.specs.Rows.{World, Represents, inserted}
use Rattle.kept_state.specs.Tests.{AddTests}
use Rattle.point_steps.specs.RowFacts.{path_numbered, next_node_at, prior_node_at}
use Rattle.point_steps.specs.Nodes.{node}
use Rattle.kept_state.specs.AreaMade.{area-made}
use Rattle.point_steps.specs.PointSteps.{PointStep}
use Rattle.point_steps.specs.RowChange.{Linkage, side_of, key?}
use Rattle.point_steps.specs.Neighbours.{add_linkage, add-place}
use Rattle.point_steps.specs.Sides.{link_deeds, sides-stores, Linking, linked-storable, linked-field, linked-word, linked-step, side-small, side_set, linked-keeps}

-- the rows after an add: r into the list of its key on every path of its set, at the spot on the named path, last on the others
abbrev pub rows_added : Schema → ℕ → ℕ → List ℕ → Spot → ℕ → (ℕ → ℕ → List ℕ → List ℕ) → ℕ → ℕ → List ℕ → List ℕ
rows_added t i named area spot r rows k j q =
    cond (eqb k i && same_bytes q (area_key_on (entry_of t i) area j)) (inserted (spot_on spot named j) r (rows k j q)) (rows k j q)

-- the new record has its three zeros
new-zeroed : (e : Entry) (links : List Link) (area : List ℕ) → run (new_variable e links area) 1 3 ≡ zeros 3
unfolding new_variable
new-zeroed e links area = refl

module _ (t : Schema) (w : World t) (b : List ℕ) (rows : ℕ → ℕ → List ℕ → List ℕ) (g : Represents t b rows) (i named : ℕ) (area : List ℕ) (spot : Spot)
    (ok : AddTests t b i named area spot) where
  pub add-new : InSet (entry_of t i) (add_place b t (entry_of t i) area spot named) × (is_live b (entry_of t i) (add_place b t (entry_of t i) area spot named) ≡ false)
  add-new = (new_place_in b (entry_of t i) _ ok.room, new_place_free b (entry_of t i) _ ok.room)

  -- the call, its stores and the data base after it
  abbrev call : Linkage
  call = add_linkage t b rows i named area spot

  add-stores : add_stores b t (entry_of t i) area spot named (add_place b t (entry_of t i) area spot named) ≡ stores_for t (link_deeds t call)
  unfolding add_stores
  add-stores = ap (λ (xs : List Store). store_record (entry_of t i) call.at call.bytes ∷ xs) (sides-stores t call)

  abbrev left : List ℕ
  left = after t b (link_deeds t call)

  abbrev links : List Link
  links = upto (add_link b t (entry_of t i) area spot named) (entry_of t i).count

  fields : Fields (entry_of t i)
  fields = w.fields i ok.path.1

  variable : is_master (entry_of t i) ≡ false
  variable = is_variable t w.ok i ok.path.0 ok.path.1

  adding : Linking t b rows call
  adding =
      record {
        world = w;
        state = g;
        set = (ok.path.0, ok.path.1);
        number = add-new.0;
        place = add-place t w b rows g i named area spot ok;
        long = length-new_variable (entry_of t i) links area fields variable ok.area-length ∙ sym (w.ok.set i ok.path.1).sized;
        zeroed = new-zeroed (entry_of t i) links area;
        live = eq-eqb _ 1 (new-variable-state (entry_of t i) links area fields variable ok.area-length);
        wiped = λ z. absurd (never_both true refl z);
      }

  -- the new record on path k: its key, and the pointers to its neighbours
  module _ (k : ℕ) (l : k < (entry_of t i).count) where
    path : IsPathOf t i k
    path = (ok.path.0, ok.path.1, l)

    key-new : key_on left (entry_of t i) call.at (path_numbered t i k) ≡ area_key_on (entry_of t i) area k
    key-new = linked-field adding (key k) path ∙ new-variable-key (entry_of t i) links area fields variable ok.area-length k l

    linked : get_or links k no_link ≡ call.link k
    linked = get_d_upto call.link (entry_of t i).count k no_link l

    node-new : (way : Bool) → node t left way i k (call.master k) call.at ≡ side_of (not way) (call.link k)
    node-new true =
        next_node_at t left i k (call.master k) call.at add-new.0.0 ∙ linked-word adding (next k) path refl
        ∙ (rw linked at (new-variable-next (entry_of t i) links area fields variable ok.area-length k l (rw linked (side-small adding k l false))))
    node-new false =
        prior_node_at t left i k (call.master k) call.at add-new.0.0 ∙ linked-word adding (prior k) path refl
        ∙ (rw linked at (new-variable-prior (entry_of t i) links area fields variable ok.area-length k l (rw linked (side-small adding k l true))))

  pub add-storable : blocks_sealed (check_by t.edition) b (add_stores b t (entry_of t i) area spot named (add_place b t (entry_of t i) area spot named)) ≡ true
  add-storable = rw add-stores (linked-storable adding)

  pub add-point-step : PointStep t b (committed (check_by t.edition) b (add_stores b t (entry_of t i) area spot named (add_place b t (entry_of t i) area spot named))) i (add_place b t (entry_of t i) area spot named)
  add-point-step = rw add-stores (linked-step adding)

  pub add-area : area_of (committed (check_by t.edition) b (add_stores b t (entry_of t i) area spot named (add_place b t (entry_of t i) area spot named))) (entry_of t i) (add_place b t (entry_of t i) area spot named) ≡ area
  add-area =
      rw add-stores
      (area-made left (entry_of t i) call.at area fields variable ok.area-length key-new
      (linked-field adding body ok.path.1 ∙ new-variable_body (entry_of t i) links area fields variable ok.area-length))

  pub add-keeps : Represents t (committed (check_by t.edition) b (add_stores b t (entry_of t i) area spot named (add_place b t (entry_of t i) area spot named))) (rows_added t i named area spot (add_place b t (entry_of t i) area spot named) rows)
  add-keeps =
      rw add-stores
      (linked-keeps adding (rows_added t i named area spot call.at rows) (λ k j q d. rw (ne_eqb k i d) refl)
      (λ j l q. rw (eq-eqb i i refl) (⊎_elim (λ e. rw e refl) (λ n. rw (ne_same_bytes q (call.key j) n) refl) (key? q (call.key j))))
      (λ j l. ((side_set adding j l true, node-new j l false), (node-new j l true, side_set adding j l false))) (λ j l s. key-new j l))
