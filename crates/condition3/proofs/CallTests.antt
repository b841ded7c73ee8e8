-- What each storing call has passed, once it comes to its last tests: the premises of its effect, from the tests of the ladder.
use Rattle.std.specs.Prelude.{ℕ, ◌<◌, ◌≡◌, ◌≢◌, Bool, cond, List, [], ◌∷◌, eqb}
use Rattle.std.proofs.Math.Path.{refl}
use Rattle.std.proofs.Common.{sym, ap, ◌∙◌, ne_eqb}
use Rattle.std.proofs.Math.Logic.{⊎_elim}
use Rattle.std.proofs.Math.Bool.{true, false, not, and-eq-true_iff}
use Rattle.std.proofs.lemmas.Bool.{not-false}
use Rattle.octets.specs.Octets.{same_bytes}
use Rattle.octets.specs.Below.{concat_below}
use Rattle.octets.specs.BelowLaws.{all_below-at, same?}
use Rattle.octets.specs.RunLaws.{same_bytes_eq}
use Rattle.terms.specs.declared.Operation.{Operation}
use Rattle.terms.specs.declared.Operation.TheVariants.{AddM, DelM, Writm, Writv, Addvb, Addva, Delvd}
use Rattle.terms.specs.Operation.{operation_of}
use Rattle.schema.specs.declared.Entry.{Entry}
use Rattle.schema.specs.declared.Path.{Path}
use Rattle.schema.specs.declared.Schema.{Schema}
use Rattle.schema.specs.Decode.{entry_of, path_of}
use Rattle.schema.specs.Guarantee.{SchemaOk}
use Rattle.records.specs.Records.{is_live, key_on}
use Rattle.records.specs.Areas.{is_master, area_key_on}
use Rattle.masters.specs.declared.Found.{Found}
use Rattle.masters.specs.declared.Found.TheVariants.{At, Missing, Damaged}
use Rattle.scan.specs.Scan.{is_full}
use Rattle.masters.specs.Find.{find, home_in, record_found, is_at, is_missing, is_damaged}
use Rattle.masters.specs.Root.{add_master_full}
use Rattle.points.specs.Chains.{is_point_of, has_points}
use Rattle.points.specs.Points.{find_on}
use Rattle.points.specs.declared.Spot.TheVariants.{Last, After, Before}
use Rattle.sound.specs.Sets.{Live}
use Rattle.calls.specs.Call.{Call, one_of, variable_calls, adds, whole_calls}
use Rattle.calls.specs.Scene.{Scene, scene_under}
use Rattle.schema.specs.Naming.{set_named, path_named}
use Rattle.calls.specs.Ladder.{other_stored_key, Rung, added_rungs, own_rungs, other_rungs, refuses, needers, finders, key_repeaters, numbered}
use Rattle.calls.specs.Ladder.Rung.{MasterIntact, MasterThere, MasterNew, NumberPoint, StoredKeys, NoPoints, MasterRoom, PointRoom}
use Rattle.calls.proofs.OperationLaws.{all_of}
use Rattle.calls.proofs.OutcomeLaws.{rung_in, has_rung, passed}
use Rattle.calls.proofs.LadderLaws.{Passes}
use Rattle.calls.specs.Reply.{full_area, home_of_key, spot_of}
use Rattle.kept_state.specs.Tests.{AddMasterTests, DelMasterTests, WriteMasterTests, SpotOk, AddTests, DelTests, WriteTests}
use Rattle.condition3.proofs.Calm.{passes-left, passes_at}
use Rattle.octets.specs.TestLaws.{asked}
use Rattle.condition3.proofs.Operations.{some-add}
use Rattle.condition3.proofs.Outcomes.{parameter_rungs, found_rungs}
use Rattle.condition3.proofs.Passed.{of_masters, on-points, area-right, key-told, area_keys_told, area-key-same, number-told, same_master-key, same_path_key, no_blank_keys}

-- ---- what a search found

missing_left : (f : Found) → is_damaged f ≡ false → is_at f ≡ false → is_missing f ≡ true
missing_left (At r) d a = sym a
missing_left Missing d a = refl
missing_left Damaged d a = sym d

at_left : (f : Found) → is_damaged f ≡ false → is_missing f ≡ false → is_at f ≡ true
at_left (At r) d m = refl
at_left Missing d m = sym m
at_left Damaged d m = sym d

-- ---- a record of a path, by its test

pub point-told : (b : List ℕ) (e : Entry) (p : Path) (key : List ℕ) (r : ℕ) → is_point_of b e p key r ≡ true → (is_live b e r ≡ true) × (key_on b e r p ≡ key)
point-told b e p key r h = let a = (and-eq-true_iff (is_live b e r) (same_bytes (key_on b e r p) key)).0 h in (a.0, same_bytes_eq _ _ a.1)

stored_keys : (b : List ℕ) (e : Entry) (r : ℕ) (area : List ℕ) → other_stored_key b e r area ≡ false → (k : ℕ) → k < e.count → area_key_on e area k ≡ key_on b e r (path_of e k)
unfolding other_stored_key
stored_keys b e r area h k l = same_bytes_eq _ _ (all_below-at (λ k. same_bytes (area_key_on e area k) (key_on b e r (path_of e k))) e.count k (not-false _ h) l)

module _ (t : Schema) (ok : SchemaOk t) (c : Call) where
  abbrev x : Scene
  x = scene_under t c

  abbrev o : Operation
  o = operation_of c.operation

  abbrev n : ℕ
  n = set_named t c.name

  abbrev e : Entry
  e = entry_of t n

  abbrev j : ℕ
  j = path_named t e c.path

  -- where the control key is looked for
  pub found-master : one_of o variable_calls ≡ false → x.found ≡ find c.base e c.key
  unfolding scene_under
  found-master q = rw q refl

  pub found-point : one_of o variable_calls ≡ true → x.found ≡ find_on c.base t e j c.key
  unfolding scene_under
  found-point q = rw q refl

  home-master : one_of o variable_calls ≡ false → home_of_key x c ≡ home_in e c.key
  unfolding scene_under
  home-master q = rw q refl

  module _ (p : Passes x c parameter_rungs) (f : Passes x c found_rungs) where
    -- the test of this name
    by : (r : Rung) → has_rung r found_rungs ≡ true → refuses x c (rung_in r found_rungs) ≡ false
    by r i = passed x c found_rungs r i f

    not-damaged : one_of o finders ≡ true → is_damaged x.found ≡ false
    unfolding scene_under
    not-damaged q = asked (one_of o finders) _ (by MasterIntact refl) q

    not_missing : one_of o needers ≡ true → is_missing x.found ≡ false
    unfolding scene_under
    not_missing q = asked (one_of o needers) _ (by MasterThere refl) q

    pub add-master-tests : o ≡ AddM → refuses x c MasterRoom ≡ false → AddMasterTests t c.base n c.key (full_area x c)
    unfolding scene_under
    add-master-tests q h =
        let m = of_masters t ok c p (rw q refl) (rw q refl) in
        let d : is_damaged (find c.base e c.key) ≡ false = rw (found-master (rw q refl)) at (not-damaged (rw q refl)) in
        let a : is_at (find c.base e c.key) ≡ false = rw (found-master (rw q refl)) at (asked (one_of o (AddM ∷ [])) (is_at x.found) (by MasterNew refl) (rw q refl)) in
        record {
          set = m.0;
          area-length = area-right t ok c p (rw q refl);
          no_blank = key-told t ok c p (rw q refl);
          same_key = same_master-key e j c.key (full_area x c) m.1 (area-key-same t ok c p (rw q refl));
          absent = missing_left (find c.base e c.key) d a;
          room = rw (home-master (rw q refl)) at (asked (one_of o (AddM ∷ [])) (add_master_full c.base e (home_of_key x c)) h (rw q refl));
        }

    found_at : one_of o finders ≡ true → one_of o needers ≡ true → is_at x.found ≡ true
    found_at q r = at_left x.found (not-damaged q) (not_missing r)

    pub del_master-tests : o ≡ DelM → refuses x c NoPoints ≡ false → DelMasterTests t c.base n c.key
    unfolding scene_under
    del_master-tests q h =
        let m = of_masters t ok c p (rw q refl) (rw q refl) in
        record {
          set = m.0;
          found = rw (found-master (rw q refl)) at (found_at (rw q refl) (rw q refl));
          no_points = rw (found-master (rw q refl)) at (asked (one_of o (DelM ∷ [])) (has_points t c.base n (record_found x.found)) h (rw q refl));
        }

    pub write_master-tests : o ≡ Writm → WriteMasterTests t c.base n c.key (full_area x c)
    write_master-tests q =
        let m = of_masters t ok c p (rw q refl) (rw q refl) in
        record {
          set = m.0;
          area-length = area-right t ok c p (rw q refl);
          found = rw (found-master (rw q refl)) at (found_at (rw q refl) (rw q refl));
        }

    -- the master of a call on points
    pub point-master : one_of o variable_calls ≡ true → one_of o finders ≡ true → one_of o needers ≡ true
        → is_at (find_on c.base t e j c.key) ≡ true
    point-master v q r = rw (found-point v) at (found_at q r)

    -- the referenced record
    referenced : one_of o numbered ≡ true
        → Live c.base e c.reference × (key_on c.base e c.reference (path_of e j) ≡ c.key)
    unfolding scene_under
    referenced q =
        let a = point-told c.base e (path_of e j) c.key c.reference
        (not-false _ (asked (one_of o numbered) _ (by NumberPoint refl) q)) in
        ((number-told t ok c p q, a.0), a.1)

    pub del_tests : o ≡ Delvd → DelTests t c.base n c.reference
    del_tests q =
        let m = on-points t ok c p (rw q refl) (rw q refl) in
        record { set = (m.0.0, m.0.1); live = (referenced (rw q refl)).0 }

    pub write_tests : o ≡ Writv → WriteTests t c.base n c.reference (full_area x c)
    unfolding scene_under
    write_tests q =
        let m = on-points t ok c p (rw q refl) (rw q refl) in
        record {
          set = (m.0.0, m.0.1);
          live = (referenced (rw q refl)).0;
          area-length = area-right t ok c p (rw q refl);
          same_keys = stored_keys c.base e c.reference (full_area x c) (asked (one_of o (Writv ∷ [])) _ (by StoredKeys refl) (rw q refl));
        }

    -- ---- the adds

    same_key : one_of o adds ≡ true → one_of o key_repeaters ≡ true → is_master e ≡ false → area_key_on e (full_area x c) j ≡ c.key
    same_key q r m = same_path_key e j c.key (full_area x c) m (area-key-same t ok c p r)

    named-found : area_key_on e (full_area x c) j ≡ c.key → is_at (find_on c.base t e j c.key) ≡ true → (i : ℕ) → i ≡ j → is_at (find_on c.base t e i (area_key_on e (full_area x c) i)) ≡ true
    named-found k h i s = rw s (ap (λ (z : List ℕ). is_at (find_on c.base t e j z)) k ∙ h)

    other_found : (k : ℕ) → k < e.count → k ≢ j → one_of o adds ≡ true → Passes x c (other_rungs x.entry.count) → is_at (find_on c.base t e k (area_key_on e (full_area x c) k)) ≡ true
    unfolding scene_under
    other_found k l d q h =
        let u = passes_at x c added_rungs e.count k l (passes-left x c (concat_below added_rungs e.count) (concat_below own_rungs e.count) h) in
        let s : not (eqb k j) ≡ true = rw (ne_eqb k j d) refl in
        let f = find_on c.base t e k (area_key_on e (full_area x c) k) in
        at_left f (asked (not (eqb k j)) (is_damaged f) (asked (one_of o adds) _ u.0 q) s) (asked (not (eqb k j)) (is_missing f) (asked (one_of o adds) _ u.1.0 q) s)

    abbrev Spots : Operation → Type 0
    Spots u = o ≡ u → area_key_on e (full_area x c) j ≡ c.key → SpotOk t c.base n j (full_area x c) (spot_of u c.reference)

    beside : (u : Operation) → one_of u numbered ≡ true → o ≡ u → area_key_on e (full_area x c) j ≡ c.key
        → Live c.base e c.reference × (key_on c.base e c.reference (path_of e j) ≡ area_key_on e (full_area x c) j)
    beside u h q k = let r = referenced (rw q h) in (r.0, r.1 ∙ sym k)

    spot_told : (u : Operation) → Spots u
    spot_told u q k = at_spot (one_of u (Addva ∷ [])) (one_of u (Addvb ∷ [])) refl refl
      where
        at_spot : (v w : Bool) → one_of u (Addva ∷ []) ≡ v → one_of u (Addvb ∷ []) ≡ w
            → SpotOk t c.base n j (full_area x c) (cond v (After (record { 0 = c.reference })) (cond w (Before (record { 0 = c.reference })) Last))
        at_spot true w h g = beside u (all_of (λ u. one_of u (Addva ∷ [])) (λ u. one_of u numbered) refl u h) q k
        at_spot false true h g = beside u (all_of (λ u. one_of u (Addvb ∷ [])) (λ u. one_of u numbered) refl u g) q k
        at_spot false false h g = tt

    pub add-tests : (u : Operation) → o ≡ u → one_of u adds ≡ true → Passes x c (other_rungs x.entry.count)
        → refuses x c PointRoom ≡ false → AddTests t c.base n j (full_area x c) (spot_of u c.reference)
    unfolding scene_under
    add-tests u q a h full =
        let is = some-add u a in
        let fs : one_of o whole_calls ≡ false = rw q is.on-set in
        let v : one_of o variable_calls ≡ true = rw q is.of_points in
        let fi : one_of o finders ≡ true = rw q is.finds in
        let mi : one_of o needers ≡ true = rw q is.needs in
        let m = on-points t ok c p fs v in
        let k = same_key (rw q a) (rw q is.repeats) m.1 in
        record {
          path = m.0;
          area-length = area-right t ok c p (rw q is.has-area);
          no_blank = no_blank_keys e (full_area x c) m.1 (area_keys_told t ok c p (rw q is.brings));
          found = λ i l. ⊎_elim (λ s. named-found k (point-master v fi mi) i s) (λ d. other_found i l d (rw q a) h) (same? i j);
          spot_ok = spot_told u q k;
          room = asked (one_of o adds) (is_full c.base e) full (rw q a);
        }
