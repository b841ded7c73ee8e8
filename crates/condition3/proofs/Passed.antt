-- What a call that has passed its tests of parameters knows, in the words of the proof. `t` is the schema, `c` the call; its set is number
-- `n`, with the entry `e`, and the named path is number `j` of it. The numbers over the lemmas, 4 to 11, are those of the tests in document 01,
-- "Status numbers".
use Rattle.std.specs.Prelude.{ℕ, ◌<◌, ◌≡◌, refl, true, false, cond, not, ◌&&◌, List, length}
use borrow.Author.Tests.{eqb-true, ltb-true, not-true, not-false}
use Rattle.octets.specs.Octets.{all_blank, same_bytes}
use Rattle.octets.specs.BelowLaws.{all_below-at}
use Rattle.octets.specs.TestLaws.{asked, neither}
use Rattle.octets.specs.RunLaws.{same_bytes_eq}
use Rattle.terms.specs.declared.Operation.{Operation}
use Rattle.terms.specs.Operation.{operation_of}
use Rattle.schema.specs.declared.Entry.{Entry}
use Rattle.schema.specs.declared.Schema.{Schema}
use Rattle.schema.specs.Decode.{entry_of, set_count}
use Rattle.schema.specs.Place.{InSet}
use Rattle.schema.specs.Guarantee.{SchemaOk, IsPathOf}
use Rattle.records.proofs.KindLaws.{among-masters, behind-masters}
use Rattle.records.specs.Areas.{is_master, area_length, area_master_key, area_key_on}
use Rattle.masters.proofs.FindLaws.{in_set_true}
use Rattle.calls.specs.Call.{Call, one_of, master_calls, variable_calls, whole_calls}
use Rattle.calls.specs.Scene.{scene_under}
use Rattle.calls.specs.Reply.{full_area}
use Rattle.schema.specs.Naming.{set_named, path_named}
use Rattle.calls.specs.Ladder.{wrong_kind, blank_area_key, other_area_key, Rung, refuses, arealess, keyless, key_bringers, key_repeaters, numbered}
use Rattle.calls.specs.Ladder.Rung.{SetName, SetKind, PathName, AreaLength, KeyNotBlank, AreaKeysNotBlank, AreaKeySame, NumberForm}
use Rattle.calls.proofs.LadderLaws.{Passes}
use Rattle.calls.proofs.OutcomeLaws.{rung_in, has_rung, passed}
use Rattle.condition3.proofs.Calm.{unasked}
use Rattle.condition3.proofs.Outcomes.{parameter_rungs}

kind-master : (o : Operation) (e : Entry) → wrong_kind o e ≡ false → one_of o master_calls ≡ true → is_master e ≡ true
unfolding wrong_kind
kind-master o e h m = not-false _ (asked (one_of o master_calls) (not (is_master e)) (neither _ _ h).0 m)

kind-variable : (o : Operation) (e : Entry) → wrong_kind o e ≡ false → one_of o variable_calls ≡ true → is_master e ≡ false
unfolding wrong_kind
kind-variable o e h m = asked (one_of o variable_calls) (is_master e) (neither (one_of o master_calls && not (is_master e)) _ h).1 m

pub same_master-key : (e : Entry) (j : ℕ) (key area : List ℕ) → is_master e ≡ true → other_area_key e j key area ≡ false → area_master_key e area ≡ key
unfolding other_area_key
same_master-key e j key area m h = same_bytes_eq (area_master_key e area) key (rw m at (not-false (same_bytes (cond (is_master e) (area_master_key e area) (area_key_on e area j)) key) h))

pub same_path_key : (e : Entry) (j : ℕ) (key area : List ℕ) → is_master e ≡ false → other_area_key e j key area ≡ false → area_key_on e area j ≡ key
unfolding other_area_key
same_path_key e j key area m h = same_bytes_eq (area_key_on e area j) key (rw m at (not-false (same_bytes (cond (is_master e) (area_master_key e area) (area_key_on e area j)) key) h))

pub no_blank_keys : (e : Entry) (area : List ℕ) → is_master e ≡ false → blank_area_key e area ≡ false → (k : ℕ) → k < e.count → all_blank (area_key_on e area k) ≡ false
unfolding blank_area_key
no_blank_keys e area m h k l = not-true _ (all_below-at (λ k. not (all_blank (area_key_on e area k))) e.count k (not-false _ (rw m at h)) l)

module _ (t : Schema) (ok : SchemaOk t) (c : Call) where
  abbrev o : Operation
  o = operation_of c.operation

  abbrev n : ℕ
  n = set_named t c.name

  abbrev e : Entry
  e = entry_of t n

  abbrev j : ℕ
  j = path_named t e c.path

  module _ (h : Passes (scene_under t c) c parameter_rungs) where
    -- the test of this name
    by : (r : Rung) → has_rung r parameter_rungs ≡ true → refuses (scene_under t c) c (rung_in r parameter_rungs) ≡ false
    by r i = passed (scene_under t c) c parameter_rungs r i h

    -- 4
    set_known : one_of o whole_calls ≡ false → n < set_count t
    unfolding scene_under
    set_known q = ltb-true _ _ (not-false _ (unasked (one_of o whole_calls) _ (by SetName refl) q))

    -- 5
    kind-right : one_of o whole_calls ≡ false → wrong_kind o e ≡ false
    unfolding scene_under
    kind-right q = unasked (one_of o whole_calls) _ (by SetKind refl) q

    pub of_masters : one_of o whole_calls ≡ false → one_of o master_calls ≡ true → (n < t.masters) × (is_master e ≡ true)
    of_masters q m = let k = kind-master o e (kind-right q) m in (among-masters t ok n (set_known q) k, k)

    -- 6
    pub on-points : one_of o whole_calls ≡ false → one_of o variable_calls ≡ true → IsPathOf t n j × (is_master e ≡ false)
    unfolding scene_under
    on-points q m =
        let k = kind-variable o e (kind-right q) m in
        ((behind-masters t ok n k, set_known q, ltb-true _ _ (not-false _ (asked (one_of o variable_calls) _ (by PathName refl) m))), k)

    -- 7
    pub area-right : one_of o arealess ≡ false → length c.area ≡ area_length e
    unfolding scene_under
    area-right q = eqb-true _ _ (not-false _ (unasked (one_of o arealess) _ (by AreaLength refl) q))

    -- 9
    pub key-told : one_of o keyless ≡ false → all_blank c.key ≡ false
    unfolding scene_under
    key-told q = unasked (one_of o keyless) _ (by KeyNotBlank refl) q

    pub area_keys_told : one_of o key_bringers ≡ true → blank_area_key e (full_area (scene_under t c) c) ≡ false
    unfolding scene_under
    area_keys_told q = asked (one_of o key_bringers) _ (by AreaKeysNotBlank refl) q

    -- 10
    pub area-key-same : one_of o key_repeaters ≡ true → other_area_key e j c.key (full_area (scene_under t c) c) ≡ false
    unfolding scene_under
    area-key-same q = asked (one_of o key_repeaters) _ (by AreaKeySame refl) q

    -- 11
    pub number-told : one_of o numbered ≡ true → InSet e c.reference
    unfolding scene_under
    number-told q = in_set_true e c.reference (not-false _ (asked (one_of o numbered) _ (by NumberForm refl) q))
