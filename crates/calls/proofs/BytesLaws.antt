-- Buffers stay lists of bytes: what every outcome leaves in area and data base is bytes, if they were.
use Prim.Native.Nat.{ℕ, zero, suc, ◌+◌, ◌-◌}
use Rattle.std.specs.Prelude.{Bool, cond, eqb, get_or}
use Rattle.std.proofs.Math.Bool.{true, false}
use mathlib.Core.List.{List, [], ◌∷◌, ◌++◌}
use Rattle.std.proofs.Common.{arith}
use Rattle.octets.specs.Octets.{Bytes, run, word_bytes, zeros, set_word}
use Rattle.octets.specs.SpliceLaws.{bytes_run, bytes-zeros}
use Rattle.octets.specs.WordLaws.{bytes-word_bytes, bytes-set_word}
use Rattle.octets.specs.Below.{upto, concat_below}
use Rattle.terms.specs.declared.Status.{Status}
use Rattle.terms.specs.Status.{status_number}
use Rattle.terms.specs.declared.Operation.{Operation}
use Rattle.terms.specs.declared.Operation.TheVariants.{Formt, AddM, DelM, Writm, Writv, Delvd}
use Rattle.schema.specs.declared.Path.{Path}
use Rattle.schema.specs.declared.Entry.{Entry}
use Rattle.schema.specs.declared.Schema.{Schema}
use Rattle.schema.specs.Decode.{path_of, paths_of, masters_on}
use Rattle.schema.specs.Place.{record_of, place_of}
use Rattle.records.specs.declared.Link.{Link}
use Rattle.records.specs.Records.{root_next, root_prior, is_live}
use Rattle.records.specs.Areas.{is_master, area_key_place, area_keys, live_head, no_link, keys_on, area_of, new_master, new_paths, new_variable}
use Rattle.blocks.specs.declared.Check.{Check}
use Rattle.blocks.specs.Blocks.{check_by}
use Rattle.plans.specs.Plan.{Store, store_word, formatted}
use Rattle.plans.proofs.PlanLaws.{AllBytes, bytes-committed, bytes-formatted}
use Rattle.scan.specs.Scan.{lowest_free}
use Rattle.masters.specs.Find.{held_by_own, tail_from}
use Rattle.masters.specs.Root.{root_prior_side, root_next_side, add_master_stores, synonym_moves, del_master_stores}
use Rattle.points.specs.Chains.{prior_side, next_side}
use Rattle.points.specs.declared.Spot.{Spot}
use Rattle.points.specs.Points.{add_master, add_link, add_stores, own_master, own_link, del_stores}
use Rattle.calls.specs.Call.{Call, one_of, adds}
use Rattle.calls.specs.Scene.{Scene, scene_of}
use Rattle.calls.specs.Ladder.{ladder, refusal}
use Rattle.calls.specs.Reply.{master_in, home_of_key, full_area, given, spot_of, new_record, area_after, write_stores, stores_by, stores_of, base_after}
use Rattle.calls.specs.Outcome.{refused, done, outcome_in, outcome}

-- ---- runs put together

-- a list of bytes, as a fact that names its list
pub record IsBytes (xs : List ℕ) : Type 0 where
  pub each : Bytes xs

append_each : (xs ys : List ℕ) → Bytes xs → Bytes ys → Bytes (xs ++ ys)
append_each [] ys h k i = k i
append_each (x ∷ xs) ys h k zero = h zero
append_each (x ∷ xs) ys h k (suc i) = append_each xs ys (λ j. h (suc j)) k i

both : {xs ys : List ℕ} → IsBytes xs → IsBytes ys → IsBytes (xs ++ ys)
both {xs} {ys} h k = record { each = append_each xs ys h.each k.each }

either : (b : Bool) {xs ys : List ℕ} → IsBytes xs → IsBytes ys → IsBytes (cond b xs ys)
either true h k = h
either false h k = k

part : {xs : List ℕ} (at n : ℕ) → IsBytes xs → IsBytes (run xs at n)
part {xs} at n h = record { each = bytes_run xs at n h.each }

nulls : (n : ℕ) → IsBytes (zeros n)
nulls n = record { each = bytes-zeros n }

word : (v : ℕ) → IsBytes (word_bytes v)
word v = record { each = bytes-word_bytes v }

format : (k : Check) (n : ℕ) → IsBytes (formatted k n)
format k n = record { each = bytes-formatted k n }

nothing : IsBytes []
nothing = record { each = λ i. omega arith }

head : IsBytes live_head
head = both (word 0x01000000) nothing

-- ---- new records, and areas

module _ (e : Entry) {area : List ℕ} (ha : IsBytes area) where
  a-new_master : (l : Link) → IsBytes (new_master e l area)
  unfolding new_master
  a-new_master l =
      both head (both (word l.next) (both (word l.prior) (both (part 0 e.key ha) (both (nulls (e.body - (12 + e.key))) (part (area_keys e) e.room ha)))))

  a-new_paths : (links : List Link) (n j : ℕ) → IsBytes (new_paths e links area n j)
  unfolding new_paths
  a-new_paths links zero j = nothing
  a-new_paths links (suc n) j =
      both (part (area_key_place e j) (path_of e j).len ha)
      (both (word (get_or links j no_link).prior) (both (word (get_or links j no_link).next) (a-new_paths links n (j + 1))))

  a-new_variable : (links : List Link) → IsBytes (new_variable e links area)
  unfolding new_variable
  a-new_variable links = both head (both (a-new_paths links e.count 0) (part (area_keys e) e.room ha))

module _ {b : List ℕ} (hb : IsBytes b) (e : Entry) (r : ℕ) where
  a-keys_on : (ps : List Path) → IsBytes (keys_on b e r ps)
  unfolding keys_on
  a-keys_on [] = nothing
  a-keys_on (p ∷ ps) = both (part (place_of e r + p.at) p.len hb) (a-keys_on ps)

  a-area_of : IsBytes (area_of b e r)
  unfolding area_of
  a-area_of = both (either (is_master e) (part (place_of e r + 12) e.key hb) (a-keys_on (paths_of e))) (part (place_of e r + e.body) e.room hb)

-- ---- the stores of each call

-- every store of a list is of bytes, as a fact that names its list
record OfBytes (xs : List Store) : Type 0 where
  each : AllBytes xs

all_append : (xs ys : List Store) → AllBytes xs → AllBytes ys → AllBytes (xs ++ ys)
all_append [] ys h k = k
all_append (x ∷ xs) ys h k = (h.0, all_append xs ys h.1 k)

then : {xs ys : List Store} → OfBytes xs → OfBytes ys → OfBytes (xs ++ ys)
then {xs} {ys} h k = record { each = all_append xs ys h.each k.each }

first : {x : Store} {xs : List Store} → IsBytes x.bytes → OfBytes xs → OfBytes (x ∷ xs)
first h k = record { each = (h.each, k.each) }

none : OfBytes []
none = record { each = tt }

choose : (t : Bool) {xs ys : List Store} → OfBytes xs → OfBytes ys → OfBytes (cond t xs ys)
choose true h k = h
choose false h k = k

paths : (f : ℕ → List Store) (n : ℕ) → ((k : ℕ) → OfBytes (f k)) → OfBytes (concat_below f n)
unfolding concat_below
paths f zero h = none
paths f (suc n) h = then (paths f n h) (h n)

module _ (e : Entry) where
  prior-side : (p v : ℕ) → OfBytes (root_prior_side e p v)
  prior-side p v = choose (eqb p 0) none (first (word v) none)

  next_side_lem : (n v : ℕ) → OfBytes (root_next_side e n v)
  next_side_lem n v = choose (eqb n 0) none (first (word v) none)

  -- one side of a place on a path is one word
  a-side : (t : Bool) (x y : Store) → IsBytes x.bytes → IsBytes y.bytes → IsBytes (cond t x y).bytes
  a-side true x y h k = h
  a-side false x y h k = k

  two_sides : (p : Path) (x : Entry) (m prior next v w : ℕ) → OfBytes (prior_side e p x m prior v ∷ next_side e p x m next w ∷ [])
  two_sides p x m prior next v w =
      first (a-side (eqb prior 0) (store_word x m p.link v) (store_word e prior (p.at + p.len + 4) v) (word v) (word v))
      (first (a-side (eqb next 0) (store_word x m (p.link + 4) w) (store_word e next (p.at + p.len) w) (word w) (word w)) none)

  a-add_master : {b area : List ℕ} → IsBytes b → IsBytes area → (h : ℕ) → OfBytes (add_master_stores b e h area)
  unfolding add_master_stores
  a-add_master {b} {area} hb ha h =
      choose (is_live b e h)
      (choose (held_by_own b e h)
      (first (a-new_master e ha _) (prior-side (tail_from e.records b e h) (lowest_free b e)))
      (first (part (place_of e h) e.size hb)
      (first (a-new_master e ha _) (then (prior-side (root_prior b e h) (lowest_free b e)) (next_side_lem (root_next b e h) (lowest_free b e))))))
      (first (a-new_master e ha _) none)

  a_del_master : {b : List ℕ} → IsBytes b → (h r : ℕ) → OfBytes (del_master_stores b e h r)
  unfolding del_master_stores
  a_del_master {b} hb h r =
      choose (synonym_moves b e h r)
      (first (moved (record_of b e (root_next b e r)) (part (place_of e (root_next b e r)) e.size hb))
      (then (next_side_lem (root_next b e (root_next b e r)) h) (first (nulls e.size) none)))
      (then (prior-side (root_prior b e r) (root_next b e r)) (then (next_side_lem (root_next b e r) (root_prior b e r)) (first (nulls e.size) none)))
    where
      moved : (xs : List ℕ) → IsBytes xs → IsBytes (set_word xs 8 0)
      moved xs k = record { each = bytes-set_word xs 8 0 k.each }

  a_add : {area : List ℕ} → IsBytes area → (b : List ℕ) (t : Schema) (s : Spot) (named r : ℕ) → OfBytes (add_stores b t e area s named r)
  unfolding add_stores
  a_add {area} ha b t s named r =
      first (a-new_variable e ha (upto (add_link b t e area s named) e.count))
      (paths _ _ (λ k.
      two_sides (path_of e k) (masters_on t e k) (add_master b t e area s named k) (add_link b t e area s named k).prior (add_link b t e area s named k).next r r))

  a_del : (b : List ℕ) (t : Schema) (r : ℕ) → OfBytes (del_stores b t e r)
  unfolding del_stores
  a_del b t r =
      then
      (paths _ _ (λ k.
      let l = own_link b t e r k in
      two_sides (path_of e k) (masters_on t e k) (own_master b t e r k) l.prior l.next l.next l.prior))
      (first (nulls e.size) none)

a_call : (o : Operation) (x : Scene) (c : Call) → IsBytes c.base → IsBytes (full_area x c) → OfBytes (stores_by o x c)
a_call o x c hb ha =
    choose (one_of o (AddM ∷ [])) (a-add_master x.entry hb ha (home_of_key x c))
    (choose (one_of o (DelM ∷ [])) (a_del_master x.entry hb (home_of_key x c) (master_in x))
    (choose (one_of o (Writm ∷ [])) (a_write (master_in x))
    (choose (one_of o (Writv ∷ [])) (a_write c.reference)
    (choose (one_of o adds) (a_add x.entry ha c.base x.schema (spot_of o c.reference) x.on (new_record o x c))
    (choose (one_of o (Delvd ∷ [])) (a_del x.entry c.base x.schema c.reference) none)))))
  where
    a_write : (r : ℕ) → OfBytes (write_stores x c r)
    a_write r = first (part (area_keys x.entry) x.entry.room ha) none

-- ---- the outcome

module _ (x : Scene) (c : Call) (hb : IsBytes c.base) (ha : IsBytes c.area) where
  base_done : IsBytes (base_after x c)
  unfolding base_after stores_of
  base_done =
      either (one_of x.operation (Formt ∷ [])) (format _ _)
      (record { each = bytes-committed (check_by x.schema.edition) c.base (stores_by x.operation x c) (a_call x.operation x c hb ha).each hb.each })

  area-done : IsBytes (area_after x c)
  unfolding area_after
  area-done = either (eqb (given x c) 0) ha (a-area_of hb x.entry (given x c))

  base_in : (b : Bool) (s : Status) → IsBytes (cond b (done x c) (refused c s)).base
  unfolding done
  base_in true s = base_done
  base_in false s = hb

  area_in : (b : Bool) (s : Status) → IsBytes (cond b (done x c) (refused c s)).area
  unfolding done
  area_in true s = area-done
  area_in false s = ha

-- every outcome keeps data base and area lists of bytes
pub base_bytes : (c : Call) → Bytes c.base → Bytes c.area → Bytes (outcome c).base
unfolding outcome outcome_in
base_bytes c hb ha =
    (base_in (scene_of c) c (record { each = hb }) (record { each = ha }) (eqb (status_number (refusal (scene_of c) c (ladder (scene_of c)))) 0) (refusal (scene_of c) c (ladder (scene_of c)))).each

pub area-bytes : (c : Call) → Bytes c.base → Bytes c.area → Bytes (outcome c).area
unfolding outcome outcome_in
area-bytes c hb ha =
    (area_in (scene_of c) c (record { each = hb }) (record { each = ha }) (eqb (status_number (refusal (scene_of c) c (ladder (scene_of c)))) 0) (refusal (scene_of c) c (ladder (scene_of c)))).each
