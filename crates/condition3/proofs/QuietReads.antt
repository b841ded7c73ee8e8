-- READV and READR on a data base that stands for rows: the record that they come to is on the chain, or there is none. So they meet no damage.
use Rattle.std.specs.Prelude.{ℕ, ◌≡◌, ◌⊎◌, Bool, true, false, cond, not, ◌&&◌, ◌||◌, List, [], ◌∷◌, ◌++◌, eqb}
use Rattle.std.proofs.Math.Path.{refl}
use Rattle.std.proofs.Common.{inl, inr, ⊎_elim, arith}
use Rattle.std.proofs.lemmas.Bool.{not-false}
use Rattle.terms.specs.declared.Operation.{Operation}
use Rattle.terms.specs.Operation.{operation_of}
use Rattle.schema.specs.declared.Entry.{Entry}
use Rattle.schema.specs.declared.Schema.{Schema}
use Rattle.schema.specs.Decode.{path_of, schema_of, masters_on}
use Rattle.schema.specs.Place.{InSet, in_set}
use Rattle.schema.specs.Guarantee.{IsPathOf}
use Rattle.records.specs.Records.{master_key, first_on, last_on, next_on, prior_on}
use Rattle.masters.specs.Find.{record_found}
use Rattle.masters.proofs.FindLaws.{in_set_true}
use Rattle.points.specs.Chains.{is_point_of, read_damaged}
use Rattle.points.specs.Points.{find_on}
use Rattle.chains.specs.Members.{In, in_left, in_right}
use Rattle.chains.specs.Segments.{last_or, head_or, at_ends}
use Rattle.sound.specs.Sets.{Live}
use Rattle.calls.specs.Call.{Call, one_of, variable_calls, whole_calls}
use Rattle.calls.specs.Scene.{Scene, scene_under}
use Rattle.calls.specs.Ladder.{is_link, needers, finders, chain_reads}
use Rattle.calls.specs.Ladder.Rung.{ReadForm, ReadPoint}
use Rattle.calls.proofs.OutcomeLaws.{passed}
use Rattle.condition3.proofs.Outcomes.{parameter_rungs, found_rungs}
use Rattle.calls.proofs.LadderLaws.{Passes}
use Rattle.calls.specs.Reply.{master_in, forward, backward}
use Rattle.schema.specs.Naming.{link_of}
use Rattle.kept_state.specs.Rows.{next_node, prior_node, Mine, PathRows}
use Rattle.master_steps.specs.FindLaws.{found-live}
use Rattle.point_steps.specs.Neighbours.{read-quiet, point-cut}
use Rattle.condition3.specs.Plain.{set_in, entry_in, path_in}
use Rattle.condition3.specs.Shown.{Ready}
use Rattle.octets.specs.TestLaws.{asked}
use Rattle.condition3.proofs.Passed.{on-points}
use Rattle.condition3.proofs.CallTests.{point-told, point-master}

-- ---- ends of lists

head_in : (xs : List ℕ) → (head_or 0 xs ≡ 0) ⊎ In (head_or 0 xs) xs
head_in [] = inl refl
head_in (x ∷ xs) = inr (inl refl)

last_in : (p : ℕ) (xs : List ℕ) → (last_or p xs ≡ p) ⊎ In (last_or p xs) xs
last_in p [] = inl refl
last_in p (x ∷ xs) = ⊎_elim (λ e. inr (inl e)) (λ m. inr (inr m)) (last_in x xs)

-- none, or one of the list
abbrev OnList : ℕ → List ℕ → Type 0
OnList n xs = (n ≡ 0) ⊎ In n xs

behind-on : (n r : ℕ) (xs us vs : List ℕ) → xs ≡ us ++ (r ∷ vs) → n ≡ head_or 0 vs → OnList n xs
behind-on n r xs us vs q h = rw (q, h) (⊎_elim (λ z. inl z) (λ m. inr (in_right (head_or 0 vs) us (r ∷ vs) (inr m))) (head_in vs))

before_on : (n r : ℕ) (xs us vs : List ℕ) → xs ≡ us ++ (r ∷ vs) → n ≡ last_or 0 us → OnList n xs
before_on n r xs us vs q h = rw (q, h) (⊎_elim (λ z. inl z) (λ m. inr (in_left (last_or 0 us) us (r ∷ vs) m)) (last_in 0 us))

either : (a b : Bool) → not (a || b) ≡ false → a ≡ false → b ≡ true
either a b h q = not-false b (rw q at h)

both_fail : (a b : Bool) → (not a && not b) ≡ false → a ≡ false → b ≡ true
both_fail a b h q = not-false b (rw q at h)

-- ---- the call

module _ (c : Call) (rows : ℕ → ℕ → List ℕ → List ℕ) (g : Ready c.schema c.base rows) where
  abbrev t : Schema
  t = schema_of c.schema

  abbrev b : List ℕ
  b = c.base

  abbrev x : Scene
  x = scene_under t c

  abbrev o : Operation
  o = operation_of c.operation

  abbrev n : ℕ
  n = set_in c

  abbrev e : Entry
  e = entry_in c

  abbrev j : ℕ
  j = path_in c

  abbrev masters : Entry
  masters = masters_on t e j

  abbrev m : ℕ
  m = record_found (find_on b t e j c.key)

  abbrev linked : Bool
  linked = eqb c.reference (link_of (path_of e j))

  module _ (p : Passes x c parameter_rungs) (f : Passes x c found_rungs) (q : one_of o chain_reads ≡ true)
      (fs : one_of o whole_calls ≡ false) (v : one_of o variable_calls ≡ true) (fi : one_of o finders ≡ true)
      (mi : one_of o needers ≡ true) where
    path : IsPathOf t n j
    path = (on-points t g.world.ok c p fs v).0

    row : PathRows t b n j (rows n j)
    row = g.stands.paths n j path

    -- the named master
    master : Live b masters m × (master_key b masters m ≡ c.key)
    master =
        let k = (g.world.ok.path n j path).master in
        found-live b masters (g.world.ok.set (path_of e j).master.0 (omega arith)).some (g.stands.masters (path_of e j).master.0 k) c.key
        (point-master t g.world.ok c p f v fi mi)

    -- a number refers to a record of the chain
    number : linked ≡ false → InSet e c.reference
    unfolding scene_under
    number z = in_set_true e c.reference (either linked (in_set e c.reference) (asked (one_of o chain_reads) _ (passed x c parameter_rungs ReadForm refl p) q) z)

    mine : linked ≡ false → Mine t b n j c.key c.reference
    unfolding scene_under
    mine z =
        let a = point-told b e (path_of e j) c.key c.reference
        (both_fail linked (is_point_of b e (path_of e j) c.key c.reference) (asked (one_of o chain_reads) _ (passed x c found_rungs ReadPoint refl f) q) z) in
        ((number z, a.0), a.1)

    ends : (first_on b masters m (path_of e j) ≡ head_or 0 (rows n j c.key)) × (last_on b masters m (path_of e j) ≡ last_or 0 (rows n j c.key))
    ends = at_ends (next_node t b n j m) (prior_node t b n j m) 0 (rows n j c.key) 0 (rw master.1 at (row.chain m master.0))

    next_on_lem : (l : Bool) → linked ≡ l → OnList (cond l (first_on b masters m (path_of e j)) (next_on b e c.reference (path_of e j))) (rows n j c.key)
    next_on_lem true z = rw ends.0 (head_in (rows n j c.key))
    next_on_lem false z =
        let w = point-cut t b n j (rows n j) m c.key c.reference row master.0 master.1 (mine z) in
        behind-on _ c.reference (rows n j c.key) w.0 w.1 w.2 w.4

    prior-on : (l : Bool) → linked ≡ l → OnList (cond l (last_on b masters m (path_of e j)) (prior_on b e c.reference (path_of e j))) (rows n j c.key)
    prior-on true z = rw ends.1 (last_in 0 (rows n j c.key))
    prior-on false z =
        let w = point-cut t b n j (rows n j) m c.key c.reference row master.0 master.1 (mine z) in
        before_on _ c.reference (rows n j c.key) w.0 w.1 w.2 w.3

    quiet : (r : ℕ) → OnList r (rows n j c.key) → read_damaged b e (path_of e j) masters m c.key linked r ≡ false
    quiet r h = read-quiet t b n j (rows n j) m c.key linked r row master.0 master.1 h

    pub forward-quiet : read_damaged b x.entry x.path x.masters (master_in x) c.key (is_link x c) (forward x c) ≡ false
    unfolding scene_under
    forward-quiet = rw v (quiet (cond linked (first_on b masters m (path_of e j)) (next_on b e c.reference (path_of e j))) (next_on_lem linked refl))

    pub backward-quiet : read_damaged b x.entry x.path x.masters (master_in x) c.key (is_link x c) (backward x c) ≡ false
    unfolding scene_under
    backward-quiet = rw v (quiet (cond linked (last_on b masters m (path_of e j)) (prior_on b e c.reference (path_of e j))) (prior-on linked refl))
