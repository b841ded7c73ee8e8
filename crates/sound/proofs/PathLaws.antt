-- What a sound path is, in the words of a proof: each live record's key is not blank and has its master, and each live master's chain holds
-- exactly its points. Test and words say the same.
use Rattle.std.specs.Prelude.{ℕ, ◌≡◌, Bool, false, ◌&&◌, ◌||◌, List}
use Rattle.std.proofs.Math.Path.{refl, sym}
use Rattle.std.proofs.Common.{◌∙◌}
use Rattle.std.proofs.Math.Bool.{true, not, and-eq-true_iff}
use Rattle.std.proofs.Math.Dec.{eqb}
use borrow.Author.Tests.{eqb-true, eq-eqb, not-true, not-false}
use Rattle.octets.specs.Octets.{all_blank, same_bytes}
use Rattle.octets.specs.TestLaws.{never_both}
use Rattle.octets.specs.RunLaws.{refuted, same_bytes_eq, eq_same_bytes}
use Rattle.schema.specs.declared.Path.{Path}
use Rattle.schema.specs.declared.Entry.{Entry}
use Rattle.records.specs.Records.{is_live, master_key, key_on, first_on, last_on, prior_on, next_on}
use Rattle.points.specs.Chains.{is_point_of}
use Rattle.chains.specs.Members.{In, all_in, in_all}
use Rattle.sound.specs.Sound.{each_record, records_with, within, same_records, is_chain, last_of, path_list, path_sound, has_master, variable_path_sound}
use Rattle.sound.proofs.SoundLaws.{each_record-at, chain-linked}
use Rattle.sound.proofs.ListLaws.{where_holds, holds_where, within_in, in_within, each_record-all, each_record-some, records_with_in, in_records_with, linked-chain, last_of-is}
use Rattle.sound.specs.Sets.{Live}
use Rattle.sound.proofs.RideLaws.{PointOf, IsChainOf}

-- ---- the chain of one master

module _ (b : List ℕ) (e : Entry) (p : Path) (x : Entry) (m : ℕ) where
  abbrev next : ℕ → ℕ
  next r = next_on b e r p

  abbrev prior : ℕ → ℕ
  prior r = prior_on b e r p

  abbrev list : List ℕ
  list = path_list b e p x m

  abbrev points : List ℕ
  points = records_with e (is_point_of b e p (master_key b x m))

  -- "one two-way chain from first to last, 0 at both ends, holding exactly the live records of that key"
  pub path_sound_says : path_sound b e p x m ≡ true → IsChainOf b e p x m (path_list b e p x m) × ((r : ℕ) → PointOf b e p x m r → In r (path_list b e p x m))
  unfolding path_sound
  path_sound_says h =
      let a = (and-eq-true_iff (is_chain next prior 0 (first_on b x m p) list && eqb (last_on b x m p) (last_of list)) (same_records list points)).0 h in
      let c = (and-eq-true_iff (is_chain next prior 0 (first_on b x m p) list) (eqb (last_on b x m p) (last_of list))).0 a.0 in
      let s = (and-eq-true_iff (within list points) (within points list)).0 a.1 in (
        record {
          linked = chain-linked next prior 0 (first_on b x m p) list c.0;
          last = eqb-true _ _ c.1 ∙ last_of-is list;
          points = in_all (PointOf b e p x m) list (λ r i. records_with_in e (is_point_of b e p (master_key b x m)) r (within_in list points s.0 r i));
        },
        λ r q. within_in points list s.1 r (in_records_with e (is_point_of b e p (master_key b x m)) r q.0 q.1),
      )

  pub path_sound-holds : IsChainOf b e p x m (path_list b e p x m) → ((r : ℕ) → PointOf b e p x m r → In r (path_list b e p x m)) → path_sound b e p x m ≡ true
  unfolding path_sound
  path_sound-holds c f =
      (and-eq-true_iff (is_chain next prior 0 (first_on b x m p) list && eqb (last_on b x m p) (last_of list)) (same_records list points)).1 (
        (and-eq-true_iff (is_chain next prior 0 (first_on b x m p) list) (eqb (last_on b x m p) (last_of list))).1
            (linked-chain next prior 0 (first_on b x m p) list c.linked, eq-eqb _ _ (c.last ∙ sym (last_of-is list))),
        (and-eq-true_iff (within list points) (within points list)).1 (
          in_within list points (λ r i. let q = all_in (PointOf b e p x m) r list c.points i in in_records_with e (is_point_of b e p (master_key b x m)) r q.0 q.1),
          in_within points list (λ r i. f r (records_with_in e (is_point_of b e p (master_key b x m)) r i)),
        ),
      )

-- ---- the masters of keys

module _ (b : List ℕ) (x : Entry) (key : List ℕ) where
  pub has_master_says : has_master b x key ≡ true → (m : ℕ) × Live b x m × (master_key b x m ≡ key)
  unfolding has_master
  has_master_says h =
      let t = each_record-some x (λ m. not (is_live b x m && same_bytes (master_key b x m) key)) (not-true _ h) in
      let a = (and-eq-true_iff (is_live b x t.0) (same_bytes (master_key b x t.0) key)).0 (not-false _ t.2) in
      (t.0, (t.1, a.0), same_bytes_eq _ _ a.1)

  pub has_master-holds : (m : ℕ) → Live b x m → master_key b x m ≡ key → has_master b x key ≡ true
  unfolding has_master
  has_master-holds m l k =
      let z : (is_live b x m && same_bytes (master_key b x m) key) ≡ true = (and-eq-true_iff _ _).1 (l.1, eq_same_bytes _ _ k) in
      rw (refuted (each_record x (λ m. not (is_live b x m && same_bytes (master_key b x m) key)))
      (λ h. never_both _ z (not-true _ (each_record-at x (λ m. not (is_live b x m && same_bytes (master_key b x m) key)) m h l.0)))) refl

-- ---- a point of a master is a live record with its key

pub point-live : (b : List ℕ) (e : Entry) (p : Path) (x : Entry) (m r : ℕ) → PointOf b e p x m r → Live b e r × (key_on b e r p ≡ master_key b x m)
point-live b e p x m r h =
    let t = (and-eq-true_iff (is_live b e r) (same_bytes (key_on b e r p) (master_key b x m))).0 h.1 in
    ((h.0, t.0), same_bytes_eq _ _ t.1)

pub live-point : (b : List ℕ) (e : Entry) (p : Path) (x : Entry) (m r : ℕ) → Live b e r → key_on b e r p ≡ master_key b x m → PointOf b e p x m r
live-point b e p x m r l k = (l.0, (and-eq-true_iff (is_live b e r) (same_bytes (key_on b e r p) (master_key b x m))).1 (l.1, eq_same_bytes _ _ k))

-- ---- the whole path

pub record PathSet (b : List ℕ) (e : Entry) (p : Path) (x : Entry) : Type 0 where
  pub no_blank : (r : ℕ) → Live b e r → all_blank (key_on b e r p) ≡ false
  pub master : (r : ℕ) → Live b e r → (m : ℕ) × Live b x m × (master_key b x m ≡ key_on b e r p)
  pub chain : (m : ℕ) → Live b x m → IsChainOf b e p x m (path_list b e p x m)
  pub full : (m : ℕ) → Live b x m → (r : ℕ) → PointOf b e p x m r → In r (path_list b e p x m)

module _ (b : List ℕ) (e : Entry) (p : Path) (x : Entry) where
  abbrev keyed? : ℕ → Bool
  keyed? r = not (is_live b e r) || not (all_blank (key_on b e r p)) && has_master b x (key_on b e r p)

  abbrev sound? : ℕ → Bool
  sound? m = not (is_live b x m) || path_sound b e p x m

  pub path_set_says : variable_path_sound b e p x ≡ true → PathSet b e p x
  unfolding variable_path_sound
  path_set_says h =
      let a = (and-eq-true_iff (each_record e keyed?) (each_record x sound?)).0 h in
      let k : (r : ℕ) → Live b e r → (not (all_blank (key_on b e r p)) ≡ true) × (has_master b x (key_on b e r p) ≡ true) =
      λ r l. (and-eq-true_iff (not (all_blank (key_on b e r p))) _).0 (where_holds (is_live b e r) _ (each_record-at e keyed? r a.0 l.0) l.1) in
      let s : (m : ℕ) → Live b x m → path_sound b e p x m ≡ true = λ m l. where_holds (is_live b x m) _ (each_record-at x sound? m a.1 l.0) l.1 in
      record {
        no_blank = λ r l. not-true _ (k r l).0;
        master = λ r l. has_master_says b x (key_on b e r p) (k r l).1;
        chain = λ m l. (path_sound_says b e p x m (s m l)).0;
        full = λ m l. (path_sound_says b e p x m (s m l)).1;
      }

  pub path_set_holds : PathSet b e p x → variable_path_sound b e p x ≡ true
  unfolding variable_path_sound
  path_set_holds s =
      (and-eq-true_iff (each_record e keyed?) (each_record x sound?)).1 (
        each_record-all e keyed? (λ r i. holds_where (is_live b e r) _ (λ l. by r (i, l) (s.master r (i, l)))),
        each_record-all x sound? (λ m i. holds_where (is_live b x m) _ (λ l. path_sound-holds b e p x m (s.chain m (i, l)) (s.full m (i, l)))),
      )
    where
      by : (r : ℕ) → Live b e r → (m : ℕ) × Live b x m × (master_key b x m ≡ key_on b e r p) → (not (all_blank (key_on b e r p)) && has_master b x (key_on b e r p)) ≡ true
      by r l t = rw (s.no_blank r l) (has_master-holds b x (key_on b e r p) t.0 t.1 t.2)
