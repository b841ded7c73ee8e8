-- The final 16, as the code asks it: first and last in the master's part, a neighbour pointer by the tests made on it, and the paths one
-- after the other.
use Prim.Native.Nat.{ℕ, ◌+◌, ◌≤◌, ◌<◌}
use Rattle.std.specs.Prelude.{◌≡◌, refl, true, false, ◌&&◌, ◌||◌, List, take}
use Rattle.std.proofs.Math.Path.{sym, ap}
use Rattle.std.proofs.Common.{⊎_elim, ◌∙◌, arith, eq-eqb, ne_eqb, le-leb, get_or-take}
use Rattle.std.proofs.Math.Bool.{Bool, not}
use Rattle.std.proofs.lemmas.Bool.{lt-leb, not-false}
use Rattle.std.proofs.Math.ListN.{get_or}
use Rattle.octets.specs.Octets.{same_bytes, run, word_at}
use Rattle.octets.specs.Below.{all_below}
use Rattle.octets.specs.BelowLaws.{all_below-at, all_below-fails, all_below-same}
use Rattle.octets.specs.RunLaws.{same_bytes_comm}
use Rattle.octets.specs.WordLaws.{word_at-part}
use Rattle.schema.specs.declared.Path.{Path}
use Rattle.schema.specs.declared.Entry.{Entry}
use Rattle.schema.specs.declared.Part.{Part}
use Rattle.schema.specs.Decode.{path_of}
use Rattle.schema.specs.Place.{InSet, place_of, record_of}
use Rattle.records.specs.declared.Link.{Link}
use Rattle.records.specs.Records.{is_live, key_on, last_on}
use Rattle.records.specs.Areas.{no_link}
use Rattle.points.specs.Chains.{is_point_of, bad_neighbour, uneven_ends}
use Rattle.points.specs.SideLaws.{neighbour_ok}
use Rattle.point_plans.specs.Paths.{master_at, key_at, uneven_at, damaged_at, clean_at, damaged}
use Rattle.point_plans.specs.Within.{LinksIn}

-- ---- first and last, in the record m of the masters x of a path p

module _ (x : Entry) (p : Path) (m : ℕ) (h : p.link + 8 ≤ x.size) where
  -- the words of the record are the base's
  pub last_from_lem : (b : List ℕ) → word_at (record_of b x m) (p.link + 4) ≡ last_on b x m p
  last_from_lem b = word_at-part (place_of x m) x.size b (p.link + 4) (omega arith)

  pub uneven_from : (b : List ℕ) → uneven_at (record_of b x m) p.link ≡ uneven_ends b x m p
  uneven_from b = rw (last_from_lem b, word_at-part (place_of x m) x.size b p.link (omega arith))

-- ---- one neighbour

-- its key, compared the other way round
pub point-read : {live same : Bool} {len : ℕ} (b : List ℕ) (e : Entry) (p : Path) (key : List ℕ) (r : ℕ) → len ≡ p.len → live ≡ is_live b e r
    → same ≡ same_bytes key (run b (place_of e r + p.at) len) → (live && same) ≡ is_point_of b e p key r
point-read b e p key r q l s = rw (l, s, q, same_bytes_comm key (key_on b e r p)) refl

module _ (b : List ℕ) (e : Entry) (p : Path) (key : List ℕ) (n : ℕ) where
  pub bad_none : n ≡ 0 → false ≡ bad_neighbour b e p key n
  bad_none h = rw (eq-eqb n 0 h)

  pub bad_above : e.records < n → true ≡ bad_neighbour b e p key n
  bad_above h = rw (ne_eqb n 0 (λ z. omega arith), le-leb 1 n (omega arith), lt-leb n e.records h)

  pub bad_read : (n ≡ 0 → ⊥) → n ≤ e.records → {point : Bool} → point ≡ is_point_of b e p key n → not point ≡ bad_neighbour b e p key n
  bad_read z h q = rw (q, ne_eqb n 0 z, le-leb 1 n (omega arith), le-leb n e.records h)

-- ---- one path, read

pub damaged-read : {bad : Bool} {p q : Path} {key master lent : List ℕ} (b : List ℕ) (e : Entry) (src : List ℕ) (from : ℕ) (l : Link) → q ≡ p → lent ≡ master
    → bad ≡ damaged_at b e q key lent l → key ≡ run src from q.len → bad ≡ damaged_at b e p (run src from p.len) master l
damaged-read b e src from l g f h i = rw (h, i, g, f)

-- ---- all paths

module _ (b : List ℕ) (e : Entry) (src at : List ℕ) (owners : List Part) (links : List Link) where
  pub damaged-here : (k : ℕ) → k < e.count → clean_at b e src at owners links k ≡ false → true ≡ damaged b e src at owners links
  unfolding damaged
  damaged-here k l h = sym (ap not (all_below-fails (clean_at b e src at owners links) e.count k l h))

  pub damaged-nowhere : all_below (clean_at b e src at owners links) e.count ≡ true → false ≡ damaged b e src at owners links
  unfolding damaged
  damaged-nowhere h = sym (ap not h)

  -- only the paths of the set count
  pub damaged-taken : damaged b e src at owners links ≡ damaged b e src at owners (take e.count links)
  unfolding damaged
  damaged-taken =
      ap not
      (all_below-same (clean_at b e src at owners links) (clean_at b e src at owners (take e.count links)) e.count
      (λ k l. rw (get_or-take e.count links k no_link l)))

  -- what was asked of the neighbours as they were kept, of those that are meant
  pub damaged-kept : {bad : Bool} {ls : List Link} → bad ≡ damaged b e src at owners links → take e.count links ≡ ls → damaged b e src at owners ls ≡ bad
  damaged-kept h q = sym (h ∙ damaged-taken ∙ ap (damaged b e src at owners) q)

  -- where no path is damaged, every neighbour is none, or a record of the set
  no_damage : (s t u : Bool) → not (s || t || u) ≡ true → (t ≡ false) × (u ≡ false)
  no_damage true t u h = absurd (let z : ◌≡◌ {A = ℕ} 0 1 = cc in omega arith)
  no_damage false true u h = absurd (let z : ◌≡◌ {A = ℕ} 0 1 = cc in omega arith)
  no_damage false false true h = absurd (let z : ◌≡◌ {A = ℕ} 0 1 = cc in omega arith)
  no_damage false false false h = (refl, refl)

  none_or_in : (p : Path) (key : List ℕ) (n : ℕ) → bad_neighbour b e p key n ≡ false → (n ≡ 0 → ⊥) → InSet e n
  none_or_in p key n h z = ⊎_elim (λ q. absurd (z q)) (λ q. q.in_set) (neighbour_ok b e p key n h)

  pub links_in : damaged b e src at owners links ≡ false → LinksIn e links
  unfolding damaged
  links_in h =
      record {
        inside = λ k l.
            let n = get_or links k no_link in
            let bad : ℕ → Bool = λ m. bad_neighbour b e (path_of e k) (key_at src e at k) m in
            let d = no_damage (uneven_at (master_at b owners k) (path_of e k).link) (bad n.prior) (bad n.next) (all_below-at (clean_at b e src at owners links) e.count k (not-false _ h) l) in
            record { prior = none_or_in (path_of e k) (key_at src e at k) _ d.0; next = none_or_in (path_of e k) (key_at src e at k) _ d.1 };
      }
