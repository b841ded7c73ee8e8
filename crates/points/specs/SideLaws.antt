-- What the two sides of a place on a path are, as addresses: next of the record before it, or the master's first; prior of the record
-- after it, or the master's last. So a chain is a ring through its master, node 0: next of 0 is first, prior of 0 is last.
use Rattle.std.specs.Prelude.{ℕ, zero, suc, ◌≡◌, refl, ◌⊎◌, Bool, true, false, not, ◌&&◌, List, eqb}
use Rattle.std.proofs.Common.{inl, inr, arith, eqb-true}
use Rattle.std.proofs.Math.Bool.{and-eq-true_iff}
use Rattle.std.proofs.Math.Dec.{eqb-suc-zero}
use Rattle.octets.specs.Octets.{word_bytes, same_bytes}
use Rattle.octets.specs.RunLaws.{same_bytes_eq}
use Rattle.schema.specs.declared.Path.{Path}
use Rattle.schema.specs.declared.Entry.{Entry}
use Rattle.schema.specs.declared.Schema.{Schema}
use Rattle.schema.specs.Decode.{entry_of, path_of}
use Rattle.schema.specs.Place.{InSet, in_set}
use Rattle.records.specs.Records.{is_live, key_on}
use Rattle.records.specs.Address.{Address, address_at, next, prior, first, last}
use Rattle.masters.proofs.FindLaws.{in_set_true}
use Rattle.points.specs.Chains.{is_point_of, bad_neighbour, prior_side, next_side}

-- ---- the address that points forward from node n of a chain on path j of set i, and the one that points back

module _ (t : Schema) (i j m : ℕ) where
  abbrev pub forward_from : ℕ → Address
  forward_from zero = record { set = (path_of (entry_of t i) j).master.0; at = m; field = first i j }
  forward_from (suc n) = record { set = i; at = suc n; field = next j }

  abbrev pub back_from : ℕ → Address
  back_from zero = record { set = (path_of (entry_of t i) j).master.0; at = m; field = last i j }
  back_from (suc n) = record { set = i; at = suc n; field = prior j }

  abbrev e : Entry
  e = entry_of t i

  abbrev p : Path
  p = path_of (entry_of t i) j

  abbrev x : Entry
  x = entry_of t (path_of (entry_of t i) j).master.0

  pub prior_side-is : (n v : ℕ) → prior_side e p x m n v ≡ record { at = address_at t (forward_from n); bytes = word_bytes v }
  prior_side-is zero v = refl
  prior_side-is (suc n) v = rw eqb-suc-zero

  pub next_side-is : (n v : ℕ) → next_side e p x m n v ≡ record { at = address_at t (back_from n); bytes = word_bytes v }
  next_side-is zero v = refl
  next_side-is (suc n) v = rw eqb-suc-zero

-- ---- a neighbour that is not bad is none, or a live record of the set with the chain's key

pub record Neighbour (b : List ℕ) (e : Entry) (p : Path) (key : List ℕ) (n : ℕ) : Type 0 where
  pub in_set : InSet e n
  pub live : is_live b e n ≡ true
  pub keyed : key_on b e n p ≡ key

pub neighbour_ok : (b : List ℕ) (e : Entry) (p : Path) (key : List ℕ) (n : ℕ) → bad_neighbour b e p key n ≡ false → (n ≡ 0) ⊎ Neighbour b e p key n
neighbour_ok b e p key n h = by (eqb n 0) (in_set e n && is_point_of b e p key n) refl refl h
  where
    by : (z o : Bool) → eqb n 0 ≡ z → (in_set e n && is_point_of b e p key n) ≡ o → (not z && not o) ≡ false → (n ≡ 0) ⊎ Neighbour b e p key n
    by true o q r h = inl (eqb-true n 0 q)
    by false true q r h =
        let a = (and-eq-true_iff (in_set e n) (is_point_of b e p key n)).0 r in
        let c = (and-eq-true_iff (is_live b e n) (same_bytes (key_on b e n p) key)).0 a.1 in
        inr (record { in_set = in_set_true e n a.0; live = c.0; keyed = same_bytes_eq _ _ c.1 })
    by false false q r h = absurd (let z : ◌≡◌ {A = ℕ} 0 1 = cc in omega arith)
