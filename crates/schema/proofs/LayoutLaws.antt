-- The layout of a schema's records and sets: fields in their order, records in their blocks, sets behind one another. Nothing here asks
-- that the schema keeps the rules but for what a law names.
use Rattle.std.specs.Prelude.{ℕ, ◌+◌, ◌*◌, ◌-◌, ◌/◌, ◌≤◌, ◌<◌, ◌≡◌, refl, Bool, false, ◌&&◌, List, ltb}
use Rattle.std.proofs.Math.Bool.{true}
use Rattle.std.proofs.Common.{arith, le-div_iff_mul-le, div-mul-le_self}
use Rattle.std.proofs.Math.Nat.{add-div_right}
use borrow.Author.Tests.{lt-ltb, le-ltb, eq-eqb}
use Rattle.std.proofs.Math.Dec.{eqb}
use Rattle.octets.specs.BelowLaws.{sum_below-at, count_below-at}
use Rattle.schema.specs.Fields.{masters_of, sets_of, count_of, records_of, key_length_of, master_of}
use Rattle.schema.specs.Rules.{is_path_slot, master_of_slot}
use Rattle.schema.specs.Layout.{links_before, links_to, path_key_length, key_place, link_place, body_place, length_of, per_block, blocks_of, first_block}
use Rattle.schema.proofs.RuleFacts.{slot-entry}

-- ---- a variable record: "per path key, prior, next"

pub key_above : (s : List ℕ) (i j : ℕ) → 4 ≤ key_place s i j
unfolding key_place
key_above s i j = omega arith

-- a later path's key stands behind an earlier path's key, prior and next
pub keys_ordered : (s : List ℕ) (i j k : ℕ) → j < k → key_place s i j + path_key_length s i j + 8 ≤ key_place s i k
unfolding key_place
keys_ordered s i j k l = omega (arith, sum_below-at (λ k. path_key_length s i k + 8) j k l)

pub body_variable : (s : List ℕ) (i : ℕ) → masters_of s ≤ i → body_place s i ≡ key_place s i (count_of s i)
unfolding body_place
body_variable s i h = rw (le-ltb i (masters_of s) h)

-- ---- a master record: "per path to it, in schema order, first and last"

pub body_master : (s : List ℕ) (i : ℕ) → i < masters_of s → body_place s i ≡ 12 + key_length_of s i + 8 * links_to s i
unfolding body_place
body_master s i h = rw (lt-ltb i (masters_of s) h)

pub link-above : (s : List ℕ) (i j : ℕ) → 12 + path_key_length s i j ≤ link_place s i j
unfolding link_place
link-above s i j = omega arith

-- a path counts among those to its master
module _ (s : List ℕ) (i j : ℕ) (c : j < count_of s i) (few : count_of s i ≤ 4) where
  link-counted : (q : ℕ) → 4 * i + j < q → links_before s (master_of s i j) (4 * i + j) + 1 ≤ links_before s (master_of s i j) q
  unfolding links_before
  link-counted q l =
      let d = slot-entry i j (omega arith) in
      let led : is_path_slot s (4 * i + j) && eqb (master_of_slot s (4 * i + j)) (master_of s i j) ≡ true = rw (d.0, d.1, lt-ltb j (count_of s i) c, eq-eqb (master_of s i j) (master_of s i j) refl) in
      count_below-at (λ p. is_path_slot s p && eqb (master_of_slot s p) (master_of s i j)) (4 * i + j) q l led

  pub link-inside : i < sets_of s → master_of s i j < masters_of s → link_place s i j + 8 ≤ body_place s (master_of s i j)
  unfolding link_place
  link-inside l m = omega (arith, link-counted (4 * sets_of s) (omega arith), body_master s (master_of s i j) m)

  -- an earlier path's first and last stand in front of a later path's, where both lead to one master
  pub links-ordered : (k l : ℕ) → 4 * i + j < 4 * k + l → master_of s i j ≡ master_of s k l → link_place s i j + 8 ≤ link_place s k l
  unfolding link_place
  links-ordered k l h e = rw (← e) (omega (arith, link-counted (4 * k + l) h))

-- ---- records in blocks, and sets

pub length_some : (s : List ℕ) (i : ℕ) → 4 ≤ length_of s i
unfolding body_place
length_some s i = go (ltb i (masters_of s)) refl
  where
    go : (t : Bool) → ltb i (masters_of s) ≡ t → 4 ≤ length_of s i
    go true e = rw e (omega arith)
    go false e = rw e (omega (arith, key_above s i (count_of s i)))

-- "floor(508/L) whole records to a block": at least one, and they end by byte 508
pub per-some : (s : List ℕ) (i : ℕ) → length_of s i ≤ 508 → 1 ≤ per_block s i
per-some s i h = let l = length_some s i in (le-div_iff_mul-le {k = length_of s i} {x = 1} (omega arith)).1 (omega arith)

pub per-whole : (s : List ℕ) (i : ℕ) → per_block s i * length_of s i ≤ 508
per-whole s i = omega (arith, div-mul-le_self 508 (length_of s i))

-- a quotient that is rounded up
pub rounded : (x r k : ℕ) → 1 ≤ k → x ≡ r - 1 + k → x / k ≡ (r - 1) / k + 1
rounded x r k h e = rw e (add-div_right (r - 1) {k = k} h)

-- the last record's block is the last of the set's
pub blocks_last : (s : List ℕ) (i : ℕ) → 1 ≤ per_block s i → 1 ≤ records_of s i → blocks_of s i ≡ (records_of s i - 1) / per_block s i + 1
blocks_last s i p r = rounded _ (records_of s i) (per_block s i) p (omega arith)

-- "Sets lie .. in entry order, each from a fresh block"
pub sets_ordered : (s : List ℕ) (i k : ℕ) → i < k → first_block s i + blocks_of s i ≤ first_block s k
unfolding first_block
sets_ordered s i k l = sum_below-at (blocks_of s) i k l
