-- The masters of a point's keys and its neighbours, path by path: the turns and ends of the loop that looks for the masters, and what it
-- leaves where it refuses none.
use Prim.Native.Nat.{ℕ, zero, suc, ◌+◌, ◌≤◌, ◌<◌}
use Rattle.std.specs.Prelude.{◌≡◌, Bool, List, get_or, take, Result, Ok, Err, Option, Some, None}
use Rattle.std.proofs.Math.Path.{refl}
use Rattle.std.proofs.Common.{sym, ap, ◌∙◌, eq-or-lt_of_le, add-one, get_or-take}
use Rattle.std.proofs.Math.Logic.{⊎_elim}
use Rattle.std.proofs.Math.Bool.{true, false, cond}
use native.Mathlib.Omega.{arith}
use Rattle.std.proofs.Math.Dec.{eqb}
use borrow.Author.Tests.{eqb-true, eq-eqb, ne_eqb}
use Rattle.octets.specs.Below.{upto}
use Rattle.octets.specs.BelowLaws.{get_d_upto}
use Rattle.octets.specs.TestLaws.{never_both}
use Rattle.terms.specs.declared.RecordNo.{RecordNo}
use Rattle.terms.specs.declared.Refusal.{Refusal}
use Rattle.terms.specs.declared.Status.{Status}
use Rattle.terms.specs.declared.Status.TheVariants.{Done}
use Rattle.terms.specs.Status.{status_number, is_done, first_of, status_by, status_of}
use Rattle.terms.specs.Laws.{status-number-one}
use Rattle.schema.specs.declared.Path.{Path}
use Rattle.schema.specs.declared.Entry.{Entry}
use Rattle.schema.specs.declared.Part.{Part}
use Rattle.records.specs.declared.Link.{Link}
use Rattle.records.specs.Records.{prior_on, next_on}
use Rattle.masters.specs.declared.Found.{Found}
use Rattle.masters.specs.declared.Found.TheVariants.{At, Missing, Damaged}
use Rattle.masters.specs.Find.{find}
use Rattle.points.specs.declared.Spot.{Spot}
use Rattle.points.specs.declared.Spot.TheVariants.{Last}
use Rattle.points.specs.Points.{spot_on, neighbours_at}
use Rattle.point_plans.specs.Rest.{master_status, other_master, other_masters}
use Rattle.point_plans.specs.Paths.{no_part, found_part, absent_status, owner_of}

-- ---- one path's master

pub named_here : {m : RecordNo} {k on : ℕ} (b : List ℕ) (x : ℕ → Entry) (key : ℕ → List ℕ) → k ≡ on → find b (x on) (key on) ≡ At m → find b (x k) (key k) ≡ At m
named_here b x key q h = rw q h

-- what the search answers, as a status, and where it found the master
owner-status : (absent : Option Refusal) (x : Entry) (f : Found) → status_of (owner_of absent x f) ≡ master_status (absent_status absent) f
owner-status absent x (At m) = refl
owner-status None x Missing = refl
owner-status (Some why) x Missing = refl
owner-status absent x Damaged = refl

part_in : Result Part Refusal → Part
part_in (Ok o) = o
part_in (Err _) = no_part

owner-part : (absent : Option Refusal) (x : Entry) (f : Found) → part_in (owner_of absent x f) ≡ found_part x f
unfolding part_in
owner-part absent x (At m) = refl
owner-part None x Missing = refl
owner-part (Some why) x Missing = refl
owner-part absent x Damaged = refl

module _ (absent : Option Refusal) (x : Entry) (f : Found) where
  pub owner_refused : {why : Refusal} → owner_of absent x f ≡ Err why → status_by why ≡ master_status (absent_status absent) f
  owner_refused h = sym (ap status_of h) ∙ owner-status absent x f

  pub owner_found : {o : Part} → owner_of absent x f ≡ Ok o → Done ≡ master_status (absent_status absent) f
  owner_found h = sym (ap status_of h) ∙ owner-status absent x f

  pub owner_part : {o : Part} → owner_of absent x f ≡ Ok o → o ≡ found_part x f
  unfolding part_in
  owner_part h = sym (ap part_in h) ∙ owner-part absent x f

-- ---- one path's neighbours

pub spot_named : (spot : Spot) (on k : ℕ) → k ≡ on → spot ≡ spot_on spot on k
spot_named spot on k h = rw (eq-eqb k on h)

pub spot_other : (spot : Spot) (on k : ℕ) → (k ≡ on → ⊥) → Last ≡ spot_on spot on k
spot_other spot on k h = rw (ne_eqb k on h)

pub new-link : {l : Link} {p q : Path} {s u : Spot} {z w : ℕ} (b : List ℕ) (e : Entry) → q ≡ p → z ≡ w → s ≡ u → l ≡ neighbours_at b e q z s → l ≡ neighbours_at b e p w u
new-link b e f g h i = rw (i, f, g, h)

pub own-link : {l : Link} {p q : Path} (b : List ℕ) (e : Entry) (r : ℕ) → q ≡ p → l ≡ record { prior = prior_on b e r q; next = next_on b e r q }
    → l ≡ record { prior = prior_on b e r p; next = next_on b e r p }
own-link b e r f i = rw (i, f)

-- ---- statuses

-- both answers are Done
pub both-done : (s more : Status) → first_of s more ≡ Done → (s ≡ Done) × (more ≡ Done)
both-done s more h = go (is_done s) refl h
  where
    go : (d : Bool) → is_done s ≡ d → cond d more s ≡ Done → (s ≡ Done) × (more ≡ Done)
    go true q h = (status-number-one s Done (eqb-true (status_number s) 0 q), h)
    go false q h = absurd (never_both (is_done s) (ap is_done h) q)

-- ---- the loop over the paths

-- path k's master is there
pub record HasMaster (b : List ℕ) (x : ℕ → Entry) (key : ℕ → List ℕ) (k : ℕ) : Type 0 where
  pub master : RecordNo
  pub found : find b (x k) (key k) ≡ At master

module _ (b : List ℕ) (x : ℕ → Entry) (on : ℕ) (absent : Status) (key : ℕ → List ℕ) where
  abbrev masters : ℕ → Status
  masters n = other_masters b x on absent key n

  abbrev found_on : ℕ → Found
  found_on k = find b (x k) (key k)

  pub others-none : other_masters b x on absent key 0 ≡ Done
  unfolding other_masters
  others-none = refl

  one_more : (n : ℕ) → masters n ≡ Done → masters (suc n) ≡ other_master b x on absent key n
  unfolding other_masters
  one_more n h = rw h

  -- a turn: path n has its master
  pub others-turn : (n : ℕ) (s : Status) → other_masters b x on absent key n ≡ Done → s ≡ master_status absent (find b (x n) (key n)) → status_number s ≡ 0
      → other_masters b x on absent key (n + 1) ≡ Done
  others-turn n s h q z = rw (add-one n) (one_more n h ∙ go (eqb n on))
    where
      go : (d : Bool) → cond d Done (master_status absent (found_on n)) ≡ Done
      go true = refl
      go false = sym q ∙ status-number-one s Done z

  -- a refusal stays
  others_stay : (n i : ℕ) (s : Status) → is_done s ≡ false → masters n ≡ s → n ≤ i → masters i ≡ s
  unfolding other_masters
  others_stay n zero s d h l = let z : n ≡ 0 = omega arith in rw z at h
  others_stay n (suc i) s d h l =
      ⊎_elim (λ q. rw q at h) (λ q. let m = others_stay n i s d h (omega arith) in rw (m, d)) (eq-or-lt_of_le l)

  -- the first refusal decides; the named path's master is there
  pub others_refuse : (n i : ℕ) (s : Status) (m : RecordNo) → other_masters b x on absent key n ≡ Done → find b (x on) (key on) ≡ At m
      → s ≡ master_status absent (find b (x n) (key n)) → (status_number s ≡ 0 → ⊥) → n < i → s ≡ other_masters b x on absent key i
  others_refuse n i s m h named q z l =
      let other : eqb n on ≡ false = ne_eqb n on (λ r. z (ap status_number (q ∙ ap (λ (k : ℕ). master_status absent (found_on k)) r ∙ ap (master_status absent) named))) in
      sym (others_stay (suc n) i s (ne_eqb (status_number s) 0 z) (one_more n h ∙ (rw other (sym q))) (omega arith))

  -- ---- where all are found

  held : (f : Found) → is_done absent ≡ false → master_status absent f ≡ Done → (k : ℕ) → found_on k ≡ f → HasMaster b x key k
  held (At r) a h k q = record { master = r; found = q }
  held Missing a h k q = absurd (never_both (is_done absent) (ap is_done h) a)
  held Damaged a h k q = absurd (let z : ◌≡◌ {A = ℕ} 0 1 = cc in omega arith)

  pub others-held : (n : ℕ) (m : RecordNo) → is_done absent ≡ false → other_masters b x on absent key n ≡ Done → find b (x on) (key on) ≡ At m
      → (k : ℕ) → k < n → HasMaster b x key k
  unfolding other_masters
  others-held zero m a h named k l = absurd (omega arith)
  others-held (suc n) m a h named k l =
      let d = both-done (masters n) (other_master b x on absent key n) h in
      let w : k ≤ n = omega arith in
      ⊎_elim (λ q. this (eqb n on) refl d.1 q) (λ q. others-held n m a d.0 named k q) (eq-or-lt_of_le w)
    where
      this : (o : Bool) → eqb n on ≡ o → cond o Done (master_status absent (found_on n)) ≡ Done → k ≡ n → HasMaster b x key k
      this true p i q = let r : k ≡ on = q ∙ eqb-true n on p in record { master = m; found = rw r named }
      this false p i q = rw q (held (found_on n) a i n refl)

-- masters and keys that are the same
pub others_same : (b : List ℕ) (x y : ℕ → Entry) (on : ℕ) (absent : Status) (key same : ℕ → List ℕ) (n : ℕ) → ((k : ℕ) → k < n → x k ≡ y k)
    → ((k : ℕ) → k < n → key k ≡ same k) → other_masters b x on absent key n ≡ other_masters b y on absent same n
unfolding other_masters
others_same b x y on absent key same zero g h = refl
others_same b x y on absent key same (suc n) g h =
    rw (others_same b x y on absent key same n (λ k l. g k (omega arith)) (λ k l. h k (omega arith)), g n (omega arith), h n (omega arith))

-- what is kept of an array that was filled path by path
pub filled_at {ℓ} : {A : Type ℓ} (f : ℕ → A) (xs : List A) (n : ℕ) (d : A) → take n xs ≡ upto f n → (k : ℕ) → k < n → get_or xs k d ≡ f k
filled_at f xs n d h k l = sym (get_or-take n xs k d l) ∙ ap (λ (ys : List _). get_or ys k d) h ∙ get_d_upto f n k d l
