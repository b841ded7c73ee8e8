-- What the search gives: a record that is found is a live record of the set with that key.
use Rattle.std.specs.Prelude.{ℕ, zero, suc, ◌≡◌, ◌↔◌, refl, Bool, true, false, cond, ◌&&◌, List, ◌⊎◌, eqb, leb, Ok, Err}
use Rattle.std.proofs.Math.Bool.{and-eq-true_iff}
use Rattle.std.proofs.Common.{inl, inr, ⊎_elim, arith, leb-true}
use Rattle.octets.specs.Octets.{same_bytes}
use Rattle.octets.specs.RunLaws.{same_bytes_eq}
use Rattle.terms.specs.declared.RecordNo.{RecordNo}
use Rattle.terms.specs.declared.Refusal.{Refusal}
use Rattle.terms.specs.declared.Refusal.TheVariants as refusal
use Rattle.terms.specs.declared.Status.TheVariants.{Done, Mrnf, Damg}
use Rattle.terms.specs.Status.{status_by, status_of}
use Rattle.schema.specs.declared.Entry.{Entry}
use Rattle.schema.specs.Place.{InSet, in_set}
use Rattle.records.specs.Records.{is_live, root_next, master_key}
use Rattle.masters.specs.declared.Found.{Found}
use Rattle.masters.specs.declared.Found.TheVariants.{At, Missing, Damaged}
use Rattle.masters.specs.Find.{home_in, held_by_own, seek, find, is_missing, is_damaged, named_master, tail_from}

pub in_set_true : (e : Entry) (r : ℕ) → in_set e r ≡ true → InSet e r
in_set_true e r h =
    let t = (and-eq-true_iff (leb 1 r) (leb r e.records)).0 h in
    (leb-true 1 r t.0, leb-true r e.records t.1)

-- the record q is live, of set e, and has this key
pub record Holds (b : List ℕ) (e : Entry) (key : List ℕ) (q : ℕ) : Type 0 where
  pub in_set : InSet e q
  pub live : is_live b e q ≡ true
  pub keyed : master_key b e q ≡ key

-- one step of the search, whatever its tests answer: `s` says that the record is in the set and live, `k` that it has the key, `z` that
-- its ROOT next is 0
step-at : (s k z : Bool) (r q : RecordNo) (more : Found) → cond s (cond k (At r) (cond z Missing more)) Damaged ≡ At q
    → ((s ≡ true) × (k ≡ true) × (r ≡ q)) ⊎ (more ≡ At q)
step-at true true z r q more h = inl (refl, refl, cc)
step-at true false true r q more h = absurd (let z : ◌≡◌ {A = ℕ} 0 1 = cc in omega arith)
step-at true false false r q more h = inr h
step-at false k z r q more h = absurd (let z : ◌≡◌ {A = ℕ} 0 1 = cc in omega arith)

holds-here : (b : List ℕ) (e : Entry) (key : List ℕ) (r : ℕ) (q : RecordNo) → (in_set e r && is_live b e r) ≡ true → same_bytes (master_key b e r) key ≡ true
    → ◌≡◌ {A = RecordNo} (record { 0 = r }) q → Holds b e key q.0
holds-here b e key r q s k h =
    let t = (and-eq-true_iff (in_set e r) (is_live b e r)).0 s in
    rw (← h) (record { in_set = in_set_true e r t.0; live = t.1; keyed = same_bytes_eq _ _ k })

pub seek-at : (n : ℕ) (b : List ℕ) (e : Entry) (key : List ℕ) (r : ℕ) (q : RecordNo) → seek n b e key r ≡ At q → Holds b e key q.0
unfolding seek
seek-at zero b e key r q h = absurd (let z : ◌≡◌ {A = ℕ} 0 1 = cc in omega arith)
seek-at (suc n) b e key r q h =
    ⊎_elim (λ w. holds-here b e key r q w.0 w.1 w.2) (λ w. seek-at n b e key (root_next b e r) q w)
    (step-at (in_set e r && is_live b e r) (same_bytes (master_key b e r) key) (eqb (root_next b e r) 0) (record { 0 = r }) q (seek n b e key (root_next b e r)) h)

-- of a key that is missing the chain's last record is of the set
step_missing : (s k z : Bool) (r : RecordNo) (more : Found) → cond s (cond k (At r) (cond z Missing more)) Damaged ≡ Missing
    → (s ≡ true) × ((z ≡ true) ⊎ ((z ≡ false) × (more ≡ Missing)))
step_missing true true z r more h = absurd (let z : ◌≡◌ {A = ℕ} 0 1 = cc in omega arith)
step_missing true false true r more h = (refl, inl refl)
step_missing true false false r more h = (refl, inr (refl, h))
step_missing false k z r more h = absurd (let z : ◌≡◌ {A = ℕ} 0 1 = cc in omega arith)

pub seek-tail : (n : ℕ) (b : List ℕ) (e : Entry) (key : List ℕ) (r : ℕ) → seek n b e key r ≡ Missing → InSet e (tail_from n b e r)
unfolding seek tail_from
seek-tail zero b e key r h = absurd (let z : ◌≡◌ {A = ℕ} 0 1 = cc in omega arith)
seek-tail (suc n) b e key r h =
    let m = step_missing (in_set e r && is_live b e r) (same_bytes (master_key b e r) key) (eqb (root_next b e r) 0) (record { 0 = r }) (seek n b e key (root_next b e r)) h in
    ⊎_elim (λ z. rw z (in_set_true e r ((and-eq-true_iff (in_set e r) (is_live b e r)).0 m.0).0)) (λ z. rw z.0 (seek-tail n b e key (root_next b e r) z.1)) m.1

-- "find": what is found is a live master of that key
from-home : (s : Bool) (m : Found) (q : RecordNo) → cond s m Missing ≡ At q → m ≡ At q
from-home true m q h = h
from-home false m q h = absurd (let z : ◌≡◌ {A = ℕ} 0 1 = cc in omega arith)

pub find_at : (b : List ℕ) (e : Entry) (key : List ℕ) (q : RecordNo) → find b e key ≡ At q → Holds b e key q.0
unfolding find
find_at b e key q h =
    seek-at e.records b e key (home_in e key) q (from-home (held_by_own b e (home_in e key)) (seek e.records b e key (home_in e key)) q h)

-- ---- the named master, as a call asks for it: a record, 16 or 12

pub master_found : (f : Found) (m : RecordNo) → (named_master f ≡ Ok m) ↔ (f ≡ At m)
master_found (At r) m = (λ h. cc, λ h. cc)
master_found Missing m = (λ h. cc, λ h. cc)
master_found Damaged m = (λ h. cc, λ h. cc)

pub master_missing : (f : Found) → (named_master f ≡ Err refusal.Mrnf) ↔ (f ≡ Missing)
master_missing (At r) = (λ h. cc, λ h. cc)
master_missing Missing = (λ h. refl, λ h. refl)
master_missing Damaged = (λ h. cc, λ h. cc)

pub master_damaged : (f : Found) → (named_master f ≡ Err refusal.Damg) ↔ (f ≡ Damaged)
master_damaged (At r) = (λ h. cc, λ h. cc)
master_damaged Missing = (λ h. cc, λ h. cc)
master_damaged Damaged = (λ h. refl, λ h. refl)

-- as a status; and the refusal that ends a call
pub master_status_of : (f : Found) → status_of (named_master f) ≡ cond (is_damaged f) Damg (cond (is_missing f) Mrnf Done)
master_status_of (At r) = refl
master_status_of Missing = refl
master_status_of Damaged = refl

pub master_refused : (f : Found) (why : Refusal) → named_master f ≡ Err why
    → ((f ≡ Damaged) × (status_by why ≡ Damg)) ⊎ ((f ≡ Missing) × (status_by why ≡ Mrnf))
master_refused (At r) why h = cc
master_refused Missing why h = let w : why ≡ refusal.Mrnf = cc in inr (refl, rw w refl)
master_refused Damaged why h = let w : why ≡ refusal.Damg = cc in inl (refl, rw w refl)
