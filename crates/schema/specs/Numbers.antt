-- A search whose number past the list's end says "there is none", as an answer that says so by itself: None. The definitions keep the numbers;
-- the code answers an Option. The laws say what an answer says of the number.
use Rattle.std.specs.Prelude.{ℕ, ◌+◌, ◌-◌, ◌<◌, ◌≤◌, ◌≡◌, refl, Bool, true, false, cond, ltb, Option, Some, None}
use Rattle.std.proofs.Common.{ap, sym, ◌∙◌, arith, ltb-true, ltb-false, lt-ltb, le-ltb}
use Rattle.octets.specs.Below.{lowest_from}
use Rattle.octets.specs.BelowLaws.{lowest_from-turn, lowest_from_hit, lowest_from_end}
use Rattle.terms.specs.declared.EntryNo.{EntryNo}
use Rattle.terms.specs.declared.RecordNo.{RecordNo}

-- a number that is not below the bound is none: an entry number, or any other
abbrev pub entry_below : ℕ → ℕ → Option EntryNo
entry_below bound i = cond (ltb i bound) (Some (record { 0 = i })) None

abbrev pub number_below : ℕ → ℕ → Option ℕ
number_below bound j = cond (ltb j bound) (Some j) None

-- "Records count from 1 in each set": one above the set's last is none
abbrev pub record_up_to : ℕ → ℕ → Option RecordNo
record_up_to most r = cond (ltb most r) None (Some (record { 0 = r }))

-- ---- what an answer says of the test and of the number

some_where : {A : Type 0} (t : Bool) (x y : A) → Some x ≡ cond t (Some y) None → (t ≡ true) × (x ≡ y)
some_where true x y e = (refl, cc)
some_where false x y e = cc

none_where : {A : Type 0} (t : Bool) (y : A) → None ≡ cond t (Some y) None → t ≡ false
none_where true y e = cc
none_where false y e = refl

some_unless : {A : Type 0} (t : Bool) (x y : A) → Some x ≡ cond t None (Some y) → (t ≡ false) × (x ≡ y)
some_unless true x y e = cc
some_unless false x y e = (refl, cc)

none_unless : {A : Type 0} (t : Bool) (y : A) → None ≡ cond t None (Some y) → t ≡ true
none_unless true y e = refl
none_unless false y e = cc

pub some_entry : {n : EntryNo} (bound i : ℕ) → Some n ≡ entry_below bound i → (n.0 ≡ i) × (n.0 < bound)
some_entry {n} bound i e =
    let w = some_where (ltb i bound) n (record { 0 = i }) e in
    let same : n.0 ≡ i = ap (λ (m : EntryNo). m.0) w.1 in
    (same, omega (arith, same, ltb-true i bound w.0))

pub no_entry_below : (bound i : ℕ) → None ≡ entry_below bound i → bound ≤ i
no_entry_below bound i e = ltb-false i bound (none_where (ltb i bound) (record { 0 = i }) e)

pub some_number : {n : ℕ} (bound j : ℕ) → Some n ≡ number_below bound j → (n ≡ j) × (n < bound)
some_number {n} bound j e =
    let w = some_where (ltb j bound) n j e in
    (w.1, omega (arith, w.1, ltb-true j bound w.0))

pub no_number_below : (bound j : ℕ) → None ≡ number_below bound j → bound ≤ j
no_number_below bound j e = ltb-false j bound (none_where (ltb j bound) j e)

pub some_record : {n : RecordNo} (most r : ℕ) → Some n ≡ record_up_to most r → (n.0 ≡ r) × (n.0 ≤ most)
some_record {n} most r e =
    let w = some_unless (ltb most r) n (record { 0 = r }) e in
    let same : n.0 ≡ r = ap (λ (m : RecordNo). m.0) w.1 in
    (same, omega (arith, same, ltb-false most r w.0))

pub no_record_up_to : (most r : ℕ) → None ≡ record_up_to most r → most < r
no_record_up_to most r e = ltb-true most r (none_unless (ltb most r) (record { 0 = r }) e)

-- ---- what the number says of the answer: x is the lowest number below n that f holds of, and a loop has come to i

module _ (f : ℕ → Bool) (n i : ℕ) {x : ℕ} (left : lowest_from f (n - i) i ≡ x) where
  pub lowest_here : i < n → f i ≡ true → x ≡ i
  lowest_here l h = sym left ∙ lowest_from_hit f (n - i) (n - (i + 1)) i (omega arith) h

  pub not_here : i < n → f i ≡ false → lowest_from f (n - (i + 1)) (i + 1) ≡ x
  not_here l h = sym (lowest_from-turn f (n - i) (n - (i + 1)) i (omega arith) h) ∙ left

  pub lowest_nowhere : n ≤ i → x ≡ i
  lowest_nowhere l = sym left ∙ lowest_from_end f (n - i) i (omega arith)

pub entry_found_here : (bound i x : ℕ) → i < bound → x ≡ i → Some (record { 0 = i }) ≡ entry_below bound x
entry_found_here bound i x l e = rw (e, lt-ltb i bound l) refl

pub entry_nowhere : (bound x : ℕ) → bound ≤ x → None ≡ entry_below bound x
entry_nowhere bound x l = rw (le-ltb x bound l) refl

pub number_here : (bound j x : ℕ) → j < bound → x ≡ j → Some j ≡ number_below bound x
number_here bound j x l e = rw (e, lt-ltb j bound l) refl

pub number_nowhere : (bound x : ℕ) → bound ≤ x → None ≡ number_below bound x
number_nowhere bound x l = rw (le-ltb x bound l) refl

pub record_here : (most r x : ℕ) → r ≤ most → x ≡ r → Some (record { 0 = r }) ≡ record_up_to most x
record_here most r x l e = rw (e, le-ltb most r l) refl

pub record_nowhere : (most x : ℕ) → most < x → None ≡ record_up_to most x
record_nowhere most x l = rw (lt-ltb most x l) refl
