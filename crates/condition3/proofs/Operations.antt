-- Groups of operations: what is known of a call from the group that it is in.
use Rattle.std.specs.Prelude.{◌≡◌, refl, ◌⊎◌, Bool, true, false, not, ◌&&◌}
use Rattle.std.proofs.Common.{inl, inr}
use Rattle.terms.specs.declared.Operation.{Operation}
use Rattle.calls.specs.Call.{one_of, whole_calls, master_calls, variable_calls, adds}
use Rattle.calls.specs.Ladder.{finders, needers, key_bringers, key_repeaters, arealess}
use Rattle.calls.proofs.OperationLaws.{all_of, none_of}

-- ---- calls on masters and on points

-- a call that looks a control key up is on points or on masters
abbrev pub Kinds : Operation → Type 0
Kinds u =
    ((one_of u variable_calls ≡ true) × (one_of u needers ≡ true) × (one_of u whole_calls ≡ false))
    ⊎ ((one_of u variable_calls ≡ false) × (one_of u master_calls ≡ true) × (one_of u whole_calls ≡ false))

pub kinds : (u : Operation) → one_of u finders ≡ true → Kinds u
kinds u h = by (one_of u variable_calls) refl
  where
    both : (a b : Bool) → a ≡ true → b ≡ false → (a && not b) ≡ true
    both a b h e = rw (h, e) refl

    by : (v : Bool) → one_of u variable_calls ≡ v → Kinds u
    by true e = inl (e, all_of (λ u. one_of u variable_calls) (λ u. one_of u needers) refl u e, none_of (λ u. one_of u finders) (λ u. one_of u whole_calls) refl u h)
    by false e =
        let m = all_of (λ u. one_of u finders && not (one_of u variable_calls)) (λ u. one_of u master_calls) refl u (both (one_of u finders) (one_of u variable_calls) h e) in
        inr (e, m, none_of (λ u. one_of u finders) (λ u. one_of u whole_calls) refl u h)

-- ---- the adds

pub record AddFacts (u : Operation) : Type 0 where
  pub of_points : one_of u variable_calls ≡ true
  pub on-set : one_of u whole_calls ≡ false
  pub finds : one_of u finders ≡ true
  pub needs : one_of u needers ≡ true
  pub brings : one_of u key_bringers ≡ true
  pub repeats : one_of u key_repeaters ≡ true
  pub has-area : one_of u arealess ≡ false

pub some-add : (u : Operation) → one_of u adds ≡ true → AddFacts u
some-add u h =
    record {
      of_points = all_of (λ u. one_of u adds) (λ u. one_of u variable_calls) refl u h;
      on-set = none_of (λ u. one_of u adds) (λ u. one_of u whole_calls) refl u h;
      finds = all_of (λ u. one_of u adds) (λ u. one_of u finders) refl u h;
      needs = all_of (λ u. one_of u adds) (λ u. one_of u needers) refl u h;
      brings = all_of (λ u. one_of u adds) (λ u. one_of u key_bringers) refl u h;
      repeats = all_of (λ u. one_of u adds) (λ u. one_of u key_repeaters) refl u h;
      has-area = none_of (λ u. one_of u adds) (λ u. one_of u arealess) refl u h;
    }
