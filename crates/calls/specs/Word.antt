-- The same call from C: "It returns status and reference", as the two halves of one word; area and data base are the buffers that were lent.
-- This is what the contract of `yarugota_call` cites.
use Rattle.std.specs.Prelude.{ℕ, ◌/◌, ◌%◌, ◌≡◌, List}
use Rattle.terms.specs.Status.{status_number}
use Rattle.calls.specs.Call.{Call}
use Rattle.calls.specs.Outcome.{outcome}

-- the upper and the lower 32 bits of a word
abbrev pub upper_half : ℕ → ℕ
upper_half w = w / 4294967296

abbrev pub lower_half : ℕ → ℕ
lower_half w = w % 4294967296

pub record IsWord (c : Call) (word : ℕ) (area base : List ℕ) : Type 0 where
  pub status : upper_half word ≡ status_number (outcome c).status
  pub reference : lower_half word ≡ (outcome c).reference
  pub area-after : area ≡ (outcome c).area
  pub base_after_lem : base ≡ (outcome c).base
