-- The parameters of a line's call, read one by one.
use Rattle.std.specs.Prelude.{ℕ, ◌≡◌, true, List}
use Rattle.calls.specs.Call.{Call, call_of}
use Rattle.console.specs.declared.asked.Asked.{Asked}
use Rattle.console.specs.Lines.{field_of, name_in, given_part}
use Rattle.console.specs.References.{reference_of}
use Rattle.console.specs.Console.{well_made}

-- the call that they make, with this area
abbrev pub call_asked : Asked → List ℕ → List ℕ → List ℕ → Call
call_asked a area schema base = call_of a.operation a.set a.reference.0 a.path a.key.now area schema base

-- they are those of a line that is well made
pub record WellMade (line : List ℕ) (a : Asked) : Type 0 where
  pub made : well_made line ≡ true
  pub operation : a.operation ≡ field_of line 0
  pub set : a.set ≡ name_in 4 (field_of line 1)
  pub reference : a.reference.0 ≡ reference_of (field_of line 2)
  pub path : a.path ≡ name_in 8 (field_of line 3)
  pub key : a.key.now ≡ given_part (field_of line 4)
  pub area : a.area.now ≡ given_part (field_of line 5)
