-- Document 01, "The calls we buy": what a call is given and what it returns, and groups of operations.
use Rattle.std.specs.Prelude.{ℕ, Bool, false, cond, ◌||◌, List, [], ◌∷◌, eqb}
use Rattle.terms.specs.declared.Status.{Status}
use Rattle.terms.specs.declared.Operation.{Operation}
use Rattle.terms.specs.declared.Operation.TheVariants.{Formt, Sinon, AddM, DelM, Readm, Writm, Rqloc, Rdnxt, Readv, Readr, Readd, Writv, Addvc, Addvb, Addva, Delvd, Unknown}

-- "A call is given: operation (5 bytes), set name (4), reference (32 bits), path name (8), control key, area, schema, data base."
pub record Call : Type 0 where
  pub operation : List ℕ
  pub name : List ℕ
  pub reference : ℕ
  pub path : List ℕ
  pub key : List ℕ
  pub area : List ℕ
  pub schema : List ℕ
  pub base : List ℕ

-- the call of these parameters, in document 01's order
abbrev pub call_of : List ℕ → List ℕ → ℕ → List ℕ → List ℕ → List ℕ → List ℕ → List ℕ → Call
call_of operation name reference path key area schema base =
    record {
      operation = operation;
      name = name;
      reference = reference;
      path = path;
      key = key;
      area = area;
      schema = schema;
      base = base;
    }

-- "It returns status and reference.", and it leaves an area and a data base
pub record Outcome : Type 0 where
  pub status : Status
  pub reference : ℕ
  pub area : List ℕ
  pub base : List ℕ

-- ---- groups of operations

abbrev pub operation_number : Operation → ℕ
operation_number Formt = 0
operation_number Sinon = 1
operation_number AddM = 2
operation_number DelM = 3
operation_number Readm = 4
operation_number Writm = 5
operation_number Rqloc = 6
operation_number Rdnxt = 7
operation_number Readv = 8
operation_number Readr = 9
operation_number Readd = 10
operation_number Writv = 11
operation_number Addvc = 12
operation_number Addvb = 13
operation_number Addva = 14
operation_number Delvd = 15
operation_number Unknown = 16

abbrev pub one_of : Operation → List Operation → Bool
one_of o [] = false
one_of o (q ∷ qs) = eqb (operation_number o) (operation_number q) || one_of o qs

-- what a table has for an operation: the first row whose operations it is among, or what holds of all that the table does not name
abbrev pub chosen : {A : Type 0} → Operation → List (List Operation × A) → A → A
chosen o [] other = other
chosen o (row ∷ rows) other = cond (one_of o row.0) row.1 (chosen o rows other)

-- the calls that name no set: "FORMT and SINON test no more parameters"
abbrev pub whole_calls : List Operation
whole_calls = Formt ∷ Sinon ∷ []

-- the calls on a master set, and those on a variable set; RDNXT takes both kinds
abbrev pub master_calls : List Operation
master_calls = AddM ∷ DelM ∷ Readm ∷ Writm ∷ Rqloc ∷ []

abbrev pub variable_calls : List Operation
variable_calls = Readv ∷ Readr ∷ Readd ∷ Writv ∷ Addvc ∷ Addvb ∷ Addva ∷ Delvd ∷ []

abbrev pub adds : List Operation
adds = Addvc ∷ Addvb ∷ Addva ∷ []

-- those that give a record: "Reads, READM too"
abbrev pub reads : List Operation
reads = Readm ∷ Rdnxt ∷ Readv ∷ Readr ∷ Readd ∷ []
