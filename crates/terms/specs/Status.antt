-- Document 01, "Status numbers": the number and the code of each status, and which one is no refusal.
use Rattle.std.specs.Prelude.{ℕ, Bool, cond, List, eqb, Result, Ok, Err}
use Rattle.octets.specs.Text.{text}
use Rattle.terms.specs.declared.Status.{Status}
use Rattle.terms.specs.declared.Refusal.{Refusal}
use Rattle.terms.specs.declared.Refusal.TheVariants as refusal
use Rattle.terms.specs.declared.Status.TheVariants.{Done, Schm, Size, Func, Fntf, Kind, Path, Area, Klen, Bctl, Keys, Ivrp, Mrnf, Dupm, Imdl, Full, Damg}

abbrev pub status_number : Status → ℕ
status_number Done = 0
status_number Schm = 1
status_number Size = 2
status_number Func = 3
status_number Fntf = 4
status_number Kind = 5
status_number Path = 6
status_number Area = 7
status_number Klen = 8
status_number Bctl = 9
status_number Keys = 10
status_number Ivrp = 11
status_number Mrnf = 12
status_number Dupm = 13
status_number Imdl = 14
status_number Full = 15
status_number Damg = 16

abbrev pub is_done : Status → Bool
is_done s = eqb (status_number s) 0

-- the first of two statuses that refuses; where neither does, done
abbrev pub first_of : Status → Status → Status
first_of s more = cond (is_done s) more s

abbrev pub status_code : Status → List ℕ
status_code Done = text "****"
status_code Schm = text "SCHM"
status_code Size = text "SIZE"
status_code Func = text "FUNC"
status_code Fntf = text "FNTF"
status_code Kind = text "KIND"
status_code Path = text "PATH"
status_code Area = text "AREA"
status_code Klen = text "KLEN"
status_code Bctl = text "BCTL"
status_code Keys = text "KEYS"
status_code Ivrp = text "IVRP"
status_code Mrnf = text "MRNF"
status_code Dupm = text "DUPM"
status_code Imdl = text "IMDL"
status_code Full = text "FULL"
status_code Damg = text "DAMG"

-- the status of a refusal; and what a Result says as a status: done, or its refusal
abbrev pub status_by : Refusal → Status
status_by refusal.Schm = Schm
status_by refusal.Size = Size
status_by refusal.Func = Func
status_by refusal.Fntf = Fntf
status_by refusal.Kind = Kind
status_by refusal.Path = Path
status_by refusal.Area = Area
status_by refusal.Klen = Klen
status_by refusal.Bctl = Bctl
status_by refusal.Keys = Keys
status_by refusal.Ivrp = Ivrp
status_by refusal.Mrnf = Mrnf
status_by refusal.Dupm = Dupm
status_by refusal.Imdl = Imdl
status_by refusal.Full = Full
status_by refusal.Damg = Damg

abbrev pub status_of : {A : Type 0} → Result A Refusal → Status
status_of (Ok _) = Done
status_of (Err why) = status_by why
