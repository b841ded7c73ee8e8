-- The sixteen calls by what they speak of.
use Rattle.terms.specs.declared.Operation.{Operation}
use Rattle.terms.specs.declared.Operation.TheVariants.{Formt, Sinon, AddM, DelM, Readm, Writm, Rqloc, Rdnxt, Readv, Readr, Readd, Writv, Addvc, Addvb, Addva, Delvd, Unknown}
use Rattle.store.specs.declared.kinds.OnMasters.{OnMasters}
use Rattle.store.specs.declared.kinds.OnMasters.TheVariants as M
use Rattle.store.specs.declared.kinds.OnPoints.{OnPoints}
use Rattle.store.specs.declared.kinds.OnPoints.TheVariants as P
use Rattle.store.specs.declared.kinds.Kind.{Kind}
use Rattle.store.specs.declared.kinds.Kind.TheVariants as K

abbrev pub master_operation : OnMasters → Operation
master_operation M.Add = AddM
master_operation M.Delete = DelM
master_operation M.Read = Readm
master_operation M.Write = Writm
master_operation M.Locate = Rqloc

abbrev pub point_operation : OnPoints → Operation
point_operation P.ReadNext = Readv
point_operation P.ReadPrior = Readr
point_operation P.Read = Readd
point_operation P.Write = Writv
point_operation P.AddLast = Addvc
point_operation P.AddBefore = Addvb
point_operation P.AddAfter = Addva
point_operation P.Delete = Delvd

abbrev pub operation_kind : Operation → Kind
operation_kind Formt = K.Format
operation_kind Sinon = K.SignOn
operation_kind AddM = K.Masters M.Add
operation_kind DelM = K.Masters M.Delete
operation_kind Readm = K.Masters M.Read
operation_kind Writm = K.Masters M.Write
operation_kind Rqloc = K.Masters M.Locate
operation_kind Rdnxt = K.Sweep
operation_kind Readv = K.Points P.ReadNext
operation_kind Readr = K.Points P.ReadPrior
operation_kind Readd = K.Points P.Read
operation_kind Writv = K.Points P.Write
operation_kind Addvc = K.Points P.AddLast
operation_kind Addvb = K.Points P.AddBefore
operation_kind Addva = K.Points P.AddAfter
operation_kind Delvd = K.Points P.Delete
operation_kind Unknown = K.Unknown

-- and back
abbrev pub operation_in : Kind → Operation
operation_in K.Format = Formt
operation_in K.SignOn = Sinon
operation_in K.Sweep = Rdnxt
operation_in (K.Masters m) = master_operation m
operation_in (K.Points p) = point_operation p
operation_in K.Unknown = Unknown
