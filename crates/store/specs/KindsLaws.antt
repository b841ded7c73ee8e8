-- The kinds: from each the operation comes back, and it is known, a call on masters or a call on points.
use Rattle.std.specs.Prelude.{◌≡◌, refl, false, [], ◌∷◌}
use Rattle.terms.specs.declared.Operation.{Operation}
use Rattle.terms.specs.declared.Operation.TheVariants.{Formt, Sinon, AddM, DelM, Readm, Writm, Rqloc, Rdnxt, Readv, Readr, Readd, Writv, Addvc, Addvb, Addva, Delvd, Unknown}
use Rattle.calls.specs.Call.{one_of}
use Rattle.master_calls.specs.Masters.{MasterCall}
use Rattle.master_calls.specs.MasterLaws.{addm-call, delm-call, readm-call, writm-call, rqloc_call}
use Rattle.point_calls.specs.OnPath.{PointCall}
use Rattle.point_calls.specs.PathLaws.{readv-call, readr-call, readd_call, writv-call, addvc-call, addvb-call, addva-call, delvd-call}
use Rattle.store.specs.declared.kinds.OnMasters.{OnMasters}
use Rattle.store.specs.declared.kinds.OnMasters.TheVariants as M
use Rattle.store.specs.declared.kinds.OnPoints.{OnPoints}
use Rattle.store.specs.declared.kinds.OnPoints.TheVariants as P
use Rattle.store.specs.Kinds.{master_operation, point_operation, operation_kind, operation_in}

pub kind-back : (o : Operation) → operation_in (operation_kind o) ≡ o
kind-back Formt = refl
kind-back Sinon = refl
kind-back AddM = refl
kind-back DelM = refl
kind-back Readm = refl
kind-back Writm = refl
kind-back Rqloc = refl
kind-back Rdnxt = refl
kind-back Readv = refl
kind-back Readr = refl
kind-back Readd = refl
kind-back Writv = refl
kind-back Addvc = refl
kind-back Addvb = refl
kind-back Addva = refl
kind-back Delvd = refl
kind-back Unknown = refl

-- none of these is unknown
pub master-known : (m : OnMasters) → one_of (master_operation m) (Unknown ∷ []) ≡ false
master-known M.Add = refl
master-known M.Delete = refl
master-known M.Read = refl
master-known M.Write = refl
master-known M.Locate = refl

pub point-known : (p : OnPoints) → one_of (point_operation p) (Unknown ∷ []) ≡ false
point-known P.ReadNext = refl
point-known P.ReadPrior = refl
point-known P.Read = refl
point-known P.Write = refl
point-known P.AddLast = refl
point-known P.AddBefore = refl
point-known P.AddAfter = refl
point-known P.Delete = refl

-- each of the five is a call on masters
pub master-call : (m : OnMasters) → MasterCall (master_operation m)
master-call M.Add = addm-call
master-call M.Delete = delm-call.call
master-call M.Read = readm-call.call
master-call M.Write = writm-call.call
master-call M.Locate = rqloc_call

-- each of the eight is a call on points
pub point-call : (p : OnPoints) → PointCall (point_operation p)
point-call P.ReadNext = readv-call
point-call P.ReadPrior = readr-call
point-call P.Read = readd_call
point-call P.Write = writv-call
point-call P.AddLast = addvc-call
point-call P.AddBefore = addvb-call
point-call P.AddAfter = addva-call
point-call P.Delete = delvd-call
