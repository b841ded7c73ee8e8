-- `store::on_points::carry_out` meets its contract: each arm is its operation's, on the path that was located.
use Prim.Native.Nat.{◌*◌}
use mathlib.Core.Path.{refl, ap}
use lib.ListN.{length}
use Rattle.records.specs.InBase.{IsPathUnder, VariableIn}
use Rattle.records.proofs.InBaseLaws.{of_a-schema, variable_in}
use Rattle.point_calls.specs.PathLaws.{known_under, known_among}
use Rattle.point_calls.specs.StoreLaws.{spotted_last, spotted_before, spotted_after}
use Rattle.store.specs.Kinds.{point_operation}
use Rattle.store.specs.BehindLaws.{along-path, along-paths}
use Rattle.store.proofs.on_points.carry_out.Goals as goal

pub read_along-requires : goal.read_along-requires
read_along-requires c =
    let k = c.requires.path_known in
    let q = c.in-ReadNext.is in
    record { path = of_a-schema ((let by_under : (let l = c.args.l in IsPathUnder c.args.t l.entry l.on l.path l.masters (length c.args.base.now)) = known_under _ _ _ _ _ _ _ _ _ _ c.requires.laid c.requires.path_known in by_under)); key_len = k.key; area_len = k.area (rw q refl); fact = k.link (rw q refl) }

pub read_along-requires-in-ReadPrior : goal.read_along-requires-in-ReadPrior
read_along-requires-in-ReadPrior c =
    let k = c.requires.path_known in
    let q = c.in-ReadPrior.is in
    record { path = of_a-schema ((let by_under : (let l = c.args.l in IsPathUnder c.args.t l.entry l.on l.path l.masters (length c.args.base.now)) = known_under _ _ _ _ _ _ _ _ _ _ c.requires.laid c.requires.path_known in by_under)); key_len = k.key; area_len = k.area (rw q refl); fact = k.link (rw q refl) }

pub readd-requires : goal.readd-requires
readd-requires c =
    let k = c.requires.path_known in
    let q = c.in-Read.is in
    record { path = of_a-schema ((let by_under : (let l = c.args.l in IsPathUnder c.args.t l.entry l.on l.path l.masters (length c.args.base.now)) = known_under _ _ _ _ _ _ _ _ _ _ c.requires.laid c.requires.path_known in by_under)); key_len = k.key; area_len = k.area (rw q refl); in_set = k.number (rw q refl) }

pub writv-requires : goal.writv-requires
writv-requires c =
    let k = c.requires.path_known in
    let q = c.in-Write.is in
    record { path = of_a-schema ((let by_under : (let l = c.args.l in IsPathUnder c.args.t l.entry l.on l.path l.masters (length c.args.base.now)) = known_under _ _ _ _ _ _ _ _ _ _ c.requires.laid c.requires.path_known in by_under)); key_len = k.key; area_len = k.area (rw q refl); in_set = k.number (rw q refl) }

pub masters_of-requires : goal.masters_of-requires
masters_of-requires c = (let by_paths : VariableIn c.args.t c.args.l.entry (512 * c.args.t.blocks) = let k = c.requires.path_known in
    rw k.here (variable_in _ (record { ok = c.requires.laid.ok; fields = c.requires.laid.fields; size = refl }) k.behind k.among) in by_paths)

pub add_at-requires : goal.add_at-requires
add_at-requires c =
    let k = c.requires.path_known in
    let q = c.in-AddLast.is in
    record { path_among = known_among _ _ _ _ _ _ _ _ _ _ c.requires.laid k c.masters_of.ensures; key_len = k.key; area_len = k.area (rw q refl); on_value = k.same (rw q refl); spotted = spotted_last _ _ _ }

pub masters_of-requires-in-AddBefore : goal.masters_of-requires-in-AddBefore
masters_of-requires-in-AddBefore c = (let by_paths : VariableIn c.args.t c.args.l.entry (512 * c.args.t.blocks) = let k = c.requires.path_known in
    rw k.here (variable_in _ (record { ok = c.requires.laid.ok; fields = c.requires.laid.fields; size = refl }) k.behind k.among) in by_paths)

pub add_at-requires-in-AddBefore : goal.add_at-requires-in-AddBefore
add_at-requires-in-AddBefore c =
    let k = c.requires.path_known in
    let q = c.in-AddBefore.is in
    record { path_among = known_among _ _ _ _ _ _ _ _ _ _ c.requires.laid k c.masters_of-in-AddBefore.ensures; key_len = k.key; area_len = k.area (rw q refl); on_value = k.same (rw q refl); spotted = spotted_before _ _ _ (k.number (rw q refl)) }

pub masters_of-requires-in-AddAfter : goal.masters_of-requires-in-AddAfter
masters_of-requires-in-AddAfter c = (let by_paths : VariableIn c.args.t c.args.l.entry (512 * c.args.t.blocks) = let k = c.requires.path_known in
    rw k.here (variable_in _ (record { ok = c.requires.laid.ok; fields = c.requires.laid.fields; size = refl }) k.behind k.among) in by_paths)

pub add_at-requires-in-AddAfter : goal.add_at-requires-in-AddAfter
add_at-requires-in-AddAfter c =
    let k = c.requires.path_known in
    let q = c.in-AddAfter.is in
    record { path_among = known_among _ _ _ _ _ _ _ _ _ _ c.requires.laid k c.masters_of-in-AddAfter.ensures; key_len = k.key; area_len = k.area (rw q refl); on_value = k.same (rw q refl); spotted = spotted_after _ _ _ (k.number (rw q refl)) }

pub masters_of-requires-in-Delete : goal.masters_of-requires-in-Delete
masters_of-requires-in-Delete c = (let by_paths : VariableIn c.args.t c.args.l.entry (512 * c.args.t.blocks) = let k = c.requires.path_known in
    rw k.here (variable_in _ (record { ok = c.requires.laid.ok; fields = c.requires.laid.fields; size = refl }) k.behind k.among) in by_paths)

pub delvd-requires : goal.delvd-requires
delvd-requires c =
    let k = c.requires.path_known in
    let q = c.in-Delete.is in
    record { path_among = known_among _ _ _ _ _ _ _ _ _ _ c.requires.laid k c.masters_of-in-Delete.ensures; key_len = k.key; in_set = k.number (rw q refl) }

pub returns-in-ReadNext : goal.returns-in-ReadNext
returns-in-ReadNext c =
    along-path _ _ _ (ap point_operation c.in-ReadNext.is) _ _ _ _ _ c.read_along.ensures

pub returns-in-ReadPrior : goal.returns-in-ReadPrior
returns-in-ReadPrior c =
    along-path _ _ _ (ap point_operation c.in-ReadPrior.is) _ _ _ _ _ c.read_along-in-ReadPrior.ensures

pub returns-in-Read : goal.returns-in-Read
returns-in-Read c =
    along-path _ _ _ (ap point_operation c.in-Read.is) _ _ _ _ _ c.readd.ensures

pub returns-in-Write : goal.returns-in-Write
returns-in-Write c =
    along-path _ _ _ (ap point_operation c.in-Write.is) _ _ _ _ _ c.writv.ensures

pub returns-in-AddLast : goal.returns-in-AddLast
returns-in-AddLast c =
    along-paths _ _ _ (ap point_operation c.in-AddLast.is) _ _ _ _ _ c.masters_of.ensures c.add_at.ensures

pub returns-in-AddBefore : goal.returns-in-AddBefore
returns-in-AddBefore c =
    along-paths _ _ _ (ap point_operation c.in-AddBefore.is) _ _ _ _ _ c.masters_of-in-AddBefore.ensures c.add_at-in-AddBefore.ensures

pub returns-in-AddAfter : goal.returns-in-AddAfter
returns-in-AddAfter c =
    along-paths _ _ _ (ap point_operation c.in-AddAfter.is) _ _ _ _ _ c.masters_of-in-AddAfter.ensures c.add_at-in-AddAfter.ensures

pub returns-in-Delete : goal.returns-in-Delete
returns-in-Delete c =
    along-paths _ _ _ (ap point_operation c.in-Delete.is) _ _ _ _ _ c.masters_of-in-Delete.ensures c.delvd.ensures
