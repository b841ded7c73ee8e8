use mathlib.Core.Path.{refl, ap}
use Rattle.master_calls.specs.MasterLaws.{known-set}
use Rattle.store.specs.Kinds.{master_operation}
use Rattle.store.specs.BehindLaws.{carried_on, carried_in}
use Rattle.store.proofs.on_masters.carry_out.Goals as goal

pub addm-requires : goal.addm-requires
addm-requires c =
    let k = c.requires.set_known in
    let i = known-set c.requires.laid k in
    record { master_set = i; key_len = k.key; area_len = k.area (rw c.in-Add.is refl) }

pub delm-requires : goal.delm-requires
delm-requires c =
    let k = c.requires.set_known in
    let i = known-set c.requires.laid k in
    record { laid = c.requires.laid; n_lt_masters = k.among; e_value = k.here; key_len = k.key }

pub readm-requires : goal.readm-requires
readm-requires c =
    let k = c.requires.set_known in
    let i = known-set c.requires.laid k in
    record { master_set = i; key_len = k.key; area_len = k.area (rw c.in-Read.is refl) }

pub writm-requires : goal.writm-requires
writm-requires c =
    let k = c.requires.set_known in
    let i = known-set c.requires.laid k in
    record { master_set = i; key_len = k.key; area_len = k.area (rw c.in-Write.is refl) }

pub rqloc-requires : goal.rqloc-requires
rqloc-requires c =
    let k = c.requires.set_known in
    let i = known-set c.requires.laid k in
    record { by_index = (_, i); key_len = k.key }

pub returns-in-Add : goal.returns-in-Add
returns-in-Add c = carried_on _ _ _ _ (ap master_operation c.in-Add.is) _ _ _ _ _ c.addm.ensures

pub returns-in-Delete : goal.returns-in-Delete
returns-in-Delete c = carried_in _ _ _ _ (ap master_operation c.in-Delete.is) _ _ _ _ _ c.delm.ensures

pub returns-in-Read : goal.returns-in-Read
returns-in-Read c = carried_on _ _ _ _ (ap master_operation c.in-Read.is) _ _ _ _ _ c.readm.ensures

pub returns-in-Write : goal.returns-in-Write
returns-in-Write c = carried_on _ _ _ _ (ap master_operation c.in-Write.is) _ _ _ _ _ c.writm.ensures

pub returns-in-Locate : goal.returns-in-Locate
returns-in-Locate c = carried_on _ _ _ _ (ap master_operation c.in-Locate.is) _ _ _ _ _ (c.rqloc.ensures _ _ _)
