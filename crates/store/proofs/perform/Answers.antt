use Prim.Native.Nat.{◌*◌}
use lib.ListN.{length}
use Rattle.store.specs.KindsLaws.{master-known, point-known}
use mathlib.Core.Path.{◌≡◌, refl}
use native.Mathlib.Omega.{arith}
use Rattle.store.specs.DecideLaws.{told-kind, decides_unknown, decides_format, decides_sign_on, decides_behind, decides_path}
use Rattle.store.proofs.perform.Goals as goal

pub format-requires : goal.format-requires
format-requires c =
    let laid = c.requires.laid in
    (omega (arith, laid.size), laid.ok.blocks)

pub returns-in-Format : goal.returns-in-Format
returns-in-Format c =
    decides_format _ _ _ _ _ _ _ _ ((let by_sized : length c.args.base.now ≡ c.args.t.blocks * 512 = omega (arith, c.requires.laid.size) in by_sized)) (told-kind _ c.from-kind.ensures c.in-Format.is) (c.format.ensures _) refl refl

pub returns-in-SignOn : goal.returns-in-SignOn
returns-in-SignOn c =
    decides_sign_on _ _ _ _ _ _ _ _ ((let by_sized : length c.args.base.now ≡ c.args.t.blocks * 512 = omega (arith, c.requires.laid.size) in by_sized)) (told-kind _ c.from-kind.ensures c.in-SignOn.is) c.sign_on.ensures.status c.sign_on.ensures.reference

pub returns-in-Sweep : goal.returns-in-Sweep
returns-in-Sweep c =
    decides_behind _ _ _ _ _ _ _ _ ((let by_sized : length c.args.base.now ≡ c.args.t.blocks * 512 = omega (arith, c.requires.laid.size) in by_sized)) _ (told-kind _ c.from-kind.ensures c.in-Sweep.is) refl c.on_any.ensures

pub returns-in-Masters : goal.returns-in-Masters
returns-in-Masters c =
    decides_behind _ _ _ _ _ _ _ _ ((let by_sized : length c.args.base.now ≡ c.args.t.blocks * 512 = omega (arith, c.requires.laid.size) in by_sized)) _ (told-kind _ c.from-kind.ensures c.in-Masters.is) (master-known c.in-Masters.m) c.on_masters.ensures

pub returns-in-Points : goal.returns-in-Points
returns-in-Points c =
    decides_path _ _ _ _ _ _ _ _ ((let by_sized : length c.args.base.now ≡ c.args.t.blocks * 512 = omega (arith, c.requires.laid.size) in by_sized)) _ (told-kind _ c.from-kind.ensures c.in-Points.is) (point-known c.in-Points.p) c.on_points.ensures

pub returns-in-Unknown : goal.returns-in-Unknown
returns-in-Unknown c =
    decides_unknown _ _ _ _ _ _ _ _ ((let by_sized : length c.args.base.now ≡ c.args.t.blocks * 512 = omega (arith, c.requires.laid.size) in by_sized)) (told-kind _ c.from-kind.ensures c.in-Unknown.is) refl refl
