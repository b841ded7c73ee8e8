use Prim.Native.Nat.{ℕ, ◌<◌}
use mathlib.Core.Path.{◌≡◌, refl, sym, ap, ◌∙◌}
use mathlib.Core.List.{List}
use native.Mathlib.Omega.{arith}
use lib.ListN.{get_or}
use borrow.Author.Rules.{rules}
use Rattle.std.proofs.lemmas.Result.{err_from_is_err_and}
use Rattle.std.specs.Prelude.{Result, Option}
use Rattle.octets.specs.Octets.{run}
use Rattle.octets.specs.BelowLaws.{fill_step, rest-step}
use Rattle.terms.specs.declared.Refusal.{Refusal}
use Rattle.terms.specs.declared.Status.TheVariants.{Done}
use Rattle.terms.specs.Status.{status_by}
use Rattle.terms.specs.Laws.{refusal-counts}
use Rattle.schema.specs.declared.Entry.{Entry}
use Rattle.schema.specs.declared.Path.{Path}
use Rattle.schema.specs.declared.Part.{Part}
use Rattle.schema.specs.Decode.{path_of}
use Rattle.records.specs.InBase.{masters_kept}
use Rattle.masters.specs.Find.{find}
use Rattle.point_plans.specs.Paths.{absent_status, owner_of, owner_on, key_at}
use Rattle.point_plans.specs.PathLaws.{named_here, others-none, others-turn, others_refuse, owner_refused, owner_found, owner_part}
use Rattle.point_plans.proofs.held.Paths.all_owners.Goals as goal

-- the key that was read is path k's
read : {key : List ℕ} {p : Path} (src : List ℕ) (e : Entry) (at : List ℕ) (k : ℕ) → p ≡ path_of e k → key ≡ run src (get_or at k 0) p.len → key ≡ key_at src e at k
read src e at k q h = h ∙ ap (λ (p : Path). run src (get_or at k 0) p.len) q

-- so what was found is that of path k
owned : {key same : List ℕ} {o : Result Part Refusal} (b : List ℕ) (absent : Option Refusal) (x : Entry) → key ≡ same → o ≡ owner_of absent x (find b x key) → owner_of absent x (find b x same) ≡ o
owned b absent x q h = sym (h ∙ ap (λ (key : List ℕ). owner_of absent x (find b x key)) q)

pub loop-k-init : goal.loop-k-init
loop-k-init c =
    let a = c.args in
    (refl, others-none a.self.now.base.now (masters_kept a.self.now.masters.now) a.named.on (absent_status a.absent) (key_at a.src.now a.self.now.entry.now a.at), refl, refl)

pub part-key-requires : goal.part-key-requires
part-key-requires c =
    let h : c.loop-k.k < c.args.self.now.entry.now.count = omega arith in
    rw c.path_of-p.ensures ((c.args.self.now.points_in.path c.loop-k.k h).key, c.requires.keys_in.inside c.loop-k.k h)

pub owner_on-requires : goal.owner_on-requires
owner_on-requires c =
    let a = c.args in
    let k = c.loop-k.k in
    let h : k < a.self.now.entry.now.count = omega arith in record {
      le_records = rw c.masters_on.ensures.1 (c.args.self.now.masters_in k h).some;
      len_value = rw (c.masters_on.ensures.1, c.part-key.ensures.1, c.path_of-p.ensures) (c.args.self.now.masters_in k h).key;
      key_value = λ q. rw (c.masters_on.ensures.0, c.masters_on.ensures.1, read a.src.now a.self.now.entry.now a.at k c.path_of-p.ensures c.part-key.ensures.0) (named_here a.self.now.base.now (masters_kept a.self.now.masters.now) (key_at a.src.now a.self.now.entry.now a.at) q c.requires.on_value);
    }

pub returns-in_err-parts-clause-status : goal.returns-in_err-parts-clause-status
returns-in_err-parts-clause-status c =
    let a = c.args in
    let k = c.loop-k.k in
    let key = read a.src.now a.self.now.entry.now a.at k c.path_of-p.ensures c.part-key.ensures.0 in
    let why = c.in_err-parts.field-0.0 in
    let p = err_from_is_err_and c.from_residual.result c.from_residual.ensures.1 in
    rw (p.1, p.2)
    (others_refuse a.self.now.base.now (masters_kept a.self.now.masters.now) a.named.on (absent_status a.absent) (key_at a.src.now a.self.now.entry.now a.at) k a.self.now.entry.now.count (status_by why) a.named.master c.loop-k.invariant.1 c.requires.on_value
    (owner_refused a.absent _ _ (owned a.self.now.base.now a.absent (masters_kept a.self.now.masters.now k) key (rw (c.masters_on.ensures.0, c.masters_on.ensures.1) at c.owner_on.ensures) ∙ c.in_err-parts.was))
    (λ z. omega (arith, z, refusal-counts why)) (omega arith))

pub loop-k-preserved : goal.loop-k-preserved
loop-k-preserved c =
    let a = c.args in
    let k = c.loop-k.k in
    let i = c.loop-k.invariant in
    let key = read a.src.now a.self.now.entry.now a.at k c.path_of-p.ensures c.part-key.ensures.0 in
    let o = owned a.self.now.base.now a.absent (masters_kept a.self.now.masters.now k) key (rw (c.masters_on.ensures.0, c.masters_on.ensures.1) at c.owner_on.ensures) ∙ c.in_ok-parts.was in (
      search rules,
      others-turn a.self.now.base.now (masters_kept a.self.now.masters.now) a.named.on (absent_status a.absent) (key_at a.src.now a.self.now.entry.now a.at) k Done i.1 (owner_found a.absent _ _ o) refl,
      fill_step (owner_on a.self.now.base.now (masters_kept a.self.now.masters.now) (key_at a.src.now a.self.now.entry.now a.at)) c.loop-k.parts k _ (omega (arith, i.0, c.args.self.now.points_in.few)) i.2 (owner_part a.absent _ _ o),
      rest-step c.loop-k.parts _ k _ i.3,
    )

pub returns : goal.returns
returns c =
    let k : c.loop-k.k ≡ c.args.self.now.entry.now.count = omega arith in
    let i = c.loop-k.invariant in
    record { status = sym (rw k at i.1); found = rw k at i.2; rest = rw k at i.3 }
