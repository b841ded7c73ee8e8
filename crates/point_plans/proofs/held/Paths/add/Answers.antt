-- `point_plans::Paths::add` meets its contract: a refusal of the search for the masters, or what the rest comes to.
use Prim.Native.Nat.{ℕ, ◌<◌}
use mathlib.Core.Path.{◌≡◌, refl, sym, ap, ◌∙◌}
use mathlib.Core.List.{List}
use lib.ListN.{length, get_or, take}
use Rattle.octets.specs.Octets.{run}
use Rattle.std.proofs.lemmas.Result.{err_from_is_err_and, IfOk-from_err}
use Rattle.octets.specs.Below.{upto}
use Rattle.terms.specs.Laws.{refusal-not-done}
use Rattle.terms.specs.declared.RecordNo.{RecordNo}
use Rattle.terms.specs.declared.Status.{Status}
use Rattle.terms.specs.declared.Status.TheVariants.{Done, Mrnf}
use Rattle.terms.specs.Status.{status_by}
use Rattle.schema.specs.declared.Entry.{Entry}
use Rattle.schema.specs.declared.Part.{Part}
use Rattle.schema.specs.declared.Schema.{Schema}
use Rattle.schema.specs.Decode.{path_of, masters_on}
use Rattle.records.specs.Areas.{area_key_place, area_key_on}
use Rattle.records.specs.InBase.{masters_kept, MastersOf, MastersIn, PointsIn}
use Rattle.masters.specs.declared.Found.TheVariants.{At}
use Rattle.masters.specs.Find.{find}
use Rattle.point_plans.specs.Rest.{other_masters}
use Rattle.point_plans.specs.Paths.{key_at, owner_on}
use Rattle.point_plans.specs.WithinLaws.{area_keys_in}
use Rattle.point_plans.specs.PathLaws.{others_same, filled_at}
use Rattle.point_plans.specs.SideLaws.{Known, known_of, known-by-schema, owners_in}
use Rattle.point_plans.specs.CallLaws.{add-refused, add-answer, add-plan}
use Rattle.point_plans.proofs.held.Paths.add.Goals as goal

-- where the keys stand, and that they are the area's
places : (e : Entry) (at : List ℕ) → take e.count at ≡ upto (area_key_place e) e.count → (k : ℕ) → k < e.count → get_or at k 0 ≡ area_key_place e k
places e at kept = filled_at (area_key_place e) at e.count 0 kept

keys : (e : Entry) (area at : List ℕ) → take e.count at ≡ upto (area_key_place e) e.count → (k : ℕ) → k < e.count
    → key_at area e at k ≡ area_key_on e area k
keys e area at kept k l = ap (λ (n : ℕ). run area n (path_of e k).len) (places e at kept k l)

-- what the search answers, among the masters that are handed down and under every schema that has them
others : (b : List ℕ) (e : Entry) (masters : List Entry) (area at : List ℕ) (on : ℕ) (s : Status) → take e.count at ≡ upto (area_key_place e) e.count
    → s ≡ other_masters b (masters_kept masters) on Mrnf (key_at area e at) e.count
    → s ≡ other_masters b (masters_kept masters) on Mrnf (area_key_on e area) e.count
others b e masters area at on s kept is =
    is ∙ others_same b (masters_kept masters) (masters_kept masters) on Mrnf (key_at area e at) (area_key_on e area) e.count (λ k l. refl) (keys e area at kept)

others_under : (b : List ℕ) (e : Entry) (masters : List Entry) (area at : List ℕ) (on : ℕ) (s : Status) → take e.count at ≡ upto (area_key_place e) e.count
    → s ≡ other_masters b (masters_kept masters) on Mrnf (key_at area e at) e.count
    → (t : Schema) → MastersOf t e masters
    → s ≡ other_masters b (masters_on t e) on Mrnf (area_key_on e area) e.count
others_under b e masters area at on s kept is t of =
    others b e masters area at on s kept is
    ∙ others_same b (masters_kept masters) (masters_on t e) on Mrnf (area_key_on e area) (area_key_on e area) e.count of.same (λ k l. refl)

-- what it leaves where it refuses none
known : (b : List ℕ) (e : Entry) (masters : List Entry) (area at : List ℕ) (on : ℕ) (m : RecordNo) (owners : List Part)
    → take e.count at ≡ upto (area_key_place e) e.count
    → Done ≡ other_masters b (masters_kept masters) on Mrnf (key_at area e at) e.count
    → PointsIn e (length b) → ((k : ℕ) → k < e.count → MastersIn (masters_kept masters k) (path_of e k) (length b)) → find b (masters_kept masters on) (area_key_on e area on) ≡ At m
    → take e.count owners ≡ upto (owner_on b (masters_kept masters) (key_at area e at)) e.count
    → Known b (masters_kept masters) e (area_key_on e area) owners
known b e masters area at on m owners kept is points masters_in named found =
    known_of b e masters on Mrnf (key_at area e at) (area_key_on e area) owners m points masters_in (keys e area at kept) refl
    (sym (others b e masters area at on Done kept is)) named found

pub all_owners-requires : goal.all_owners-requires
all_owners-requires c =
    let a = c.args in
    let at = c.area_places-at.result in
    let kept = c.area_places-at.ensures.result_value in record {
      keys_in = area_keys_in at a.area.now c.args.self.now.points_in c.requires.area_len (places a.self.now.entry.now at kept);
      on_value = ap (find a.self.now.base.now (masters_kept a.self.now.masters.now a.named.on)) (keys a.self.now.entry.now a.area.now at kept a.named.on c.requires.on_lt_count) ∙ c.requires.on_value;
    }

pub returns-in_err-owners-clause-status : goal.returns-in_err-owners-clause-status
returns-in_err-owners-clause-status c =
    let a = c.args in
    let why = c.in_err-owners.field-0.0 in
    let p = err_from_is_err_and c.from_residual.result c.from_residual.ensures.1 in
    λ t of.
    rw (p.1, p.2)
    (add-refused a.self.now.base.now t a.self.now.entry.now a.area.now a.spot a.named.on
    (others_under a.self.now.base.now a.self.now.entry.now a.self.now.masters.now a.area.now c.area_places-at.result a.named.on (status_by why) c.area_places-at.ensures.result_value c.in_err-owners.ensures.status t of)
    (refusal-not-done why))

pub returns-in_err-owners-clause-plan : goal.returns-in_err-owners-clause-plan
returns-in_err-owners-clause-plan c =
    λ t of. IfOk-from_err c.from_residual.result _ c.from_residual.ensures.0

pub invariant_of-point : goal.invariant_of-point
invariant_of-point c =
    let a = c.args in
    let at = c.area_places-at.result in
    let kept = c.area_places-at.ensures.result_value in
    let o = c.in_ok-owners.ensures in
    let owners = c.in_ok-owners.owners in record {
      points_in = c.args.self.now.points_in;
      keys_in = area_keys_in at a.area.now c.args.self.now.points_in c.requires.area_len (places a.self.now.entry.now at kept);
      owners_in = owners_in a.self.now.base.now (masters_kept a.self.now.masters.now) a.self.now.entry.now (area_key_on a.self.now.entry.now a.area.now) owners
          (known a.self.now.base.now a.self.now.entry.now a.self.now.masters.now a.area.now at a.named.on a.named.master owners kept o.status c.args.self.now.points_in c.args.self.now.masters_in c.requires.on_value o.found);
    }

pub returns : goal.returns
returns c =
    let a = c.args in
    let at = c.area_places-at.result in
    let kept = c.area_places-at.ensures.result_value in
    let o = c.in_ok-owners.ensures in
    let owners = c.in_ok-owners.owners in
    let held = known a.self.now.base.now a.self.now.entry.now a.self.now.masters.now a.area.now at a.named.on a.named.master owners kept o.status c.args.self.now.points_in c.args.self.now.masters_in c.requires.on_value o.found in record {
      status = λ t of.
          add-answer a.self.now.base.now t a.self.now.entry.now a.area.now a.spot a.named.on owners (known-by-schema a.self.now.base.now t a.self.now.entry.now a.self.now.masters.now (area_key_on a.self.now.entry.now a.area.now) owners of held)
          at (places a.self.now.entry.now at kept) (sym (others_under a.self.now.base.now a.self.now.entry.now a.self.now.masters.now a.area.now at a.named.on Done kept o.status t of)) c.add.ensures.status;
      plan = λ t of.
          add-plan a.self.now.base.now t a.self.now.entry.now a.area.now a.spot a.named.on owners (known-by-schema a.self.now.base.now t a.self.now.entry.now a.self.now.masters.now (area_key_on a.self.now.entry.now a.area.now) owners of held)
          at c.add.result c.requires.on_lt_count c.add.ensures.status c.add.ensures.built;
    }
