-- `point_plans::Paths::delete` meets its contract: a refusal of the search for the masters, or what the rest comes to.
use Prim.Native.Nat.{ℕ, ◌<◌}
use mathlib.Core.Path.{◌≡◌, refl, sym, ap, ◌∙◌}
use mathlib.Core.Bool.{cond}
use mathlib.Core.List.{List}
use lib.ListN.{length, get_or, take}
use Rattle.std.proofs.lemmas.Result.{err_from_is_err_and, IfOk-from_err}
use Rattle.octets.specs.Below.{upto}
use Rattle.terms.specs.Laws.{refusal-not-done}
use Rattle.terms.specs.declared.RecordNo.{RecordNo}
use Rattle.terms.specs.declared.Status.{Status}
use Rattle.terms.specs.declared.Status.TheVariants.{Done, Damg}
use Rattle.terms.specs.Status.{status_by, status_of}
use Rattle.schema.specs.declared.Entry.{Entry}
use Rattle.schema.specs.declared.Part.{Part}
use Rattle.schema.specs.declared.Schema.{Schema}
use Rattle.schema.specs.Decode.{path_of, masters_on}
use Rattle.schema.specs.Place.{InSet, record_of}
use Rattle.schema.proofs.PlaceLaws.{record_length}
use Rattle.records.specs.Records.{key_on}
use Rattle.records.specs.InBase.{masters_kept, MastersOf, MastersIn, PointsIn}
use Rattle.masters.specs.declared.Found.TheVariants.{At}
use Rattle.masters.specs.Find.{find}
use Rattle.point_plans.specs.Rest.{other_masters}
use Rattle.point_plans.specs.Paths.{key_at, owner_on, own_links, damaged}
use Rattle.point_plans.specs.WithinLaws.{record_keys_in, record_key}
use Rattle.point_plans.specs.Within.{KeysIn}
use Rattle.point_plans.specs.PathLaws.{others_same, filled_at}
use Rattle.point_plans.specs.SideLaws.{Known, known_of, known-by-schema, owners_in}
use Rattle.point_plans.specs.CallLaws.{del_refused, del_answer, del_plan}
use borrow.Author.Rules.{rules}
use Rattle.point_plans.proofs.held.Paths.delete.Goals as goal

-- where the keys stand, and that they are the record's
places : (e : Entry) (at : List ℕ) → take e.count at ≡ upto (λ k. (path_of e k).at) e.count → (k : ℕ) → k < e.count → get_or at k 0 ≡ (path_of e k).at
places e at kept = filled_at (λ k. (path_of e k).at) at e.count 0 kept

abbrev own : List ℕ → Entry → ℕ → ℕ → List ℕ
own b e r k = key_on b e r (path_of e k)

keys : (b : List ℕ) (e : Entry) (r : ℕ) (part at : List ℕ) → part ≡ record_of b e r → PointsIn e (length b)
    → take e.count at ≡ upto (λ k. (path_of e k).at) e.count → (k : ℕ) → k < e.count → key_at part e at k ≡ own b e r k
keys b e r part at read points kept k l =
    ap (λ (part : List ℕ). key_at part e at k) read ∙ record_key b r at points (places e at kept) k l

-- they lie in the record's part
inside : (b : List ℕ) (e : Entry) (r : ℕ) (part at : List ℕ) → part ≡ record_of b e r → PointsIn e (length b) → InSet e r
    → take e.count at ≡ upto (λ k. (path_of e k).at) e.count → KeysIn e at (length part)
inside b e r part at read points in_set kept =
    record_keys_in at points (ap length read ∙ record_length b e r points.lies in_set) (places e at kept)

-- what the search answers, among the masters that are handed down and under every schema that has them
others : (b : List ℕ) (e : Entry) (masters : List Entry) (r : ℕ) (part at : List ℕ) (on : ℕ) (s : Status)
    → ((k : ℕ) → k < e.count → key_at part e at k ≡ own b e r k)
    → s ≡ other_masters b (masters_kept masters) on Damg (key_at part e at) e.count
    → s ≡ other_masters b (masters_kept masters) on Damg (own b e r) e.count
others b e masters r part at on s same is =
    is ∙ others_same b (masters_kept masters) (masters_kept masters) on Damg (key_at part e at) (own b e r) e.count (λ k l. refl) same

others_under : (b : List ℕ) (e : Entry) (masters : List Entry) (r : ℕ) (part at : List ℕ) (on : ℕ) (s : Status)
    → ((k : ℕ) → k < e.count → key_at part e at k ≡ own b e r k)
    → s ≡ other_masters b (masters_kept masters) on Damg (key_at part e at) e.count
    → (t : Schema) → MastersOf t e masters
    → s ≡ other_masters b (masters_on t e) on Damg (own b e r) e.count
others_under b e masters r part at on s same is t of =
    others b e masters r part at on s same is
    ∙ others_same b (masters_kept masters) (masters_on t e) on Damg (own b e r) (own b e r) e.count of.same (λ k l. refl)

-- what it leaves where it refuses none
known : (b : List ℕ) (e : Entry) (masters : List Entry) (r : ℕ) (part at : List ℕ) (on : ℕ) (m : RecordNo) (owners : List Part)
    → ((k : ℕ) → k < e.count → key_at part e at k ≡ own b e r k)
    → Done ≡ other_masters b (masters_kept masters) on Damg (key_at part e at) e.count
    → PointsIn e (length b) → ((k : ℕ) → k < e.count → MastersIn (masters_kept masters k) (path_of e k) (length b)) → find b (masters_kept masters on) (own b e r on) ≡ At m
    → take e.count owners ≡ upto (owner_on b (masters_kept masters) (key_at part e at)) e.count
    → Known b (masters_kept masters) e (own b e r) owners
known b e masters r part at on m owners same is points masters_in named found =
    known_of b e masters on Damg (key_at part e at) (own b e r) owners m points masters_in same refl
    (sym (others b e masters r part at on Done same is)) named found

pub all_owners-requires : goal.all_owners-requires
all_owners-requires c =
    let a = c.args in
    let part = c.bytes-part.result.now in
    let read : part ≡ record_of a.self.now.base.now a.self.now.entry.now a.r.0 = search rules in
    let at = c.record_places-at.result in
    let kept = c.record_places-at.ensures.result_value in
    let points = c.args.self.now.points_in in record {
      keys_in = inside a.self.now.base.now a.self.now.entry.now a.r.0 part at read points c.requires.in_set kept;
      on_value = ap (find a.self.now.base.now (masters_kept a.self.now.masters.now a.named.on)) (keys a.self.now.base.now a.self.now.entry.now a.r.0 part at read points kept a.named.on c.requires.on_lt_count) ∙ c.requires.on_value;
    }

pub returns-in_err-owners-clause-status : goal.returns-in_err-owners-clause-status
returns-in_err-owners-clause-status c =
    let a = c.args in
    let part = c.bytes-part.result.now in
    let read : part ≡ record_of a.self.now.base.now a.self.now.entry.now a.r.0 = search rules in
    let at = c.record_places-at.result in
    let same = keys a.self.now.base.now a.self.now.entry.now a.r.0 part at read c.args.self.now.points_in c.record_places-at.ensures.result_value in
    let why = c.in_err-owners.field-0.0 in
    let p = err_from_is_err_and c.from_residual.result c.from_residual.ensures.1 in
    λ t of.
    rw (p.1, p.2)
    (del_refused a.self.now.base.now t a.self.now.entry.now a.r.0 a.named.on (others_under a.self.now.base.now a.self.now.entry.now a.self.now.masters.now a.r.0 part at a.named.on (status_by why) same c.in_err-owners.ensures.status t of) (refusal-not-done why))

pub returns-in_err-owners-clause-plan : goal.returns-in_err-owners-clause-plan
returns-in_err-owners-clause-plan c =
    λ t of. IfOk-from_err c.from_residual.result _ c.from_residual.ensures.0

pub invariant_of-point : goal.invariant_of-point
invariant_of-point c =
    let a = c.args in
    let part = c.bytes-part.result.now in
    let read : part ≡ record_of a.self.now.base.now a.self.now.entry.now a.r.0 = search rules in
    let at = c.record_places-at.result in
    let kept = c.record_places-at.ensures.result_value in
    let points = c.args.self.now.points_in in
    let same = keys a.self.now.base.now a.self.now.entry.now a.r.0 part at read points kept in
    let o = c.in_ok-owners.ensures in
    let owners = c.in_ok-owners.owners in record {
      points_in = c.args.self.now.points_in;
      keys_in = inside a.self.now.base.now a.self.now.entry.now a.r.0 part at read points c.requires.in_set kept;
      owners_in = owners_in a.self.now.base.now (masters_kept a.self.now.masters.now) a.self.now.entry.now (own a.self.now.base.now a.self.now.entry.now a.r.0) owners
          (known a.self.now.base.now a.self.now.entry.now a.self.now.masters.now a.r.0 part at a.named.on a.named.master owners same o.status c.args.self.now.points_in c.args.self.now.masters_in c.requires.on_value o.found);
    }

pub returns : goal.returns
returns c =
    let a = c.args in
    let part = c.bytes-part.result.now in
    let read : part ≡ record_of a.self.now.base.now a.self.now.entry.now a.r.0 = search rules in
    let at = c.record_places-at.result in
    let kept = c.record_places-at.ensures.result_value in
    let same = keys a.self.now.base.now a.self.now.entry.now a.r.0 part at read c.args.self.now.points_in kept in
    let o = c.in_ok-owners.ensures in
    let owners = c.in_ok-owners.owners in
    let held = known a.self.now.base.now a.self.now.entry.now a.self.now.masters.now a.r.0 part at a.named.on a.named.master owners same o.status c.args.self.now.points_in c.args.self.now.masters_in c.requires.on_value o.found in
    -- what was asked of the keys in the part
    let asked : status_of c.delete.result ≡ cond (damaged a.self.now.base.now a.self.now.entry.now (record_of a.self.now.base.now a.self.now.entry.now a.r.0) at owners (own_links a.self.now.base.now a.self.now.entry.now a.r.0)) Damg Done
    = c.delete.ensures.status
    ∙ ap (λ (part : List ℕ). cond (damaged a.self.now.base.now a.self.now.entry.now part at owners (own_links a.self.now.base.now a.self.now.entry.now a.r.0)) Damg Done) read in record {
      status = λ t of.
          del_answer a.self.now.base.now t a.self.now.entry.now a.r.0 owners (known-by-schema a.self.now.base.now t a.self.now.entry.now a.self.now.masters.now (own a.self.now.base.now a.self.now.entry.now a.r.0) owners of held) at a.named.on (places a.self.now.entry.now at kept)
          (sym (others_under a.self.now.base.now a.self.now.entry.now a.self.now.masters.now a.r.0 part at a.named.on Done same o.status t of)) asked;
      plan = λ t of.
          del_plan a.self.now.base.now t a.self.now.entry.now a.r.0 owners (known-by-schema a.self.now.base.now t a.self.now.entry.now a.self.now.masters.now (own a.self.now.base.now a.self.now.entry.now a.r.0) owners of held) at c.delete.result c.requires.in_set asked c.delete.ensures.built;
    }
