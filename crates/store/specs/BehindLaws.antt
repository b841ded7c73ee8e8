-- What a call comes to behind the general tests: refused by the tests of its parameters, or carried out on its set.
use Rattle.std.specs.Prelude.{ℕ, ◌<◌, ◌≡◌, refl, List}
use Rattle.std.proofs.Common.{sym, ap, ◌∙◌}
use Rattle.terms.specs.declared.Status.{Status}
use Rattle.terms.specs.declared.Status.TheVariants.{Done}
use Rattle.terms.specs.declared.Operation.{Operation}
use Rattle.terms.specs.declared.Operation.TheVariants.{Rdnxt}
use Rattle.terms.specs.Status.{status_number}
use Rattle.schema.specs.declared.Entry.{Entry}
use Rattle.schema.specs.declared.Schema.{Schema}
use Rattle.calls.specs.Call.{Call}
use Rattle.calls.specs.Scene.{scene_under}
use Rattle.calls.specs.Outcome.{answered}
use Rattle.ends.specs.AsksLaws.{asks_its-base, asks_its-name, asks_as}
use Rattle.ends.specs.Ends.{Ends}
use Rattle.ends.specs.EndsLaws.{refused-ends}
use Rattle.terms.specs.Laws.{not_done}
use Rattle.ends.specs.Asks.{Asks, placed_status, past_general, placed_outcome, Answers}
use Rattle.master_calls.specs.Masters.{Places, AnswersOn, AnswersIn}
use Rattle.master_calls.specs.declared.Placed.{Placed}
use Rattle.records.specs.InBase.{MastersOf}
use Rattle.point_calls.specs.declared.Located.{Located}
use Rattle.point_calls.specs.OnPath.{Locates, AnswersOnPath, AnswersAmong}
use Rattle.sweep.specs.Swept.{Sweeps, SweptOn}
use Rattle.store.specs.Decides.{AnswersNamed, AnswersUnder}

pub behind-refused : (t : Schema) (c : Call) (u : Status) → u ≡ placed_status t c → 0 < status_number u → Ends (past_general t c) u c.reference c.area c.base
unfolding past_general
behind-refused t c u e h = refused-ends (scene_under t c) c _ u (rw (← e, not_done u h) refl) h

pub behind_placed : (t : Schema) (c : Call) → Done ≡ placed_status t c → past_general t c ≡ placed_outcome t c
unfolding past_general placed_outcome
behind_placed t c e = ap (answered (scene_under t c) c) (rw (← e) refl)

-- a test of the set or of the forms refuses
pub refused_behind : (t : Schema) (o : Operation) (n : List ℕ) (r : ℕ) (k a b : List ℕ) {s : Status} → 0 < status_number s
    → ((c : Call) → Asks c o n r k a c.base → s ≡ placed_status t c) → Answers t o n r k a b s r a b
refused_behind t o n r k a b {s} l w =
    record { told = λ c h. rw (← h.reference, ← h.area, ← h.base) (behind-refused t c s (w c (asks_its-base h)) l) }

-- it is carried out on its set
pub set_carried : (t : Schema) (o : Operation) (n : List ℕ) (r : ℕ) (k a b : List ℕ) (p : Placed) {u : Status} → Places t o n r k a p u → u ≡ Done
    → {s : Status} {q : ℕ} {new after : List ℕ} → AnswersIn t p.number.0 o p.entry r k a b s q new after → Answers t o n r k a b s q new after
set_carried t o n r k a b p w d f =
    record { told = λ c h. rw (behind_placed t c (sym d ∙ w.status c (asks_its-base h))) (f.told c (asks_its-name h) (w.on-set d c (asks_its-base h))) }

-- ---- an operation that is known by another name

module _ (t : Schema) (n : ℕ) (u o : Operation) (w : u ≡ o) (e : Entry) (r : ℕ) (k a b : List ℕ) {s : Status} {q : ℕ} {new after : List ℕ} where
  pub carried_on : AnswersOn o e r k a b s q new after → AnswersIn t n u e r k a b s q new after
  carried_on h = record { told = λ c asks at. h.told t c n (asks_as asks w) at }

  pub carried_in : AnswersIn t n o e r k a b s q new after → AnswersIn t n u e r k a b s q new after
  carried_in h = record { told = λ c asks at. h.told c (asks_as asks w) at }

-- ---- RDNXT, on a set of either kind

pub sweep_carried : (t : Schema) (n : List ℕ) (r : ℕ) (k a b : List ℕ) (e : Entry) {u : Status} → Sweeps t n r k a e u → u ≡ Done
    → {s : Status} {q : ℕ} {new after : List ℕ} → SweptOn e r a b s q new after → Answers t Rdnxt n r k a b s q new after
sweep_carried t n r k a b e w d f =
    record { told = λ c h. rw (behind_placed t c (sym d ∙ w.status c (asks_its-base h))) (f.told t c k (asks_its-name h) (w.on-set d c (asks_its-base h))) }

-- ---- points

pub path_refused : (t : Schema) (o : Operation) (n w : List ℕ) (r : ℕ) (k a b : List ℕ) {s : Status} → 0 < status_number s
    → ((c : Call) → Asks c o n r k a c.base → c.path ≡ w → s ≡ placed_status t c) → AnswersNamed t o n w r k a b s r a b
path_refused t o n w r k a b {s} l f =
    record { told = λ c h p. rw (← h.reference, ← h.area, ← h.base) (behind-refused t c s (f c (asks_its-base h) p) l) }

pub path_carried : (t : Schema) (o : Operation) (n w : List ℕ) (r : ℕ) (k a b : List ℕ) (l : Located) {u : Status} → Locates t o n w r k a l u → u ≡ Done
    → {s : Status} {q : ℕ} {new after : List ℕ} → AnswersUnder t o l r k a b s q new after → AnswersNamed t o n w r k a b s q new after
path_carried t o n w r k a b l at d f =
    record {
      told = λ c h p.
          rw (behind_placed t c (sym d ∙ at.status c (asks_its-base h) p))
          (f.told c (asks_its-name h) (at.on-path d c (asks_its-base h) p));
    }

module _ (t : Schema) (u o : Operation) (w : u ≡ o) (l : Located) (r : ℕ) (k a b : List ℕ) {s : Status} {q : ℕ} {new after : List ℕ} where
  pub along-path : AnswersOnPath o l.entry l.path l.masters r k a b s q new after → AnswersUnder t u l r k a b s q new after
  along-path h = record { told = λ c asks at. h.told t c l.number.0 l.on (asks_as asks w) at }

  pub along-paths : {all : List Entry} → MastersOf t l.entry all → AnswersAmong o l.entry l.on l.path l.masters all r k a b s q new after
      → AnswersUnder t u l r k a b s q new after
  along-paths of h = record { told = λ c asks at. h.told t c l.number.0 (asks_as asks w) at of }
