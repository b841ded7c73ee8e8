-- Stores with one thing wrong in each, told from `outcome`, the right one. The conditions are stated for any store, and WrongLaws proves that
-- they turn these away: a condition that a wrong store met would say too little.
use Rattle.std.specs.Prelude.{ℕ, Bool, cond, ◌&&◌, List, [], ◌∷◌, eqb, take}
use Rattle.octets.specs.Octets.{same_bytes}
use Rattle.octets.specs.Text.{text}
use Rattle.terms.specs.Terms.{end_ref}
use Rattle.terms.specs.declared.Status.TheVariants.{Done, Func}
use Rattle.terms.specs.Status.{status_number}
use Rattle.terms.specs.declared.Operation.{Operation}
use Rattle.terms.specs.declared.Operation.TheVariants.{Formt, Rdnxt, Delvd}
use Rattle.terms.specs.Operation.{operation_of}
use Rattle.schema.specs.Decode.{entry_of, schema_of}
use Rattle.schema.specs.Place.{record_of}
use Rattle.blocks.specs.declared.Check.{Check}
use Rattle.blocks.specs.Blocks.{check_by}
use Rattle.plans.specs.Plan.{Store, store_record, committed}
use Rattle.calls.specs.Call.{Call, Outcome, call_of, one_of, adds}
use Rattle.calls.specs.Scene.{scene_of}
use Rattle.calls.specs.Reply.{stores_of}
use Rattle.calls.specs.Outcome.{refused, outcome}

-- ---- stores that do not look

-- every call is FUNC
unfoldable pub refuses_all : Call → Outcome
refuses_all c = refused c Func

-- every call is done, and does nothing
unfoldable pub always_done : Call → Outcome
always_done c = refused c Done

-- ---- stores that answer rightly and leave another data base

-- the right answer, and this data base
abbrev leaving : Call → List ℕ → Outcome
leaving c b = record { status = (outcome c).status; reference = (outcome c).reference; area = (outcome c).area; base = b }

unfoldable pub stores_nothing : Call → Outcome
stores_nothing c = leaving c c.base

-- the call is of these operations, and it is done
abbrev did : List Operation → Call → Bool
did os c = one_of (operation_of c.operation) os && eqb (status_number (outcome c).status) 0

-- the kind of check that the call's schema asks for
abbrev check_for : Call → Check
check_for c = check_by (scene_of c).schema.edition

-- the stores of these operations are changed by f
abbrev storing : List Operation → (List Store → List Store) → Call → Outcome
storing os f c = leaving c (cond (did os c) (committed (check_for c) c.base (f (stores_of (scene_of c) c))) (outcome c).base)

-- an add stores the new record and the two sides of the first path
unfoldable pub links_first : Call → Outcome
links_first c = storing adds (take 3) c

-- of prior's side and next's side, path by path, and the wiping: only the prior's sides and the wiping
unfoldable pub every_other : List Store → List Store
every_other [] = []
every_other (x ∷ []) = x ∷ []
every_other (x ∷ y ∷ xs) = x ∷ every_other xs

unfoldable pub forgets_next : Call → Outcome
forgets_next c = storing (Delvd ∷ []) every_other c

-- FORMT leaves the first record of the first set as it was; the checks are set
unfoldable pub format_leaves : Call → Outcome
format_leaves c =
    leaving c
    (cond (did (Formt ∷ []) c)
    (committed (check_for c) (outcome c).base
    (store_record (entry_of (schema_of c.schema) 0) 1 (record_of c.base (entry_of (schema_of c.schema) 0) 1) ∷ []))
    (outcome c).base)

-- ---- stores that do another call

-- the same call of this operation
abbrev calling : Call → List ℕ → Outcome
calling c operation = outcome (call_of operation c.name c.reference c.path c.key c.area c.schema c.base)

-- ADDVB does what ADDVA does
unfoldable pub inserts_after : Call → Outcome
inserts_after c = calling c (cond (same_bytes c.operation (text "ADDVB")) (text "ADDVA") c.operation)

-- READR does what READV does
unfoldable pub reads_forward : Call → Outcome
reads_forward c = calling c (cond (same_bytes c.operation (text "READR")) (text "READV") c.operation)

-- ---- a store that says END. too soon

-- an RDNXT that is done gives END. at once
unfoldable pub sweeps_nothing : Call → Outcome
sweeps_nothing c = cond (did (Rdnxt ∷ []) c) (record { status = Done; reference = end_ref; area = c.area; base = c.base }) (outcome c)
