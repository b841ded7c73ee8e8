-- The table's test is computed once, over all rows; `case` turns it into the equation of any row.
use Rattle.std.specs.Prelude.{ℕ, zero, suc, ◌<◌, ◌≡◌, refl, true, List, [], ◌∷◌, length, get_or}
use Rattle.std.proofs.Math.Bool.{and-eq-true_iff}
use Rattle.std.proofs.Common.{arith}
use Rattle.octets.specs.RunLaws.{same_bytes_eq}
use Rattle.calls.specs.Opened.{opened}
use Rattle.cases.specs.Small.{small_schema, bottle_call}
use Rattle.cases.specs.Small.{two_sets}
use Rattle.cases.specs.Cases.{Case, after, ask, play, places, table, right, every_right}

-- every definition on the way is opened, and the whole table computes to true
table_right : every_right table ≡ true
unfolding opened two_sets small_schema bottle_call places play ask table right every_right
table_right = refl

-- past the table's end
abbrev pub no_case : Case
no_case = record { question = after []; answer = [] }

all_at : (cs : List Case) (k : ℕ) → every_right cs ≡ true → k < length cs → right (get_or cs k no_case) ≡ true
unfolding every_right
all_at [] k h l = absurd (omega arith)
all_at (c ∷ cs) zero h l = ((and-eq-true_iff (right c) (every_right cs)).0 h).0
all_at (c ∷ cs) (suc k) h l = all_at cs k ((and-eq-true_iff (right c) (every_right cs)).0 h).1 (omega arith)

-- the rule of each row
pub case : (k : ℕ) → k < length table → ask (get_or table k no_case).question ≡ (get_or table k no_case).answer
unfolding right
case k h = same_bytes_eq _ _ (all_at table k table_right h)
