-- Plans as they are made, field by field.
use Rattle.std.specs.Prelude.{ℕ, ◌+◌, List, set, replicate, Result, Ok, Err}
use Rattle.terms.specs.declared.RecordNo.{RecordNo}
use Rattle.terms.specs.declared.Refusal.{Refusal}
use Rattle.records.specs.declared.Link.{Link}
use Rattle.records.specs.Areas.{no_link}
use Rattle.plans.specs.declared.Word.{Word}
use Rattle.plans.specs.declared.Head.{Head}
use Rattle.plans.specs.declared.Head.TheVariants.{Nothing, Body}
use Rattle.plans.specs.declared.Plan.{Plan}

-- nothing but a head
abbrev pub head_plan : Head → RecordNo → RecordNo → List Link → Plan
head_plan h r q links = record { head = h; target = r; other = q; links = links; words = replicate 8 (record { at = 0; size = 0; offset = 0; value = 0 }); count = 0; wiped = 0 }

-- one more word, behind the others; and a record that is wiped in the end
abbrev pub with_word : Plan → Word → Plan
with_word p w =
    record { head = p.head; target = p.target; other = p.other; links = p.links; words = set p.words p.count w; count = p.count + 1; wiped = p.wiped }

abbrev pub with_wiped : Plan → ℕ → Plan
with_wiped p r = record { head = p.head; target = p.target; other = p.other; links = p.links; words = p.words; count = p.count; wiped = r }

-- a head that speaks of one record alone, and links none
abbrev pub lone_plan : Head → RecordNo → Plan
lone_plan h r = head_plan h r (record { 0 = 0 }) (replicate 4 no_link)

-- the plan that stores nothing; a refusal has it
abbrev pub no_plan : Plan
no_plan = lone_plan Nothing (record { 0 = 0 })

-- the plan of what reading came to
abbrev pub planned_of : Result Plan Refusal → Plan
planned_of (Ok p) = p
planned_of (Err _) = no_plan

-- WRITM's and WRITV's: the D bytes of the area go into the record
abbrev pub body_plan : RecordNo → Plan
body_plan r = lone_plan Body r
