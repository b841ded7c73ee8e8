-- Trials: a wrong store and the right one make the same calls from FORMT on, and are asked the same questions. Each trial says what the wrong
-- store answers and what the right one does; TrialLaws computes that they do.
use Rattle.std.specs.Prelude.{ℕ, ◌≡◌, false, List, [], ◌∷◌, ◌++◌, replicate}
use Rattle.octets.specs.Octets.{same_bytes, zeros}
use Rattle.octets.specs.Text.{text}
use Rattle.terms.specs.Terms.{end_ref, link_ref}
use Rattle.terms.specs.Status.{status_number}
use Rattle.calls.specs.Call.{Call, Outcome}
use Rattle.calls.specs.Outcome.{outcome}
use Rattle.condition3.specs.Readings.{Request, Lent, lent_after, under, after_calls, Reader, reader_of}
use Rattle.condition3.specs.Condition.{sinon, formt}
use Rattle.wrong_stores.specs.Wrong.{refuses_all, always_done, stores_nothing, links_first, forgets_next, format_leaves, inserts_after, reads_forward, sweeps_nothing}
use Rattle.wrong_stores.specs.Twin.{twin_schema, add_bottle, add_point, remove_point, path1, path2, read_from, read_back, twin_link, sweep_from}

-- FORMT is given `base`; the calls follow, then the questions
pub record Trial : Type 0 where
  pub store : Call → Outcome
  pub base : List ℕ
  pub calls : List Request
  pub questions : List Request
  pub wrong : List ℕ
  pub right : List ℕ

-- the status and the reference that each question is answered with
unfoldable pub answers : (Call → Outcome) → Lent → List Request → List ℕ
answers store d [] = []
answers store d (q ∷ qs) = status_number (store (under twin_schema d q)).status ∷ (store (under twin_schema d q)).reference ∷ answers store d qs

-- what FORMT is lent, what it answers and leaves, what the calls leave, who reads then, and the answers
abbrev pub lent_to : Trial → Lent
lent_to x = record { base = x.base }

abbrev pub format_by : (Call → Outcome) → Trial → Outcome
format_by store x = store (under twin_schema (lent_to x) formt)

abbrev pub formatted_by : (Call → Outcome) → Trial → Lent
formatted_by store x = lent_after (format_by store x)

abbrev pub left_by : (Call → Outcome) → Trial → Lent
left_by store x = after_calls store twin_schema (formatted_by store x) x.calls

abbrev pub reader_after : (Call → Outcome) → Trial → Reader
reader_after store x = reader_of store twin_schema (left_by store x)

abbrev pub told_by : (Call → Outcome) → Trial → List ℕ
told_by store x = answers store (left_by store x) x.questions

-- the two stores answer so, and not the same
abbrev pub Differs : Trial → Type 0
Differs x = (told_by x.store x ≡ x.wrong) × (told_by outcome x ≡ x.right) × (same_bytes x.wrong x.right ≡ false)

-- ---- trials of two kinds

-- sign-on after the calls: it is to accept, and refuses
abbrev pub signing : (Call → Outcome) → List ℕ → List Request → Trial
signing store base calls = record { store = store; base = base; calls = calls; questions = sinon ∷ []; wrong = 16 ∷ 0 ∷ []; right = 0 ∷ 0 ∷ [] }

-- reads after the calls
abbrev reading : (Call → Outcome) → List Request → List Request → List ℕ → List ℕ → Trial
reading store calls questions wrong right =
    record { store = store; base = zeros 1024; calls = calls; questions = questions; wrong = wrong; right = right }

-- ---- the trials

-- sign-on is FUNC
abbrev pub refusing : Trial
refusing = record { store = refuses_all; base = zeros 1024; calls = []; questions = sinon ∷ []; wrong = 3 ∷ 0 ∷ []; right = 0 ∷ 0 ∷ [] }

-- a bottle with no points reads END.; the wrong store gives LKQT back
abbrev pub doing : Trial
doing = reading always_done (add_bottle ∷ []) (read_from path2 (twin_link path2) ∷ []) (0 ∷ link_ref 81 84 ∷ []) (0 ∷ end_ref ∷ [])

-- FORMT is given zeros, where the second block's check is false
abbrev pub leaving_all : Trial
leaving_all = signing stores_nothing (zeros 1024) []

-- a bottle with one point
abbrev one_point : List Request
one_point = add_bottle ∷ add_point (text "ADDVC") 0 ∷ []

-- the second path reads 1 and END., forward and backward; in the wrong store END. at once
abbrev pub linking : Trial
linking =
    reading links_first one_point (read_from path2 (twin_link path2) ∷ read_from path2 1 ∷ read_back path2 (twin_link path2) ∷ read_back path2 1 ∷ [])
    (0 ∷ end_ref ∷ 0 ∷ end_ref ∷ 0 ∷ end_ref ∷ 0 ∷ end_ref ∷ []) (0 ∷ 1 ∷ 0 ∷ end_ref ∷ 0 ∷ 1 ∷ 0 ∷ end_ref ∷ [])

-- the point is removed
abbrev pub removing : Trial
removing = signing forgets_next (zeros 1024) (one_point ++ (remove_point 1 ∷ []))

-- a second point before it: the right store reads 2, 1 and END., the wrong one 1, 2 and END.
abbrev pub inserting : Trial
inserting =
    reading inserts_after (one_point ++ (add_point (text "ADDVB") 1 ∷ [])) (read_from path1 (twin_link path1) ∷ read_from path1 1 ∷ read_from path1 2 ∷ [])
    (0 ∷ 1 ∷ 0 ∷ 2 ∷ 0 ∷ end_ref ∷ []) (0 ∷ 2 ∷ 0 ∷ end_ref ∷ 0 ∷ 1 ∷ [])

-- a second point after it: backward the right store reads 2, 1 and END., the wrong one 1, 2 and END.
abbrev pub turning : Trial
turning =
    reading reads_forward (one_point ++ (add_point (text "ADDVC") 0 ∷ [])) (read_back path1 (twin_link path1) ∷ read_back path1 1 ∷ read_back path1 2 ∷ [])
    (0 ∷ 1 ∷ 0 ∷ 2 ∷ 0 ∷ end_ref ∷ []) (0 ∷ 2 ∷ 0 ∷ end_ref ∷ 0 ∷ 1 ∷ [])

-- the sweep finds the point and comes to END.; in the wrong store END. at once
abbrev pub sweeping : Trial
sweeping = reading sweeps_nothing one_point (sweep_from path1 0 ∷ sweep_from path1 1 ∷ []) (0 ∷ end_ref ∷ 0 ∷ end_ref ∷ []) (0 ∷ 1 ∷ 0 ∷ end_ref ∷ [])

-- FORMT is given ones
abbrev pub formatting : Trial
formatting = signing format_leaves (replicate 1024 1) []
