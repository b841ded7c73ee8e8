-- The tests 7 to 11 of document 01, "Status numbers", that look at a call's parameters alone: area, control key and reference, once set
-- and path are known. Which of them a call has is its rungs; the order is the ladder's.
use Rattle.std.specs.Prelude.{ℕ, cond, not, ◌&&◌, ◌||◌, Bool, List, eqb, leb, length}
use Rattle.octets.specs.Octets.{all_blank, same_bytes}
use Rattle.terms.specs.Terms.{end_ref}
use Rattle.terms.specs.declared.Status.{Status}
use Rattle.terms.specs.declared.Status.TheVariants.{Done, Area, Klen, Bctl, Keys, Ivrp}
use Rattle.terms.specs.declared.Operation.{Operation}
use Rattle.schema.specs.declared.Entry.{Entry}
use Rattle.schema.specs.Place.{in_set}
use Rattle.schema.specs.Decode.{path_of}
use Rattle.records.specs.Records.{key_on}
use Rattle.records.specs.Areas.{area_length, area_key_on}
use Rattle.calls.specs.Ladder.{blank_area_key, other_area_key, rule_of}
use Rattle.calls.specs.Ladder.Rung.{AreaLength, KeyLength, AreaKeysNotBlank, AreaKeySame, ReadForm, SweepForm, LastForm, NumberForm}
use Rattle.forms.specs.declared.Rungs.{Rungs}

-- the tests that an operation has
abbrev pub rungs_of : Operation → Rungs
rungs_of o =
    record {
      area = (rule_of AreaLength).asked o;
      key = (rule_of KeyLength).asked o;
      blank = (rule_of AreaKeysNotBlank).asked o;
      same = (rule_of AreaKeySame).asked o;
      link = (rule_of ReadForm).asked o;
      sweep = (rule_of SweepForm).asked o;
      last = (rule_of LastForm).asked o;
      number = (rule_of NumberForm).asked o;
    }

-- 11, "Forms for 11", by the tests q that the call has
abbrev pub reference_status : Rungs → Entry → ℕ → ℕ → Status
reference_status q e link ref =
    cond (q.link && not (eqb ref link || in_set e ref)) Ivrp
    (cond (q.sweep && not (leb ref e.records)) Ivrp
    (cond (q.last && eqb ref end_ref) Ivrp
    (cond (q.number && not (in_set e ref)) Ivrp Done)))

-- the first of the tests that refuses: `e` is the named set, `on` the named path's number and `link` its LKxx, `k` the control key's length
unfoldable pub form_status : Operation → Entry → ℕ → ℕ → ℕ → ℕ → List ℕ → List ℕ → Status
form_status o e on link k ref key area =
    cond ((rungs_of o).area && not (eqb (length area) (area_length e))) Area
    (cond ((rungs_of o).key && not (eqb (length key) k)) Klen
    (cond ((rungs_of o).key && all_blank key) Bctl
    (cond ((rungs_of o).blank && blank_area_key e area) Bctl
    (cond ((rungs_of o).same && other_area_key e on key area) Keys
    (reference_status (rungs_of o) e link ref)))))

-- the answers of the tests behind the two lengths, the first that refuses deciding
abbrev pub decided : Bool → Bool → Bool → Bool → Status
decided control blank other reference = cond control Bctl (cond blank Bctl (cond other Keys (cond reference Ivrp Done)))

-- the four tests of the reference in one
abbrev pub wrong_reference : Rungs → Entry → ℕ → ℕ → Bool
wrong_reference q e link ref =
    q.link && not (eqb ref link || in_set e ref) || (q.sweep && not (leb ref e.records) || (q.last && eqb ref end_ref || q.number && not (in_set e ref)))

-- the area's key on one path is the stored one
abbrev pub same_stored : List ℕ → Entry → ℕ → List ℕ → ℕ → Bool
same_stored b e r area k = same_bytes (area_key_on e area k) (key_on b e r (path_of e k))
