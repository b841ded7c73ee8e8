-- What the code keeps of a call, path by path, in arrays: where each path's key stands in a buffer (`at`), where each path's master lies in
-- the data base (`owners`), the record's neighbours (`links`). These are the definitions of Points, said of the arrays; SideLaws says that
-- they are the same where the arrays hold what they should.
use Rattle.std.specs.Prelude.{ℕ, ◌+◌, Bool, cond, not, ◌||◌, List, [], ◌∷◌, eqb, get_or, Result, Ok, Err, Option, Some, None}
use Rattle.std.specs.Bool.{xor}
use Rattle.octets.specs.Octets.{run, word_at}
use Rattle.octets.specs.Below.{all_below, upto, concat_below}
use Rattle.terms.specs.declared.Refusal.{Refusal}
use Rattle.terms.specs.declared.Refusal.TheVariants.{Damg}
use Rattle.terms.specs.declared.Status.{Status}
use Rattle.terms.specs.declared.Status.TheVariants.{Done}
use Rattle.terms.specs.Status.{status_by}
use Rattle.schema.specs.declared.Path.{Path}
use Rattle.schema.specs.declared.Entry.{Entry}
use Rattle.schema.specs.declared.Part.{Part}
use Rattle.schema.specs.Decode.{path_of}
use Rattle.schema.specs.Place.{part_of, bytes_of}
use Rattle.records.specs.declared.Link.{Link}
use Rattle.records.specs.Records.{prior_on, next_on}
use Rattle.records.specs.Areas.{no_link}
use Rattle.plans.specs.declared.Word.{Word}
use Rattle.plans.specs.Stores.{word_in}
use Rattle.masters.specs.declared.Found.{Found}
use Rattle.masters.specs.declared.Found.TheVariants.{At, Missing, Damaged}
use Rattle.masters.specs.Find.{find}
use Rattle.points.specs.declared.Spot.{Spot}
use Rattle.points.specs.Chains.{bad_neighbour}
use Rattle.points.specs.Points.{spot_on, neighbours_at, new_place}

-- ---- the masters

-- no part: what stands for a master that was not found, and past an array's end
abbrev pub no_part : Part
no_part = record { at = 0; size = 0 }

-- where the record of the masters x that was found lies
abbrev pub found_part : Entry → Found → Part
found_part x (At m) = part_of x m.0
found_part x Missing = no_part
found_part x Damaged = no_part

-- what is answered where there is no master: a refusal, or nothing, and then the path has no part
abbrev pub absent_status : Option Refusal → Status
absent_status None = Done
absent_status (Some why) = status_by why

-- the same as a Result: "16, then 12"
abbrev pub owner_of : Option Refusal → Entry → Found → Result Part Refusal
owner_of absent x (At m) = Ok (part_of x m.0)
owner_of None x Missing = Ok no_part
owner_of (Some why) x Missing = Err why
owner_of absent x Damaged = Err Damg

-- where path k's master lies; `x` are the masters of each path
abbrev pub owner_on : List ℕ → (ℕ → Entry) → (ℕ → List ℕ) → ℕ → Part
owner_on b x key k = found_part (x k) (find b (x k) (key k))

-- the bytes of path k's master
abbrev pub master_at : List ℕ → List Part → ℕ → List ℕ
master_at b owners k = bytes_of b (get_or owners k no_part)

-- ---- keys and neighbours

abbrev pub key_at : List ℕ → Entry → List ℕ → ℕ → List ℕ
key_at src e at k = run src (get_or at k 0) (path_of e k).len

-- the neighbours of the record r on path k, and those of a new record
abbrev pub link_on : List ℕ → Entry → ℕ → ℕ → Link
link_on b e r k = record { prior = prior_on b e r (path_of e k); next = next_on b e r (path_of e k) }

abbrev pub link_at : List ℕ → Entry → List Part → Spot → ℕ → ℕ → Link
link_at b e owners spot on k = neighbours_at b e (path_of e k) (word_at (master_at b owners k) ((path_of e k).link + 4)) (spot_on spot on k)

-- on every path
abbrev pub own_links : List ℕ → Entry → ℕ → List Link
own_links b e r = upto (link_on b e r) e.count

abbrev pub new_links : List ℕ → Entry → List Part → Spot → ℕ → List Link
new_links b e owners spot on = upto (link_at b e owners spot on) e.count

-- the new record's number
abbrev pub place_at : List ℕ → Entry → List Part → Spot → ℕ → ℕ
place_at b e owners spot on = new_place b e (link_at b e owners spot on on).prior

-- a number, for both sides of every path
abbrev pub both : ℕ → Link
both r = record { prior = r; next = r }

abbrev pub both_on : Entry → ℕ → List Link
both_on e r = upto (λ k. both r) e.count

-- ---- the final 16

-- "first and last are one 0 and one not": they stand at o of a master's bytes
abbrev pub uneven_at : List ℕ → ℕ → Bool
uneven_at master o = xor (eqb (word_at master o) 0) (eqb (word_at master (o + 4)) 0)

abbrev pub damaged_at : List ℕ → Entry → Path → List ℕ → List ℕ → Link → Bool
damaged_at b e p key master l = uneven_at master p.link || bad_neighbour b e p key l.prior || bad_neighbour b e p key l.next

-- no damage met on path k
abbrev pub clean_at : List ℕ → Entry → List ℕ → List ℕ → List Part → List Link → ℕ → Bool
clean_at b e src at owners links k = not (damaged_at b e (path_of e k) (key_at src e at k) (master_at b owners k) (get_or links k no_link))

unfoldable pub damaged : List ℕ → Entry → List ℕ → List ℕ → List Part → List Link → Bool
damaged b e src at owners links = not (all_below (clean_at b e src at owners links) e.count)

-- ---- "path by path prior's side, next's side"

-- prior's side and next's side become v: next of the record before, or first of the master, which is the part m; prior of the record
-- after, or last
abbrev pub prior_word : Entry → Path → Part → ℕ → ℕ → Word
prior_word e p m prior v = cond (eqb prior 0) (word_in m p.link v) (word_in (part_of e prior) (p.at + p.len + 4) v)

abbrev pub next_word : Entry → Path → Part → ℕ → ℕ → Word
next_word e p m next v = cond (eqb next 0) (word_in m (p.link + 4) v) (word_in (part_of e next) (p.at + p.len) v)

-- one path's two words: what points forward to the record becomes v's next, what points back to it v's prior
abbrev pub side_words : Entry → Path → Part → Link → Link → List Word
side_words e p m l v = prior_word e p m l.prior v.next ∷ next_word e p m l.next v.prior ∷ []

abbrev pub words_on : Entry → List Part → List Link → List Link → ℕ → List Word
words_on e owners links values k = side_words e (path_of e k) (get_or owners k no_part) (get_or links k no_link) (get_or values k no_link)

-- those of the first n paths
abbrev pub words_below : Entry → List Part → List Link → List Link → ℕ → List Word
words_below e owners links values n = concat_below (words_on e owners links values) n
