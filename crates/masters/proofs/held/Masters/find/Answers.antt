-- `masters::walk::Masters::find` meets its contract: with the home not held by one of its own the key is missing, else the walk from there
-- decides. Assumes nothing.
use borrow.Author.Rules.{rules}
use Rattle.std.proofs.Common.{◌≡◌, ◌∙◌, true, false}
use Rattle.terms.specs.Terms.{key_of}
use Rattle.masters.specs.Find.{home_in, held_by_own}
use Rattle.masters.proofs.WalkLaws.{find-not-held, find-held}
use Rattle.masters.proofs.held.Masters.find.Goals as goal

pub returns-then-not-is_at_home-clause-found_value : goal.returns-then-not-is_at_home-clause-found_value
returns-then-not-is_at_home-clause-found_value c =
    let s = c.args.self.now in
    let free : held_by_own s.base.now s.entry.now (home_in s.entry.now (key_of c.args.k)) ≡ false = search rules in
    find-not-held s.base.now s.entry.now (key_of c.args.k) free

pub returns : goal.returns
returns c =
    let s = c.args.self.now in
    let held : held_by_own s.base.now s.entry.now (home_in s.entry.now (key_of c.args.k)) ≡ true = search rules in
    let found = (rw c.home-h.ensures at c.seek_from.ensures.found_value) ∙ find-held s.base.now s.entry.now (key_of c.args.k) held in
    record { found_value = found; last_value = rw (held, ← found) (rw c.home-h.ensures at c.seek_from.ensures.last_value) }
