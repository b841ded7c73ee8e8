-- `point_plans::damage::OwnedPoint::any_damaged` meets its contract: damage is met on some path, or on none.
use Rattle.std.proofs.Common.{◌≡◌, ℕ, ◌<◌, Bool, true, false, not, List, length, get_or, MatchBool, refl, sym, ap, ◌∙◌, zero-add, arith, rules, tests}
use Rattle.std.specs.List.{HoldsAt, AllWithin, range_with_len}
use Rattle.std.proofs.lemmas.Iterator.{cases_from_any, YieldsList-from_range}
use Rattle.std.proofs.lemmas.List.FromFn.{length-range_with_len, get_or-range_with_len}
use Rattle.octets.specs.BelowLaws.{all_below-all}
use Rattle.schema.specs.declared.Entry.{Entry}
use Rattle.schema.specs.declared.Part.{Part}
use Rattle.schema.specs.Decode.{path_of}
use Rattle.records.specs.declared.Link.{Link}
use Rattle.records.specs.Areas.{no_link}
use Rattle.point_plans.specs.Paths.{master_at, key_at, damaged_at, clean_at, damaged}
use Rattle.point_plans.specs.DamageLaws.{damaged-here, damaged-nowhere}
use Rattle.point_plans.proofs.held.OwnedPoint.any_damaged.Goals as goal

module _ (b : List ℕ) (e : Entry) (src at : List ℕ) (owners : List Part) (links : List Link) where
  abbrev damage_on : ℕ → Bool
  damage_on k = damaged_at b e (path_of e k) (key_at src e at k) (master_at b owners k) (get_or links k no_link)

  abbrev paths : List ℕ
  paths = range_with_len 0 e.count

  place : (k : ℕ) → k < e.count → get_or paths k 0 ≡ k
  place k l = get_or-range_with_len 0 e.count k 0 l ∙ zero-add k

  some_or_none : (r : Bool) → MatchBool r ((k : ℕ) × (k < length paths) × HoldsAt (λ k. true ≡ damage_on k) paths k) (AllWithin (λ k. false ≡ damage_on k) paths 0 (length paths))
      → r ≡ damaged b e src at owners links
  some_or_none true h =
      let l : h.0 < e.count = omega (arith, h.1, length-range_with_len 0 e.count) in
      damaged-here b e src at owners links h.0 l (ap not (sym (rw (place h.0 l) at (h.2 0))))
  some_or_none false h =
      damaged-nowhere b e src at owners links
      (all_below-all (clean_at b e src at owners links) e.count
      (λ k l. ap not (sym (rw (place k l) at (h k 0 (omega arith) (omega (arith, l, length-range_with_len 0 e.count)))))))

pub returns : goal.returns
returns c =
    let a = c.args in
    some_or_none a.self.now.base.now a.self.now.entry.now a.self.now.src.now a.self.now.at a.self.now.owners a.links c.any.result
    (cases_from_any _ _ _ (λ k. true ≡ damage_on a.self.now.base.now a.self.now.entry.now a.self.now.src.now a.self.now.at a.self.now.owners a.links k) (λ k. false ≡ damage_on a.self.now.base.now a.self.now.entry.now a.self.now.src.now a.self.now.at a.self.now.owners a.links k) c.any.ensures.ran
    (YieldsList-from_range 0 a.self.now.entry.now.count a.self.now.entry.now.count refl (omega arith)) (λ x q k. search (rules, tests)) (λ x q k. search (rules, tests)))
