-- What FORMT leaves stands for empty lists: every block is sealed and every byte that is no check is 0, so no record is live, and nothing is
-- said of the chains of masters that are not there.
use Rattle.std.specs.Prelude.{ℕ, ◌+◌, ◌*◌, ◌-◌, ◌<◌, ◌≡◌, refl, true, false, []}
use Rattle.std.proofs.Common.{arith, mul-le-mul_right}
use Rattle.std.proofs.Math.Nat.{min-le_left}
use Rattle.octets.specs.Octets.{Apart, run, all_zero}
use Rattle.octets.specs.TestLaws.{never_both}
use Rattle.blocks.specs.declared.Check.{Check}
use Rattle.blocks.specs.Blocks.{check_at, check_by}
use Rattle.schema.specs.declared.Schema.{Schema}
use Rattle.schema.specs.Decode.{entry_of, path_of, set_count}
use Rattle.schema.specs.Place.{place_of, leftover_at, leftover_size}
use Rattle.schema.proofs.PlaceLaws.{place_in_block}
use Rattle.schema.specs.Guarantee.{SchemaOk, IsPathOf}
use Rattle.schema.proofs.GuaranteeLaws.{lies}
use Rattle.records.specs.Records.{is_live}
use Rattle.records.proofs.FieldPlaces.{record_least}
use Rattle.plans.specs.Plan.{formatted}
use Rattle.plans.proofs.PlanLaws.{length-formatted, formatted-sealed, formatted_zero}
use Rattle.sound.specs.Sound.{record_clean, leftover_clean, set_clean, home_list}
use Rattle.sound.specs.Sets.{Live, MasterSet}
use Rattle.sound.proofs.HomeLaws.{HomeChain, home_sound-holds}
use Rattle.kept_state.specs.Rows.{World, PathRows, Represents}
use Rattle.kept_state.specs.SettleLaws.{zero_run, clean-holds}

-- a run off the checks is zero
fresh-run : (c : Check) (n a m : ℕ) → ((k : ℕ) → Apart (check_at k) 4 a m) → all_zero (run (formatted c n) a m) ≡ true
fresh-run c n a m h = zero_run (formatted c n) a m (λ i l. formatted_zero c n (a + i) (λ k _ p q. h k (omega arith) (omega arith)))

module _ {t : Schema} (ok : SchemaOk t) where
  -- records and the room behind them are off the checks
  in_block : (n r : ℕ) → n < set_count t → (k : ℕ) → Apart (check_at k) 4 (place_of (entry_of t n) r) (entry_of t n).size
  in_block n r l k p q = omega (arith, place_in_block r (lies n ok l refl))

  leftover_in_block : (n k : ℕ) → n < set_count t → (j : ℕ) → Apart (check_at j) 4 (leftover_at (entry_of t n) k) (leftover_size (entry_of t n) k)
  leftover_in_block n k l j p q =
      let e = entry_of t n in
      omega (arith, (ok.set n l).whole, mul-le-mul_right e.size (min-le_left e.per (e.records - k * e.per)))

  -- no record is live: a state that is 0 is not 1
  none-live : (n r : ℕ) → n < set_count t → is_live (formatted (check_by t.edition) t.blocks) (entry_of t n) r ≡ false
  none-live n r l =
      let four = record_least t ok n l in
      rw (formatted_zero (check_by t.edition) t.blocks (place_of (entry_of t n) r) (λ k m p q. in_block n r l k (omega arith) (omega arith))) refl

  never_live : (n r : ℕ) → n < set_count t → Live (formatted (check_by t.edition) t.blocks) (entry_of t n) r → ⊥
  never_live n r l v = never_both _ v.1 (none-live n r l)

  -- clean sets, sound masters, empty rows
  fresh-clean : (n : ℕ) → n < set_count t → set_clean (formatted (check_by t.edition) t.blocks) (entry_of t n) ≡ true
  unfolding record_clean leftover_clean
  fresh-clean n l =
      let e = entry_of t n in
      clean-holds (formatted (check_by t.edition) t.blocks) e
      (λ r i. rw (none-live n r l) (fresh-run (check_by t.edition) t.blocks (place_of e r) e.size (in_block n r l)))
      (λ k m. fresh-run (check_by t.edition) t.blocks (leftover_at e k) (leftover_size e k) (leftover_in_block n k l))

  fresh-home : (n h : ℕ) → n < set_count t → HomeChain (formatted (check_by t.edition) t.blocks) (entry_of t n) h
  unfolding home_list
  fresh-home n h l = record { linked = rw (none-live n h l) refl; only = rw (none-live n h l) tt; full = λ r o. absurd (never_live n r l o.0) }

  fresh-masters : (n : ℕ) → n < set_count t → MasterSet (formatted (check_by t.edition) t.blocks) (entry_of t n)
  fresh-masters n l =
      record {
        no_blank = λ r v. absurd (never_live n r l v);
        one = λ q r v w k. absurd (never_live n q l v);
        homes = λ h i. home_sound-holds (formatted (check_by t.edition) t.blocks) (entry_of t n) h (fresh-home n h l);
      }

  fresh-path : (i j : ℕ) → IsPathOf t i j → PathRows t (formatted (check_by t.edition) t.blocks) i j (λ key. [])
  fresh-path i j h =
      record {
        no_blank = λ r v. absurd (never_live i r h.1 v);
        owned = λ r v. absurd (never_live i r h.1 v);
        chain = λ m v. absurd (never_live (path_of (entry_of t i) j).master.0 m (omega (arith, (ok.path i j h).master)) v);
        mine = λ key. tt;
        full = λ r v. absurd (never_live i r h.1 v);
      }

pub format_represents : (t : Schema) → World t → Represents t (formatted (check_by t.edition) t.blocks) (λ i j key. [])
format_represents t w =
    record {
      sized = omega (arith, length-formatted (check_by t.edition) t.blocks);
      sealed = formatted-sealed (check_by t.edition) t.blocks;
      clean = fresh-clean w.ok;
      masters = λ n l. fresh-masters w.ok n (omega arith);
      paths = fresh-path w.ok;
    }
