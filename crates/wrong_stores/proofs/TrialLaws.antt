-- The trials hold, computed: every definition on the way is opened once, and each equation is `refl`. Besides, what the refutations of
-- condition 3 ask of the trials: the schema keeps the rules, FORMT is done, the path is one of the schema, the bottle is there, and the plain
-- list has these points.
use Rattle.std.specs.Prelude.{◌≡◌, refl, ◌≢◌, List, [], ◌∷◌}
use Rattle.std.proofs.Common.{arith, lit<}
use Rattle.terms.specs.declared.Status.TheVariants.{Done}
use Rattle.calls.specs.Opened.{opened}
use Rattle.terms.specs.Terms.{end_ref}
use Rattle.condition3.specs.Plain.{Point, before, step}
use Rattle.condition3.specs.Condition.{Formattable}
use Rattle.condition3.specs.Readings.{schema_in, after_calls, plain, Place, set_no, entry_named, path_no, IsPlace, Reads, rdnxt, Exists, readv, of_key}
use Rattle.cases.specs.Small.{two_sets}
use Rattle.wrong_stores.specs.Wrong.{refuses_all, always_done, stores_nothing, links_first, every_other, forgets_next, format_leaves, inserts_after, reads_forward, sweeps_nothing}
use Rattle.wrong_stores.specs.Twin.{twin, twin_schema, bottle, point, path1, path2, twin_link}
use Rattle.wrong_stores.specs.Trials.{Trial, answers, lent_to, format_by, formatted_by, reader_after, Differs, refusing, doing, leaving_all, linking, removing, inserting, turning, sweeping, formatting}

-- FORMT is done
abbrev pub Formats : Trial → Type 0
Formats x = (format_by x.store x).status ≡ Done

-- the plain list of the bottle's points on a path, after the trial's calls
abbrev plain_on : Trial → Place → List Point
plain_on x w = plain x.store twin_schema (formatted_by x.store x) x.calls (λ i j key. []) (set_no (schema_in twin_schema) w) (path_no (schema_in twin_schema) w) bottle

-- what a refutation by reading asks: the plain list is xs
pub record Readable (x : Trial) (w : Place) (xs : List Point) : Type 0 where
  pub formats : Formats x
  pub place : IsPlace (schema_in twin_schema) w
  pub exists : Exists (reader_after x.store x) w bottle
  pub listed : plain_on x w ≡ xs

-- of the store that links the first path only: the second path reads END. at once, and the sweep finds a point with that key on it
pub record SweptAlone : Type 0 where
  pub read : Reads (readv (reader_after links_first linking) path2 bottle) (twin_link path2) []
  pub swept : Reads (rdnxt (reader_after links_first linking) path2) 0 (point 1 ∷ [])
  pub keyed : of_key (entry_named (schema_in twin_schema) path2) (path_no (schema_in twin_schema) path2) bottle (point 1 ∷ []) ≡ point 1 ∷ []

-- what is computed: of the schema, and store by store
pub record Computed : Type 0 where
  pub begins : Formattable twin_schema (lent_to refusing)
  pub refuses : Differs refusing
  pub does : Differs doing
  pub leaves : Differs leaving_all × Formats leaving_all
  pub links : Differs linking × Readable linking path2 (point 1 ∷ []) × SweptAlone
  pub removes : Differs removing × Formats removing
  pub inserts : Differs inserting × Readable inserting path1 (point 2 ∷ point 1 ∷ [])
  pub turns : Differs turning × Readable turning path1 (point 1 ∷ point 2 ∷ [])
  pub sweeps : Differs sweeping × Readable sweeping path1 (point 1 ∷ [])
  pub formats : Differs formatting × Formats formatting

one_not_end : 1 ≢ end_ref
one_not_end e = omega (arith, e)

pub computed : Computed
unfolding opened before step after_calls plain of_key two_sets twin refuses_all always_done stores_nothing links_first every_other forgets_next format_leaves inserts_after reads_forward sweeps_nothing answers
computed =
    record {
      begins = record { rules = refl; sized = refl };
      refuses = (refl, refl, refl);
      does = (refl, refl, refl);
      leaves = ((refl, refl, refl), refl);
      links = (
        (refl, refl, refl),
        record {
          formats = refl;
          place = record { set = lit< tt; path = lit< tt; masters = refl; point-area = refl; master-area = refl };
          exists = refl;
          listed = refl;
        },
        record { read = (refl, refl); swept = (refl, refl, refl, one_not_end, (refl, refl)); keyed = refl },
      );
      removes = ((refl, refl, refl), refl);
      inserts = (
        (refl, refl, refl),
        record {
          formats = refl;
          place = record { set = lit< tt; path = lit< tt; masters = refl; point-area = refl; master-area = refl };
          exists = refl;
          listed = refl;
        },
      );
      turns = (
        (refl, refl, refl),
        record {
          formats = refl;
          place = record { set = lit< tt; path = lit< tt; masters = refl; point-area = refl; master-area = refl };
          exists = refl;
          listed = refl;
        },
      );
      sweeps = (
        (refl, refl, refl),
        record {
          formats = refl;
          place = record { set = lit< tt; path = lit< tt; masters = refl; point-area = refl; master-area = refl };
          exists = refl;
          listed = refl;
        },
      );
      formats = ((refl, refl, refl), refl);
    }
