-- A record by its bytes: what its state and its fields are, read off the bytes that it holds.
use Rattle.std.specs.Prelude.{ℕ, ◌<◌, ◌≡◌, List, eqb}
use Rattle.std.proofs.Common.{sym, ap, ◌∙◌}
use Rattle.octets.specs.Octets.{byte_at, run, word_at}
use Rattle.schema.specs.declared.Schema.{Schema}
use Rattle.schema.specs.Decode.{entry_of, set_count}
use Rattle.schema.specs.Place.{record_of}
use Rattle.schema.specs.Guarantee.{SchemaOk}
use Rattle.records.specs.Records.{is_live}
use Rattle.records.specs.Address.{Field, HasField, offset_of, size_of, get_run, get_word, address}
use Rattle.records.proofs.WholeLaws.{get_run-record_of, get_word-record_of, state_of-record_of}

module _ {t : Schema} (ok : SchemaOk t) (c : List ℕ) (k r : ℕ) (ys : List ℕ) (l : k < set_count t) (is : record_of c (entry_of t k) r ≡ ys) where
  pub live-is : is_live c (entry_of t k) r ≡ eqb (byte_at ys 0) 1
  live-is = ap (λ (s : ℕ). eqb s 1) (sym (state_of-record_of c k r ok l) ∙ ap (λ xs. byte_at xs 0) is)

  pub run_is : (f : Field) → HasField t k f → get_run t c (address k r f) ≡ run ys (offset_of t (entry_of t k) f) (size_of t (entry_of t k) f)
  run_is f h = sym (get_run-record_of c k r f ok l h) ∙ ap (λ xs. run xs (offset_of t (entry_of t k) f) (size_of t (entry_of t k) f)) is

  pub word_is : (f : Field) → HasField t k f → size_of t (entry_of t k) f ≡ 4 → get_word t c (address k r f) ≡ word_at ys (offset_of t (entry_of t k) f)
  word_is f h s = sym (get_word-record_of c k r f ok l h s) ∙ ap (λ xs. word_at xs (offset_of t (entry_of t k) f)) is
