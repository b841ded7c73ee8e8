-- The contract of `call` from what the code came to.
use Rattle.std.specs.Prelude.{ℕ, ◌*◌, ◌≡◌, refl, Some, None, List}
use Rattle.std.proofs.Common.{sym}
use Rattle.terms.specs.declared.Status.{Status}
use Rattle.terms.specs.declared.Status.TheVariants.{Schm}
use Rattle.terms.specs.declared.Operation.{Operation}
use Rattle.terms.specs.Operation.{operation_of}
use Rattle.schema.specs.declared.Schema.{Schema}
use Rattle.schema.specs.Decode.{decoded_schema}
use Rattle.schema.proofs.GuaranteeLaws.{decoded_schema-some, decoded_schema-none, decoded_ok}
use Rattle.records.proofs.AreaLaws.{decoded_fields}
use Rattle.calls.specs.Call.{Call, call_of}
use Rattle.calls.specs.Outcome.{outcome, IsOutcome}
use Rattle.ends.specs.Ends.{Ends}
use Rattle.records.specs.InBase.{Laid}
use Rattle.store.specs.Decides.{Decides}
use Rattle.store.specs.TopLaws.{schema-ends}

-- what the code came to, as an outcome
pub as_outcome : (c : Call) {s : Status} {q : ℕ} {new after : List ℕ} → Ends (outcome c) s q new after
    → IsOutcome c (record { status = s; reference = q; area = new; base = after })
as_outcome c w = record { status = w.status; reference = w.reference; area = w.area; base = w.base }

-- what decoding gave
pub laid_out : (s : List ℕ) {t : Schema} → decoded_schema s ≡ Some t → Laid t (512 * t.blocks)
laid_out s e = record { ok = decoded_ok s e; fields = λ i l. decoded_fields s i e l; size = refl }

module _ (op n : List ℕ) (r : ℕ) (path key area s b : List ℕ) where
  pub broken-schema : {u : Status} {q : ℕ} → decoded_schema s ≡ None → u ≡ Schm → q ≡ r
      → IsOutcome (call_of op n r path key area s b) (record { status = u; reference = q; area = area; base = b })
  broken-schema e v w = rw (v, w) (as_outcome (call_of op n r path key area s b) (schema-ends (call_of op n r path key area s b) (decoded_schema-none s e)))

  pub call-decided : {t : Schema} {o : Operation} {u : Status} {q : ℕ} {new after : List ℕ} → decoded_schema s ≡ Some t → o ≡ operation_of op
      → Decides t o n r path key area b u q new after → IsOutcome (call_of op n r path key area s b) (record { status = u; reference = q; area = new; base = after })
  call-decided e o w =
      let k = decoded_schema-some s e in
      as_outcome (call_of op n r path key area s b)
      (w.told (call_of op n r path key area s b) (record { operation = sym o; name = refl; reference = refl; key = refl; area = refl; base = refl }) refl k.0 (sym k.1))
