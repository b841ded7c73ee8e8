use Rattle.std.proofs.Common.{[], ◌++◌, ◌≡◌, ℕ, List, refl, arith, rules, length-append, take, subst, ap, ◌∙◌, append-nil, Option}
use Rattle.std.specs.Io.KnownBytes.{Consumes}
use Rattle.std.proofs.lemmas.Result.{err_from_is_err_and}
use Rattle.std.proofs.KnownBytes.{Appends-nil, Appends-trans, Consumes-nil, Consumes-trans}
use Rattle.console.specs.Session.{begun, bytes_taken, StandsAt, Leads}
use Rattle.console.specs.SessionLaws.{nothing-kept, taken_append}
use Rattle.yarugota.specs.Printed.{bytes_printed}
use Rattle.yarugota.proofs.Written.{printed_append}
use Rattle.yarugota.proofs.read_all.Goals as goal

-- the bytes of one read, behind those before
read-more :
    (schema base before bytes : List ℕ) {number len next more : ℕ} {line kept was after : List ℕ}
    → StandsAt (bytes_taken schema (begun base) before) number len line was
    → Leads (λ s. bytes_taken schema s bytes) number len line was next more kept after
    → StandsAt (bytes_taken schema (begun base) (before ++ bytes)) next more kept after
read-more schema base before bytes at leads = rw (taken_append schema (begun base) before bytes) (leads (bytes_taken schema (begun base) before) at)

-- a read that brings no byte leaves what is left
none-more : (a b c : Option (List ℕ)) (bytes buffer : List ℕ) (n : ℕ) → Consumes a b bytes → Consumes b c (take n buffer) → n ≡ 0 → Consumes a c bytes
none-more a b c bytes buffer n p q e = subst (Consumes a c) (ap (λ m. bytes ++ take m buffer) e ∙ append-nil bytes) (Consumes-trans a b c bytes _ p q)

pub loop-turn-init : goal.loop-turn-init
unfolding bytes_taken bytes_printed
loop-turn-init g c = record {
  kept = omega arith;
  line = c.requires;
  stands = ([], record { number = refl; line = nothing-kept _; base = refl }, Appends-nil _, Consumes-nil _, omega arith);
}

pub returns-in_err-progress-clause-stood : goal.returns-in_err-progress-clause-stood
returns-in_err-progress-clause-stood g c =
    let p = err_from_is_err_and c.from_residual-in_err-progress.result c.from_residual-in_err-progress.ensures.1 in
    let i = c.loop-turn.invariant.stands in
    let w = c.in_err-progress.ensures.led in
    rw p.1 (i.0 ++ _, w.3, w.4, read-more c.args.schema.now c.args.base.now i.0 _ i.1 w.5)

pub returns-then-n-eq0-clause-stands : goal.returns-then-n-eq0-clause-stands
returns-then-n-eq0-clause-stands g c =
    let i = c.loop-turn.invariant.stands in
    let r = c.in_ok-n.ensures.bytes in
    (i.0, i.1, i.2, none-more _ _ _ i.0 c.read.new.buf c.in_ok-n.n i.3 r.0 c.if-n-eq0.true, λ _. r.1 c.if-n-eq0.true (search rules))

pub loop-turn-preserved : goal.loop-turn-preserved
loop-turn-preserved g c =
    let i = c.loop-turn.invariant.stands in
    let w = c.in_ok-progress.ensures in
    record {
      kept = w.len_bound;
      line = search rules;
      stands = (
        i.0 ++ take c.in_ok-n.n c.read.new.buf,
        read-more c.args.schema.now c.args.base.now i.0 _ i.1 w.leads,
        rw (printed_append c.args.schema.now (begun c.args.base.now) i.0 (take c.in_ok-n.n c.read.new.buf)) (Appends-trans _ _ _ _ _ i.2 (w.written _ i.1)),
        Consumes-trans _ _ _ _ _ i.3 c.in_ok-n.ensures.bytes.0,
        omega (arith, i.4, length-append i.0 (take c.in_ok-n.n c.read.new.buf), c.in_ok-n.ensures.bound, c.if-n-eq0.false),
      );
    }

pub returns-clause-stands : goal.returns-clause-stands
returns-clause-stands g c =
    let i = c.loop-turn.invariant.stands in
    (i.0, i.1, i.2, i.3, λ h. absurd (omega (arith, i.4, h)))
