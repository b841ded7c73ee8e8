use Rattle.std.proofs.Common.{◌≡◌, ◌≤◌, ◌+◌, ◌*◌, ◌-◌, get_or, drop, None, Some, sym, ◌∙◌, arith, eq-eqb}
use Rattle.std.proofs.lemmas.Bool.{false≢true}
use Rattle.console.specs.ReferenceLaws.{spelled, spelled-turn, spelled-fails, spelled_end, spelled_high, spelled_whole}
use Rattle.console.proofs.references.decimal.Goals as goal

pub returns-then-not-is_ascii_digit : goal.returns-then-not-is_ascii_digit
returns-then-not-is_ascii_digit c =
    let f = c.args.f.now in
    spelled_whole f None (λ z. false≢true (sym c.if-is_empty.false ∙ c.is_empty.ensures ∙ eq-eqb _ _ z))
    (sym c.loop-x.invariant.spells ∙ spelled-fails c.loop-x.n f c.loop-x.x-index c.loop-x-test.true (sym c.is_ascii_digit.ensures.value ∙ c.if-not-is_ascii_digit.true))

pub returns-in_err-checked_mul : goal.returns-in_err-checked_mul
returns-in_err-checked_mul c =
    let f = c.args.f.now in
    let x = get_or f c.loop-x.x-index 0 in
    let turn : spelled c.loop-x.n (drop c.loop-x.x-index f) ≡ spelled (c.loop-x.n * 10 + (x - 48)) (drop (c.loop-x.x-index + 1) f) =
    spelled-turn c.loop-x.n f c.loop-x.x-index c.loop-x-test.true (sym c.is_ascii_digit.ensures.value ∙ c.if-not-is_ascii_digit.false) in
    let high : 4294967296 ≤ c.loop-x.n * 10 + (x - 48) = omega (arith, c.in_err-checked_mul.ensures) in
    rw c.from_residual.ensures (spelled_whole f None (λ z. false≢true (sym c.if-is_empty.false ∙ c.is_empty.ensures ∙ eq-eqb _ _ z)) (sym c.loop-x.invariant.spells ∙ turn ∙ spelled_high (c.loop-x.n * 10 + (x - 48)) _ high))

pub returns-in_err-n : goal.returns-in_err-n
returns-in_err-n c =
    let f = c.args.f.now in
    let x = get_or f c.loop-x.x-index 0 in
    let turn : spelled c.loop-x.n (drop c.loop-x.x-index f) ≡ spelled (c.loop-x.n * 10 + (x - 48)) (drop (c.loop-x.x-index + 1) f) =
    spelled-turn c.loop-x.n f c.loop-x.x-index c.loop-x-test.true (sym c.is_ascii_digit.ensures.value ∙ c.if-not-is_ascii_digit.false) in
    let high : 4294967296 ≤ c.loop-x.n * 10 + (x - 48) = omega (arith, c.in_ok-checked_mul.ensures.1, c.from.ensures, c.in_err-n.ensures) in
    rw c.from_residual-in_err-n.ensures (spelled_whole f None (λ z. false≢true (sym c.if-is_empty.false ∙ c.is_empty.ensures ∙ eq-eqb _ _ z)) (sym c.loop-x.invariant.spells ∙ turn ∙ spelled_high (c.loop-x.n * 10 + (x - 48)) _ high))

pub loop-x-preserved : goal.loop-x-preserved
loop-x-preserved c =
    let f = c.args.f.now in
    let x = get_or f c.loop-x.x-index 0 in
    let turn : spelled c.loop-x.n (drop c.loop-x.x-index f) ≡ spelled (c.loop-x.n * 10 + (x - 48)) (drop (c.loop-x.x-index + 1) f) =
    spelled-turn c.loop-x.n f c.loop-x.x-index c.loop-x-test.true (sym c.is_ascii_digit.ensures.value ∙ c.if-not-is_ascii_digit.false) in
    let e : c.in_ok-n.n ≡ c.loop-x.n * 10 + (x - 48) = omega (arith, c.in_ok-checked_mul.ensures.1, c.from.ensures, c.in_ok-n.ensures.1) in
    record { fits = omega (arith, c.in_ok-n.ensures.0, c.in_ok-n.ensures.1); spells = rw e (sym turn ∙ c.loop-x.invariant.spells) }

pub returns : goal.returns
returns c =
    let f = c.args.f.now in
    spelled_whole f (Some c.loop-x.n) (λ z. false≢true (sym c.if-is_empty.false ∙ c.is_empty.ensures ∙ eq-eqb _ _ z))
    (sym c.loop-x.invariant.spells ∙ spelled_end c.loop-x.n f c.loop-x.x-index c.loop-x-test.false c.loop-x.invariant.fits)
