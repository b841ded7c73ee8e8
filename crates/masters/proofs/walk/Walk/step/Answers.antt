-- `masters::walk::Walk::step` meets its contract: a law for each way out.
use borrow.Author.Rules.{rules}
use Rattle.std.proofs.Common.{◌<◌, arith}
use Rattle.terms.specs.Terms.{key_of}
use Rattle.masters.proofs.WalkLaws.{step_over, step-none, step-above, step_free, step_here, step_end, step_on}
use Rattle.masters.proofs.walk.Walk.step.Goals as goal
use Rattle.masters.proofs.walk.Walk.step.Goals.{then-at-eq0-via-then-at-eq0, then-at-eq0-via-else-at-eq0+then-records-at}

pub returns-then-records-self : goal.returns-then-records-self
returns-then-records-self c =
    let m = c.args.masters.now in
    step_over m.base.now m.entry.now (key_of c.args.k) c.args.self (omega (arith, c.if-records-self.true))

pub returns-then-at-eq0 : goal.returns-then-at-eq0
returns-then-at-eq0 c =
    let m = c.args.masters.now in
    elim c.then-at-eq0.branch [
      | then-at-eq0-via-then-at-eq0 w ↦ step-none m.base.now m.entry.now (key_of c.args.k) c.args.self w.if-at-eq0.true
      | then-at-eq0-via-else-at-eq0+then-records-at w ↦ step-above m.base.now m.entry.now (key_of c.args.k) c.args.self (omega (arith, w.if-at-eq0.false)) w.if-records-at.true
    ]

pub returns-then-not-is_live : goal.returns-then-not-is_live
returns-then-not-is_live c =
    let m = c.args.masters.now in
    step_free m.base.now m.entry.now (key_of c.args.k) c.args.self (omega (arith, c.if-records-self.false)) (omega (arith, c.if-at-eq0.false), omega (arith, c.if-records-at.false)) (search rules) c.if-not-is_live.true

pub returns-then-key_is : goal.returns-then-key_is
returns-then-key_is c =
    let m = c.args.masters.now in
    step_here m.base.now m.entry.now (key_of c.args.k) c.args.self (omega (arith, c.if-records-self.false)) (omega (arith, c.if-at-eq0.false), omega (arith, c.if-records-at.false)) (search rules) c.if-not-is_live.false
    c.requires.len_value (search rules) c.if-key_is.true

pub returns-then-next-eq0 : goal.returns-then-next-eq0
returns-then-next-eq0 c =
    let m = c.args.masters.now in
    step_end m.base.now m.entry.now (key_of c.args.k) c.args.self (omega (arith, c.if-records-self.false)) (omega (arith, c.if-at-eq0.false), omega (arith, c.if-records-at.false)) (search rules) c.if-not-is_live.false
    c.requires.len_value (search rules) c.if-key_is.false (search rules) c.if-next-eq0.true

pub returns : goal.returns
returns c =
    let m = c.args.masters.now in
    step_on m.base.now m.entry.now (key_of c.args.k) c.args.self (omega (arith, c.if-records-self.false)) (omega (arith, c.if-at-eq0.false), omega (arith, c.if-records-at.false)) (search rules) c.if-not-is_live.false
    c.requires.len_value (search rules) c.if-key_is.false (search rules) c.if-next-eq0.false
