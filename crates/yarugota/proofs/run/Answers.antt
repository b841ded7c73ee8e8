use Rattle.std.proofs.lemmas.Result.{on_ok_weaker}
use Rattle.std.proofs.KnownBytes.{Appends-trans}
use Rattle.std.specs.Io.KnownBytes.{Appends}
use Rattle.yarugota.specs.Printed.{small_session}
use Rattle.yarugota.proofs.Written.{whole, small_printed}
use Rattle.yarugota.proofs.run.Goals as goal

pub returns : goal.returns
returns g c =
    let w = c.in_ok-progress.ensures.stands in
    record {
      written = on_ok_weaker c.last_line.result
          (λ v. whole _ _ w.0 18446744073709551615
          (λ input. Appends (g.W.Write.contents c.args.to.now) (g.W.Write.contents c.last_line.new.to) (small_session input))
          w.3 w.4
          (rw (small_printed c.schema-schema.result c.format.new.base w.0 c.schema-schema.ensures c.format.ensures) (Appends-trans _ _ _ _ _ w.2 (v _ w.1))))
          c.last_line.ensures.written;
    }
