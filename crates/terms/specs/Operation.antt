-- Document 01, "The calls we buy": the five bytes of each operation, and the number by which C and the tests know it.
use Rattle.std.specs.Prelude.{ℕ, cond, List}
use Rattle.octets.specs.Octets.{same_bytes}
use Rattle.octets.specs.Text.{text}
use Rattle.terms.specs.declared.Operation.{Operation}
use Rattle.terms.specs.declared.Operation.TheVariants.{Formt, Sinon, AddM, DelM, Readm, Writm, Rqloc, Rdnxt, Readv, Readr, Readd, Writv, Addvc, Addvb, Addva, Delvd, Unknown}

-- what the five bytes of an operation ask for
unfoldable pub operation_of : List ℕ → Operation
operation_of op =
    cond (same_bytes op (text "FORMT")) Formt
    (cond (same_bytes op (text "SINON")) Sinon
    (cond (same_bytes op (text "ADD-M")) AddM
    (cond (same_bytes op (text "DEL-M")) DelM
    (cond (same_bytes op (text "READM")) Readm
    (cond (same_bytes op (text "WRITM")) Writm
    (cond (same_bytes op (text "RQLOC")) Rqloc
    (cond (same_bytes op (text "RDNXT")) Rdnxt
    (cond (same_bytes op (text "READV")) Readv
    (cond (same_bytes op (text "READR")) Readr
    (cond (same_bytes op (text "READD")) Readd
    (cond (same_bytes op (text "WRITV")) Writv
    (cond (same_bytes op (text "ADDVC")) Addvc
    (cond (same_bytes op (text "ADDVB")) Addvb
    (cond (same_bytes op (text "ADDVA")) Addva
    (cond (same_bytes op (text "DELVD")) Delvd
    Unknown)))))))))))))))
