-- The twin store: the small store's bottles, and points on two paths to them, BOTLLKPT and BOTLLKQT. One bottle, B001, is enough; its points
-- have it on both paths.
use Rattle.std.specs.Prelude.{ℕ, List, [], ◌∷◌, ◌++◌}
use Rattle.octets.specs.Octets.{word_bytes, zeros}
use Rattle.octets.specs.Text.{text}
use Rattle.blocks.specs.declared.Check.TheVariants.{Sum}
use Rattle.blocks.specs.Blocks.{seal}
use Rattle.condition3.specs.Plain.{Point}
use Rattle.condition3.specs.Readings.{Request, request_of, Fixed, schema_in, Place, link, no_path_name}
use Rattle.cases.specs.Small.{two_sets, botl}

-- D 4, R 3, paths BOTLLKPT and BOTLLKQT
abbrev twin_points : List ℕ
twin_points = text "PNTS" ++ (2 ∷ 2 ∷ 0 ∷ 4 ∷ word_bytes 3 ++ (zeros 4 ++ (text "PT" ++ (zeros 6 ++ (text "QT" ++ zeros 22)))))

unfoldable pub twin : List ℕ
twin = seal Sum (two_sets botl twin_points) 0

-- the schema of every trial
abbrev pub twin_schema : Fixed
twin_schema = record { schema = twin }

abbrev pub bottle : List ℕ
bottle = text "B001"

-- ---- the calls

abbrev pub add_bottle : Request
add_bottle = request_of (text "ADD-M") (text "BOTL") 0 no_path_name bottle (bottle ++ text "NECK")

-- a call on the first path
abbrev point_call : List ℕ → ℕ → List ℕ → Request
point_call operation r area = request_of operation (text "PNTS") r (text "BOTLLKPT") bottle area

-- an add of a point: ADDVC, ADDVB or ADDVA; all points have the same bytes
abbrev point_area : List ℕ
point_area = bottle ++ (bottle ++ text "DATA")

abbrev pub add_point : List ℕ → ℕ → Request
add_point operation r = point_call operation r point_area

abbrev pub point : ℕ → Point
point n = record { number = n; area = point_area }

abbrev pub remove_point : ℕ → Request
remove_point r = point_call (text "DELVD") r []

-- ---- the readings

-- where the points of a path are read
abbrev on_path : List ℕ → Place
on_path path = record { set = text "PNTS"; path = path; masters = text "BOTL"; point-area = zeros 12; master-area = zeros 8 }

abbrev pub path1 : Place
path1 = on_path (text "BOTLLKPT")

abbrev pub path2 : Place
path2 = on_path (text "BOTLLKQT")

-- READV or READR of the bottle's points from the reference r on, the reference LKxx, and RDNXT
abbrev read_point : List ℕ → Place → ℕ → Request
read_point operation w r = request_of operation w.set r w.path bottle w.point-area

abbrev pub read_from : Place → ℕ → Request
read_from = read_point (text "READV")

abbrev pub read_back : Place → ℕ → Request
read_back = read_point (text "READR")

abbrev pub twin_link : Place → ℕ
twin_link w = link (schema_in twin_schema) w

abbrev pub sweep_from : Place → ℕ → Request
sweep_from w r = request_of (text "RDNXT") w.set r no_path_name [] w.point-area
