-- Document 02, W1: a film file of either kind, and its film: "the new reader where the tag after field 03 is 06".
use Rattle.std.specs.Prelude.{Bool, cond, List, ℕ, eqb}
use Rattle.model.specs.Gauge.{Gauge}
use Rattle.model.specs.Film.{Film}
use Rattle.model.specs.Coefficients.{formed}
use Rattle.model.specs.Result.{Answer, answered, refused}
use Rattle.model.specs.Bytes.{byte_at}
use Rattle.model.specs.Fields.{fields_end}
use Rattle.model.specs.File.{opening, carried_in, read_film}
use Rattle.model.specs.CoefficientFile.{read_coefficients}

-- whether the byte after field 03 is the first tag of a coefficient film's own
abbrev pub tagged06 : List ℕ → Bool
tagged06 bytes = eqb (byte_at bytes (fields_end (opening (carried_in bytes)) 0)) 6

-- the film that a gauged film's numbers form
abbrev pub formed_by : Answer Gauge → Answer Film
formed_by (answered g) = answered (formed g)
formed_by (refused number place) = refused number place

-- a film file of either kind is accepted, and this is its film; or it is refused
abbrev pub read_either : List ℕ → Answer Film
read_either bytes = cond (tagged06 bytes) (read_coefficients bytes) (formed_by (read_film bytes))
