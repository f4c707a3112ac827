-- Believed: the lines that the records of a log are.
use Rattle.std.specs.Prelude.{ℕ, ◌+◌, ◌==◌, List, [], ◌∷◌, ◌++◌, Option, Some, None}
use Rattle.std.specs.Bool.{then_some}
use Rattle.std.specs.Option.{option_to_list}
use Rattle.std.specs.Result.{result_ok}
use Rattle.decision_log.specs.Reading.{line_read}
use Rattle.decision_log.specs.Values.{LineValue}

-- a line, if it has this number
abbrev pub numbered : ℕ → Option LineValue → Option LineValue
numbered place None = None
numbered place (Some v) = then_some (v.number == place) v

-- the line that a record is, if its number is this place
abbrev pub line_at : ℕ → List ℕ → Option LineValue
line_at place bytes = numbered place (result_ok (line_read bytes))

-- the lines of these records, numbered on from so many before them; a record that is no such line is left out
abbrev pub lines_after : ℕ → List (List ℕ) → List LineValue
lines_after count [] = []
lines_after count (bytes ∷ records) = option_to_list (line_at (count + 1) bytes) ++ lines_after (count + 1) records

-- the lines of a log's records, each with its place as number
abbrev pub lines_of : List (List ℕ) → List LineValue
lines_of records = lines_after 0 records
