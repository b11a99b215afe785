-- Where a run is in the middle of its script, and what moves it on.
--
--   LineReading  the number of the line that is being read, the state before it, and its octets so far (line_reading)
--   lines_by   the lines of some octets, where the script ends after them, or where it may go on
--   report_at  what is reported from a state on, of the octets that come from there
--   Moves      some octets took a run from one point of the script to another and wrote what is theirs
--   StopsBad   some octets ended a run at a bad line
use Rattle.std.specs.Prelude.{◌≡◌, ℕ, Bool, true, false, List, ◌++◌, Option}
use Rattle.cfdp_lines.specs.Lines.{lines_of, settled_lines}
use Rattle.cfdp_lines.specs.Report.{Report, report, wrote, stopped_at}

pub record LineReading (State : Type 0) : Type 0 where
  pub number : ℕ
  pub state : State
  pub line : List ℕ

abbrev pub line_reading : {State : Type 0} → ℕ → State → List ℕ → LineReading State
line_reading number state line = record { number = number; state = state; line = line }

abbrev pub lines_by : Bool → List ℕ → List (List ℕ)
lines_by true octets = lines_of octets
lines_by false octets = settled_lines octets

abbrev pub report_at : {State : Type 0} → (State → List ℕ → Option (State × List ℕ)) → Bool → LineReading State → List ℕ
    →
    Report
report_at answer ends line_reading octets = report answer line_reading.number line_reading.state
    (lines_by ends (line_reading.line ++ octets))

-- whatever comes after them, and whether the script ends there
pub record Moves {State : Type 0} (answer : State → List ℕ → Option (State × List ℕ)) (from to : LineReading State)
    (octets : List ℕ)
    (written : List ℕ) : Type 0 where
  pub goes_on : (ends : Bool) (rest : List ℕ) → report_at answer ends from (octets ++ rest)
      ≡ wrote written (report_at answer ends to rest)

pub record StopsBad {State : Type 0} (answer : State → List ℕ → Option (State × List ℕ)) (from : LineReading State)
    (octets : List ℕ)
    (written : List ℕ) (number : ℕ) : Type 0 where
  pub stops : (ends : Bool) (rest : List ℕ) → report_at answer ends from (octets ++ rest)
      ≡ wrote written (stopped_at number)
