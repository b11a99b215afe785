-- What only the proofs of the code need of `Session`.
--
--   Breaks     a run broke off within some octets; what it wrote is a beginning of what they report
--   RefusesMemory  a run broke off out of memory at a line that these octets do not show to be bad,
--              unless it began before them
--
-- and of a writer that shows its octets:
--
--   Runs         some octets were run, and their text was written
--   RunsBad      some octets were run up to a bad line, and the text before it was written
--   RunsPart     some of the octets were run, and a beginning of their text was written
--   RunsLost     the same, of a writer that failed, and may no longer show its octets
--   Finishes     the script ended, and the text of its last line was written
--   FinishesBad  the script ended in a bad line
--   FinishesLost the script ended, and the writer failed at the text of its last line
use Rattle.std.specs.Prelude.{◌≡◌, ℕ, true, List, [], ◌++◌, Option}
use Rattle.cfdp_lines.specs.Report.{wrote, empty_report, stopped_at}
use Rattle.std.specs.Io.KnownBytes.{Appends, Keeps}
use Rattle.cfdp_streams.specs.Streams.{Begins, AppendsOrLost}
use Rattle.cfdp_lines.specs.Session.{LineReading, report_at, Moves, StopsBad}

pub record Breaks {State : Type 0} (answer : State → List ℕ → Option (State × List ℕ)) (from : LineReading State)
    (octets : List ℕ)
    (written : List ℕ) : Type 0 where
  pub begins : (rest : List ℕ) → Begins (report_at answer true from (octets ++ rest)).text written

pub record RefusesMemory {State : Type 0} (answer : State → List ℕ → Option (State × List ℕ)) (from : LineReading State)
    (octets : List ℕ)
    : Type 0 where
  pub done : List ℕ
  pub rest : List ℕ
  pub text : List ℕ
  pub to : LineReading State
  pub cut : octets ≡ done ++ rest
  pub moves : Moves answer from to done text
  pub good : to.line ≡ [] → StopsBad answer to rest [] to.number → ⊥

pub record Runs {State : Type 0} (answer : State → List ℕ → Option (State × List ℕ)) (from to : LineReading State)
    (octets : List ℕ)
    (old new : Option (List ℕ)) : Type 0 where
  pub written : List ℕ
  pub moves : Moves answer from to octets written
  pub appended : Appends old new written

pub record RunsBad {State : Type 0} (answer : State → List ℕ → Option (State × List ℕ)) (from : LineReading State)
    (octets : List ℕ)
    (number : ℕ) (old new : Option (List ℕ)) : Type 0 where
  pub written : List ℕ
  pub stops : StopsBad answer from octets written number
  pub appended : Appends old new written

pub record RunsPart {State : Type 0} (answer : State → List ℕ → Option (State × List ℕ)) (from : LineReading State)
    (octets : List ℕ)
    (old new : Option (List ℕ)) : Type 0 where
  pub written : List ℕ
  pub breaks : Breaks answer from octets written
  pub appended : Appends old new written

pub record RunsLost {State : Type 0} (answer : State → List ℕ → Option (State × List ℕ)) (from : LineReading State)
    (octets : List ℕ)
    (old new : Option (List ℕ)) : Type 0 where
  pub written : List ℕ
  pub breaks : Breaks answer from octets written
  pub appended : AppendsOrLost old new written

pub record Finishes {State : Type 0} (answer : State → List ℕ → Option (State × List ℕ)) (from : LineReading State)
    (old new : Option (List ℕ)) : Type 0 where
  pub written : List ℕ
  pub is : report_at answer true from [] ≡ wrote written empty_report
  pub appended : Appends old new written

pub record FinishesBad {State : Type 0} (answer : State → List ℕ → Option (State × List ℕ)) (from : LineReading State)
    (number : ℕ)
    (old new : Option (List ℕ)) : Type 0 where
  pub is : report_at answer true from [] ≡ stopped_at number
  pub kept : Keeps old new

pub record FinishesLost {State : Type 0} (answer : State → List ℕ → Option (State × List ℕ)) (from : LineReading State)
    (old new : Option (List ℕ)) : Type 0 where
  pub written : List ℕ
  pub begins : Begins (report_at answer true from []).text written
  pub appended : AppendsOrLost old new written
