-- A script of which octets come in pieces.
--     script_reading session            where it is: the number of the line that is being read, how far the script is,
--                                       and what became of the line
--     why_at files ends line_reading octets  why a script stops from a state on, of the octets that come from there, if
--                                       it does
--     ScriptGoesOn files from to octets  after some octets it stops from one point for the reason for which it stops
--                                       from another
--     StopsFor files from octets why    some octets end a script for this reason, whatever comes after them, unless out
--                                       of memory
--     EndsScript files from before after  a script ends well, and what its last line writes comes after another text
use Rattle.std.specs.Prelude.{◌≡◌, ◌≢◌, ℕ, Bool, true, List, [], ◌++◌, Option, Some}
use Rattle.cfdp_lines.specs.Report.{empty_report, wrote}
use Rattle.cfdp_lines.specs.Session.{LineReading, line_reading, lines_by, report_at}
use Rattle.cfdp_run.specs.Scripts.{ScriptStage, answer, why_from}
use Rattle.cfdp_run.specs.Stops.{ScriptEnd, NoMemory, stop_of}
use Rattle.cfdp_run.specs.declared.stop.ScriptStop.{ScriptStop as StopValue}
use Rattle.cfdp_run_script.specs.Steps.{script_of}
use Rattle.cfdp_run_script.specs.declared.session.ScriptSession.{ScriptSession as SessionValue}

abbrev pub script_reading : SessionValue → LineReading ScriptStage
script_reading session = line_reading session.number (script_of session.script) session.line

abbrev pub why_at : (List ℕ → Option (List ℕ)) → Bool → LineReading ScriptStage → List ℕ → Option ScriptEnd
why_at files ends from octets = why_from files from.state (lines_by ends (from.line ++ octets))

pub record ScriptGoesOn (files : List ℕ → Option (List ℕ)) (from to : LineReading ScriptStage)
    (octets : List ℕ) : Type 0 where
  pub same : (ends : Bool) (rest : List ℕ) → why_at files ends from (octets ++ rest) ≡ why_at files ends to rest

pub record StopsFor (files : List ℕ → Option (List ℕ)) (from : LineReading ScriptStage) (octets : List ℕ)
    (why : StopValue) : Type 0 where
  pub stops : (ends : Bool) (rest : List ℕ) → stop_of why ≢ NoMemory → why_at files ends from (octets ++ rest)
      ≡ Some (stop_of why)

pub record EndsScript (files : List ℕ → Option (List ℕ)) (from : LineReading ScriptStage)
    (before after : List ℕ) : Type 0 where
  pub written : List ℕ
  pub is : report_at (answer files) true from [] ≡ wrote written empty_report
  pub appended : after ≡ before ++ written
