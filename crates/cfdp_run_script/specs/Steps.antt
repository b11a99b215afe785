-- What the values of the program are seen as, and what a line of a script leads to.
--     script_stage, script_of           how far a script is, by its head and the entity after it;  that of a script
--     Leads step stage before after     a line leads to a stage, and what it writes comes after another text
--     StopsScript step why              a line stops the script for this reason, unless out of memory
use Rattle.std.specs.Prelude.{◌≡◌, ◌≢◌, ℕ, List, ◌++◌, Option, Some, None, Ok, Err}
use Rattle.cfdp_run.specs.Scripts.{ScriptStage, Preparing, Playing, Step}
use Rattle.cfdp_run.specs.Stages.{head_of, play_from}
use Rattle.cfdp_run.specs.Stops.{NoMemory, stop_of}
use Rattle.cfdp_run.specs.declared.head.Head.{Head as HeadValue}
use Rattle.cfdp_run.specs.declared.play.Play.{Play as PlayValue}
use Rattle.cfdp_run.specs.declared.stop.ScriptStop.{ScriptStop as StopValue}
use Rattle.cfdp_run_script.specs.declared.script.RunScript.{RunScript as ScriptValue}

unfoldable pub script_stage : HeadValue → Option PlayValue → ScriptStage
script_stage head None = Preparing (head_of head)
script_stage head (Some play) = Playing (play_from play)

abbrev pub script_of : ScriptValue → ScriptStage
script_of script = script_stage script.head script.play

pub record Leads (step : Step) (stage : ScriptStage) (before after : List ℕ) : Type 0 where
  pub text : List ℕ
  pub does : step ≡ Ok (stage, text)
  pub appended : after ≡ before ++ text

abbrev pub StopsScript : Step → StopValue → Type 0
StopsScript step why = stop_of why ≢ NoMemory → step ≡ Err (stop_of why)
