-- Why a script stops before its end.
--     ScriptEnd       at `end`; at a bad line; at a line that it expects in vain; at a file that cannot be read; out of
--                     memory
--     stop_of         that of a value of the program
--     stop_by         that of a line that is not read
use Rattle.std.specs.Prelude.{ℕ, List}
use Rattle.cfdp_run.specs.declared.run_commands.CommandFault.{CommandFault}
use Rattle.cfdp_run.specs.declared.run_commands.CommandFault.TheVariants as fault
use Rattle.cfdp_run.specs.declared.stop.ScriptStop.{ScriptStop as StopValue}
use Rattle.cfdp_run.specs.declared.stop.ScriptStop.TheVariants as stop
use Rattle.cfdp_run.specs.declared.wrong.Wrong.{Wrong}

pub data ScriptEnd : Type 0 where
  Ended : ScriptEnd
  IsWrong : Wrong → ScriptEnd
  Unmet : (line : List ℕ) → ScriptEnd
  Unread : (name : List ℕ) → ScriptEnd
  NoMemory : ScriptEnd

abbrev pub stop_of : StopValue → ScriptEnd
stop_of stop.Ended = Ended
stop_of (stop.Wrong wrong) = IsWrong wrong
stop_of (stop.Unmet line) = Unmet line.items
stop_of (stop.Unread name) = Unread name.items
stop_of stop.Memory = NoMemory

abbrev pub stop_by : CommandFault → StopValue
stop_by (fault.Wrong wrong) = stop.Wrong wrong
stop_by fault.Memory = stop.Memory
