-- What the files of `links` say: PDUs, local events and runs, which workers are to be sent.
--
--   Said           what a line says: the octets of a PDU that came, something of the entity's own, or a run
--   said_of        what a message to a worker says
--   running        the stage after the first event: the configuration is set
--   said_by        the stage after a command, and what it says to a worker; nothing where it is bad at this stage. As
--                  in `replay`, without `list`
--   link_said      what a line does, by what it says; one without words does nothing
--   link_answer    what a line does: the stage after it, and what it says to a worker; nothing where it is bad
--   Reading        how far a file is read: the stage, and what its lines said
--   read_from      what the lines of a file say, one after the other, or the number of the first bad one
--   Files          what all files say: the configuration, and what each says
--   files_from     the files in order, or the number of the first that has a bad line, and that of its first one
--   link_files     the same from the first file on: files count from 0, and lines from 1. The configuration is set
--                  after the first file
use Rattle.std.specs.Prelude.{ℕ, ◌+◌, List, [], ◌∷◌, ◌++◌, Option, Some, None, Result, Ok, Err}
use Rattle.std.specs.Arc.{arc_value}
use Rattle.cfdp_transactions.specs.Config.{Config}
use Rattle.cfdp_transactions.specs.declared.event.Event.{Event}
use Rattle.cfdp_engine.specs.declared.message.Message.{Message}
use Rattle.cfdp_engine.specs.declared.message.Message.TheVariants as messages
use Rattle.cfdp_commands.specs.Commands.{Command, command_in, local_event}
use Rattle.cfdp_commands.specs.Commands as command
use Rattle.cfdp_lines.specs.Lines.{lines_of}
use Rattle.cfdp_commands.specs.Replay.{ReplayStage, Running, at_first, configured, protected, without_text, stage_world}
use Rattle.cfdp_lines.specs.Report.{line_answer}

pub data Said : Type 0 where
  Came : List ℕ → Said
  Happened : Event → Said
  Steps : Said

abbrev pub said_of : Message → Said
said_of (messages.Pdu octets) = Came octets.items
said_of (messages.Event event) = Happened (arc_value event)
said_of messages.Run = Steps

-- ---- lines

abbrev pub running : ReplayStage → ReplayStage
running stage = Running (stage_world stage)

abbrev pub says_one : ReplayStage → Said → Option (ReplayStage × List Said)
says_one stage said = Some (running stage, said ∷ [])

-- a line that prepares the entity says nothing to a worker
abbrev pub said_by : ReplayStage → Command → Option (ReplayStage × List Said)
said_by stage (command.Config entity blocks cap checks journal) =
    without_text (configured stage entity blocks cap checks journal)
said_by stage (command.Protect octets) = without_text (protected stage octets)
said_by stage (command.Pdu octets) = says_one stage (Came octets)
said_by stage (command.Local which id) = says_one stage (Happened (local_event which id))
said_by stage command.Run = says_one stage Steps
said_by stage command.ListAll = None

-- a bad line, one without words, or a command
abbrev pub link_said : ReplayStage → Option (Option Command) → Option (ReplayStage × List Said)
link_said stage None = None
link_said stage (Some None) = Some (stage, [])
link_said stage (Some (Some said)) = said_by stage said

abbrev pub link_answer : ReplayStage → List ℕ → Option (ReplayStage × List Said)
link_answer stage line = link_said stage (command_in line)

-- ---- files

pub record Reading : Type 0 where
  pub stage : ReplayStage
  pub said : List Said

-- what the line of this number says comes after what those before it said
abbrev pub read_then : ℕ → List Said → Option (ReplayStage × List Said) → (Reading → Result Reading ℕ) →
    Result Reading ℕ
read_then number said None later = Err number
read_then number said (Some answered) later = later (record { stage = answered.0; said = said ++ answered.1 })

abbrev pub read_from : ℕ → Reading → List (List ℕ) → Result Reading ℕ
read_from number reading [] = Ok reading
read_from number reading (line ∷ lines) =
    read_then number reading.said (line_answer link_answer reading.stage line)
    (λ after. read_from (number + 1) after lines)

-- a file, from its first line on
abbrev pub file_said : ReplayStage → List ℕ → Result Reading ℕ
file_said stage script = read_from 1 (record { stage = stage; said = [] }) (lines_of script)

pub record Files : Type 0 where
  pub config : Config
  pub said : List (List Said)

-- what a file says comes after what those before it say
abbrev pub files_then : ℕ → List (List Said) → Result Reading ℕ →
    (ReplayStage → List (List Said) → Result Files (ℕ × ℕ)) →
    Result Files (ℕ × ℕ)
files_then file said (Err line) later = Err (file, line)
files_then file said (Ok reading) later = later (running reading.stage) (said ++ reading.said ∷ [])

abbrev pub files_from : ℕ → ReplayStage → List (List Said) → List (List ℕ) → Result Files (ℕ × ℕ)
files_from file stage said [] = Ok (record { config = (stage_world stage).config; said = said })
files_from file stage said (script ∷ scripts) =
    files_then file said (file_said stage script) (λ after more. files_from (file + 1) after more scripts)

abbrev pub link_files : List (List ℕ) → Result Files (ℕ × ℕ)
link_files scripts = files_from 0 at_first [] scripts
