-- What `replay` does: PDUs and local events of one receiving entity, line by line.
--
--   ReplayStage       before the first event, the configuration so far and whether it may still be given (Preparing);
--                     and then the world (Running)
--   at_first          the default configuration, which a script may replace by its first line
--   configured        the stage after a configuration is given, by its five numbers
--   protected         the stage after a path is protected, by its octets
--   stage_world       the world as the first event, and each later one, finds it
--   without_text      the stage after a line that writes nothing
--   run_events        the stage after some events, and the lines of their replies
--   steps_from        the steps of `run`, of the first transaction that can take one until none can
--   read_and_run      what a PDU comes to, from what reading it answers
--   obeyed            what a command does; nothing where it is bad at this stage
--   line_answered     what a line does, by what it says; one without words does nothing
--   replay_answer     what a line does
--   replay_report     what a whole script writes, and the bad line that ends it, if one does
use Rattle.std.specs.Prelude.{ℕ, zero, suc, nat_lt, Bool, true, false, if◌then◌else◌, List, [], ◌∷◌, ◌++◌, length, Option, Some, None, option_map, Result, Ok, Err}
use Rattle.cfdp_status.specs.declared.transaction.TransactionId.{TransactionId}
use Rattle.cfdp_paths.specs.Paths.{Path, path_of}
use Rattle.cfdp_pdus.specs.declared.fault.PduFault.{PduFault}
use Rattle.cfdp_transactions.specs.Config.{Config, config_fault}
use Rattle.cfdp_transactions.specs.declared.config.ConfigFault.{ConfigFault}
use Rattle.cfdp_transactions.specs.Events.{event_at}
use Rattle.cfdp_transactions.specs.declared.event.Event.{Event}
use Rattle.cfdp_transactions.specs.declared.event.Event.TheVariants as events
use Rattle.cfdp_transactions.specs.Next.{next, run, replies}
use Rattle.cfdp_transactions.specs.MostSettled.{most_settled}
use Rattle.cfdp_transactions.specs.World.{World, start, next_runnable}
use Rattle.cfdp_commands.specs.Commands.{Command, command_in, local_event}
use Rattle.cfdp_commands.specs.Commands as command
use Rattle.cfdp_texts.specs.Replies.{reply_lines, fault_line, not_ours, listing_text}
use Rattle.cfdp_lines.specs.Report.{Report, script_report}

pub data ReplayStage : Type 0 where
  Preparing : (is_first : Bool) → Config → ReplayStage
  Running : World → ReplayStage

abbrev pub default_config : Config
default_config = record { entity = 2; blocks = 64; cap = 2400; checks = 2; journal = 1000; prefixes = [] }

abbrev pub at_first : ReplayStage
at_first = Preparing true default_config

-- ---- the configuration

-- the numbers are within their limits
abbrev pub config_without : Option ConfigFault → Config → Option ReplayStage
config_without (Some fault) config = None
config_without None config = Some (Preparing false config)

-- only blank lines and comments may come before it
abbrev pub configured : ReplayStage → (entity blocks cap checks journal : ℕ) → Option ReplayStage
configured (Preparing true config) entity blocks cap checks journal =
    config_without (config_fault blocks cap checks journal)
    (record { entity = entity; blocks = blocks; cap = cap; checks = checks; journal = journal; prefixes = [] })
configured stage entity blocks cap checks journal = None

abbrev pub with_prefix : Config → Option Path → Option ReplayStage
with_prefix config None = None
with_prefix config (Some path) =
    if nat_lt (length config.prefixes) 8
    then Some (Preparing false (record config { prefixes = config.prefixes ++ path ∷ [] }))
    else None

-- before the first event
abbrev pub protected : ReplayStage → List ℕ → Option ReplayStage
protected (Preparing is_first config) octets = with_prefix config (path_of octets)
protected (Running W) octets = None

-- ---- events

abbrev pub stage_world : ReplayStage → World
stage_world (Preparing is_first config) = start config
stage_world (Running W) = W

abbrev pub run_events : World → List Event → ReplayStage × List ℕ
run_events W events = (Running (run W events), reply_lines events (replies W events))

-- the first step, and those after it
abbrev pub steps_by : Option TransactionId → (TransactionId → List Event) → List Event
steps_by None later = []
steps_by (Some id) later = events.Step id ∷ later id

-- at most this many
unfoldable pub steps_from : ℕ → World → List Event
steps_from zero W = []
steps_from (suc more) W = steps_by (next_runnable W.table) (λ id. steps_from more (next W (events.Step id)).0)

abbrev pub read_and_run : World → Result (Option Event) PduFault → ReplayStage × List ℕ
read_and_run W (Err fault) = (Running W, fault_line fault)
read_and_run W (Ok None) = (Running W, not_ours)
read_and_run W (Ok (Some event)) = run_events W (event ∷ [])

-- ---- lines

-- the configuration and the paths that are protected write nothing
abbrev pub without_text : {A : Type 0} → Option ReplayStage → Option (ReplayStage × List A)
without_text next = option_map (λ stage. (stage, [])) next

abbrev pub obeyed : ReplayStage → Command → Option (ReplayStage × List ℕ)
obeyed stage (command.Config entity blocks cap checks journal) =
    without_text (configured stage entity blocks cap checks journal)
obeyed stage (command.Protect octets) = without_text (protected stage octets)
obeyed stage (command.Pdu octets) = Some (read_and_run (stage_world stage) (event_at octets))
obeyed stage (command.Local which id) = Some (run_events (stage_world stage) (local_event which id ∷ []))
obeyed stage command.Run = Some (run_events (stage_world stage) (steps_from most_settled (stage_world stage)))
obeyed stage command.ListAll = Some (Running (stage_world stage), listing_text (stage_world stage))

-- a bad line, one without words, or a command
abbrev pub line_answered : ReplayStage → Option (Option Command) → Option (ReplayStage × List ℕ)
line_answered stage None = None
line_answered stage (Some None) = Some (stage, [])
line_answered stage (Some (Some said)) = obeyed stage said

abbrev pub replay_answer : ReplayStage → List ℕ → Option (ReplayStage × List ℕ)
replay_answer stage line = line_answered stage (command_in line)

abbrev pub replay_report : List ℕ → Report
replay_report script = script_report replay_answer at_first script
