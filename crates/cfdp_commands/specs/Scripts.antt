-- What the two kinds of script are seen as between two lines.
--
--   plain_state_of  the filestore, as its store is seen, and whether the list has stopped
--   transfers_of   the stage
use Rattle.cfdp_actions.specs.Store.{Store}
use Rattle.cfdp_actions.specs.declared.filestore.Filestore.{Ghosts}
use Rattle.cfdp_commands.specs.Plain.{PlainState, plain_state}
use Rattle.cfdp_commands.specs.Replay.{ReplayStage}
use Rattle.cfdp_commands.specs.Stages.{stage_of}
use Rattle.cfdp_commands.specs.declared.requests.Requests.{Requests}
use Rattle.cfdp_commands.specs.declared.transfers.Transfers.{Transfers}

abbrev pub plain_state_of : {S : Type 0} {G : Ghosts S} → (S → Store) → Requests S G → PlainState
plain_state_of seen requests = plain_state (seen requests.store) requests.stopped

abbrev pub transfers_of : Transfers → ReplayStage
transfers_of transfers = stage_of transfers.stage
