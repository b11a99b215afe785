-- What the state of a script between two lines is seen as.
--
--   setup_of     the stage that a setup is: before the first event, or right at it
--   stage_of     the stage of a script of `replay`
use Rattle.std.specs.Prelude.{true, false, Option, Some, None}
use Rattle.cfdp_transactions.specs.Config.{Config}
use Rattle.cfdp_transactions.specs.World.{World, start}
use Rattle.cfdp_commands.specs.Replay as spec
use Rattle.cfdp_commands.specs.declared.setup.SetupProgress.{SetupProgress}
use Rattle.cfdp_commands.specs.declared.setup.SetupProgress.TheVariants.{First, Open, Closed}
use Rattle.cfdp_commands.specs.declared.setup.Setup.{Setup}
use Rattle.cfdp_commands.specs.declared.stage.CommandStage.{CommandStage}

abbrev pub stage_by : SetupProgress → Config → spec.ReplayStage
stage_by First config = spec.Preparing true config
stage_by Open config = spec.Preparing false config
stage_by Closed config = spec.Running (start config)

abbrev pub setup_of : Setup → spec.ReplayStage
setup_of setup = stage_by setup.progress (record setup.config { prefixes = setup.protected })

abbrev pub stage_by_entity : spec.ReplayStage → Option World → spec.ReplayStage
stage_by_entity before None = before
stage_by_entity before (Some W) = spec.Running W

abbrev pub stage_of : CommandStage → spec.ReplayStage
stage_of stage = stage_by_entity (setup_of stage.setup) stage.entity
