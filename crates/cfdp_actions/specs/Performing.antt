-- What it is to perform a request on a store.
--     performed_outcome prefixes s request  the action table on the store's filestore and its free blocks
use Rattle.std.specs.Prelude.{List}
use Rattle.cfdp_paths.specs.Paths.{Path}
use Rattle.cfdp_actions.specs.Actions.{Request, Outcome, act}
use Rattle.cfdp_actions.specs.Store.{Store, free_blocks}

abbrev pub performed_outcome : List Path → Store → Request → Outcome
performed_outcome prefixes s request = act prefixes s.filestore (free_blocks s) request
