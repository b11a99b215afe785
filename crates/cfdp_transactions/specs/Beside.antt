-- Laws beside the headline.
--     is_step                   the event that performs an item
--     OnlyStepsChange           no other event changes what is in the filestore
--     EachKeyIsAPath            something is only at paths
--     HasItsFile e              the file was installed exactly where there is one, and the Finished PDU says so
--     DoneIsInstalled           this holds of each entry that is done
--     says_installed reply      the reply to an install that went well
--     installs W event          a step at the first item of a transaction with a file: installs_next, is_first, by its
--                               entry
--     FirstIsInstalled          just these events have that reply
use Rattle.std.specs.Prelude.{◌≡◌, Bool, true, false, ◌&&◌, ◌==◌, if◌then◌else◌, IsFalse, List, Option, Some, None}
use Rattle.cfdp_leases.specs.Laws.{KeysArePaths}
use Rattle.cfdp_pdus.specs.Codes.{file_retained, file_unreported}
use Rattle.cfdp_transactions.specs.Config.{Config}
use Rattle.cfdp_transactions.specs.Entry.{Phase, Executing, Done, Entry, has_file}
use Rattle.cfdp_transactions.specs.Events.{Event, Step, Reply}
use Rattle.cfdp_transactions.specs.Outcome.{finished}
use Rattle.cfdp_transactions.specs.World.{World, start, entry_of}
use Rattle.cfdp_transactions.specs.Next.{next, run}
use Rattle.cfdp_transactions.specs.Sound.{Each}

abbrev pub is_step : Event → Bool
is_step (Step id) = true
is_step event = false

abbrev pub OnlyStepsChange : Type 0
OnlyStepsChange = (W : World) (event : Event) → IsFalse (is_step event) → (next W event).0.filestore.nodes
    ≡ W.filestore.nodes

-- In each world of each run, which is the last one of a shorter list of events, something is only at a path: at 1
-- to 8 names, each within the limits. Nothing is asked of the events: they carry octets, and a list with octets that
-- spell no path is refused.
abbrev pub EachKeyIsAPath : Type 0
EachKeyIsAPath = (c : Config) (events : List Event) → KeysArePaths (run (start c) events).filestore

-- the install was performed exactly where there is a file, which is retained
pub record HasItsFile (e : Entry) : Type 0 where
  pub installed : e.installed ≡ has_file e.metadata
  pub file_status : (finished e).file_status ≡ (if has_file e.metadata then file_retained else file_unreported)

-- in each world of each run
abbrev pub DoneIsInstalled : Type 0
DoneIsInstalled = (c : Config) (events : List Event) →
    Each (λ e. e.phase ≡ Done → HasItsFile e) (run (start c) events).table

abbrev pub says_installed : Reply → Bool
says_installed Reply.Installed = true
says_installed reply = false

abbrev pub is_first : Phase → Bool
is_first (Executing next) = next == 0
is_first phase = false

abbrev pub installs_next : Option Entry → Bool
installs_next None = false
installs_next (Some e) = is_first e.phase && has_file e.metadata

abbrev pub installs : World → Event → Bool
installs W (Step id) = installs_next (entry_of W id)
installs W event = false

-- so the answers to a transaction's items begin with 'installed' exactly where there is a file, and no other is
-- 'installed'
abbrev pub FirstIsInstalled : Type 0
FirstIsInstalled =
    (c : Config) (events : List Event) (event : Event) → says_installed (next (run (start c) events) event).1
    ≡ installs (run (start c) events) event
