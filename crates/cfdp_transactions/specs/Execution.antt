-- The items of a transaction, performed one at a time once its file is there: the install, and the filestore requests
-- in the order of the Metadata PDU (CCSDS 727.0-B-5, filestore procedures).
--     entry_after e next items o        the entry after its item `next` went well; `items` are those after it
--     act_now W e item                  an item on the filestore and the free blocks of the moment
--     stepped                           a step: the next item is performed
use Rattle.std.specs.Prelude.{ℕ, suc, ◌+◌, ◌||◌, Bool, true, false, if◌then◌else◌, List, [], ◌∷◌, ◌++◌, drop, Option, Some, None}
use Rattle.cfdp_status.specs.declared.status.Status.{Status}
use Rattle.cfdp_actions.specs.Actions.{Item, Install, Perform, Answer, succeeded, Outcome, ticks, act_item}
use Rattle.cfdp_pdus.specs.Codes.{filestore_rejection}
use Rattle.cfdp_transactions.specs.Entry.{Phase, Executing, Done, Entry, spend}
use Rattle.cfdp_transactions.specs.Events.{Reply}
use Rattle.cfdp_transactions.specs.World.{World, free, change_at}
use Rattle.cfdp_transactions.specs.Ending.{ends}

abbrev pub is_install : Item → Bool
is_install (Install p) = true
is_install (Perform request) = false

abbrev pub replied : Answer → Reply
replied (Answer.Performed status) = Reply.Performed status
replied Answer.Installed = Reply.Installed
replied Answer.NotInstalled = Reply.Faulted filestore_rejection

-- the install has no status of its own
abbrev pub noted : List Status → Answer → List Status
noted statuses (Answer.Performed status) = statuses ++ status ∷ []
noted statuses Answer.Installed = statuses
noted statuses Answer.NotInstalled = statuses

-- `next` is the number of the first of the items that are left
abbrev pub phase_before : ℕ → List Item → Phase
phase_before next [] = Done
phase_before next (item ∷ items) = Executing next

abbrev pub entry_after : Entry → ℕ → Item → List Item → Outcome → Entry
entry_after e next item items o = record e {
  phase = phase_before (suc next) items;
  installed = e.installed || is_install item;
  received = if is_install item then [] else e.received;
  statuses = noted e.statuses o.answer;
  blocks_spent = spend e.blocks_spent o.taken o.given;
  steps_spent = e.steps_spent + (1 + ticks o);
}

-- an item that does not succeed would end the transaction
abbrev pub entry_failed : Entry → Outcome → Entry
entry_failed e o = record e { statuses = noted e.statuses o.answer; steps_spent = e.steps_spent + (1 + ticks o) }

abbrev pub step_with : World → ℕ → Entry → ℕ → Item → List Item → Outcome → World × Reply
step_with W k e next item items o =
    if succeeded o.answer then (change_at W k o.changes (entry_after e next item items o), replied o.answer)
    else (ends W k (entry_failed e o) filestore_rejection, replied o.answer)

-- an item, on the filestore and the free blocks of the moment
abbrev pub act_now : World → Entry → Item → Outcome
act_now W e item = act_item W.config.prefixes W.filestore (free W) e.slot item

abbrev pub step_at : World → ℕ → Entry → ℕ → List Item → World × Reply
step_at W k e next [] = (W, Reply.Idle)
step_at W k e next (item ∷ items) = step_with W k e next item items (act_now W e item)

abbrev pub step_in : Phase → World → ℕ → Entry → World × Reply
step_in (Executing next) W k e = step_at W k e next (drop next e.items)
step_in phase W k e = (W, Reply.Idle)

abbrev pub stepped : World → ℕ → Option Entry → World × Reply
stepped W k None = (W, Reply.Unknown)
stepped W k (Some e) = step_in e.phase W k e
