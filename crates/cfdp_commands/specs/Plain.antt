-- What `plain` does: filestore requests, line by line, on one filestore (CCSDS 727.0-B-5, filestore procedures).
--
--   plain_blocks     the blocks of the filestore
--   PlainState       the filestore, and whether a request of this list was not successful
--   plain_state      what a store and that flag are seen as
--   at_start         an empty filestore, and no such request
--   new_list         the next list on the same filestore
--   outcome_by       what a request by its paths comes to, by the action table with nothing protected; of no paths: not
--                    allowed
--   outcome_on       the same, of the request as it was spelled
--   status_in        the status in an outcome's answer
--   comes_to         the state after an outcome, and the status that answers the request
--   performed_on     the state after a request, and its status: not performed where the list has stopped (when_stopped)
--   answer_to        the state after a line that is not empty, and its text: dropped or answered
--   octets_answer    the state and text of a line's octets; none begin a new list
--   plain_answer     what a line does; one that is no hexadecimal is bad (hex_answer)
--   plain_report     what a whole script writes, and the bad line that ends it, if one does
use Rattle.std.specs.Prelude.{ℕ, ◌-◌, Bool, true, false, not, List, [], ◌∷◌, Option, Some, None, Result, Ok, Err}
use Rattle.cfdp_status.specs.Codes.{is_successful}
use Rattle.cfdp_status.specs.declared.action.Action.{Action}
use Rattle.cfdp_status.specs.declared.status.Status.{Status}
use Rattle.cfdp_status.specs.declared.status.Status.TheVariants.{Successful, NotAllowed, NotPerformed}
use Rattle.cfdp_actions.specs.Filestore.{Filestore, empty_filestore, blocks, after}
use Rattle.cfdp_actions.specs.Actions.{Request, Answer, Performed, Installed, NotInstalled, Outcome, act, refused}
use Rattle.cfdp_actions.specs.Store.{Store}
use Rattle.cfdp_tlv.specs.Values.{RequestFields}
use Rattle.cfdp_verifier.specs.Verdict.{request_by}
use Rattle.cfdp_commands.specs.declared.dropped.DroppedLine.{DroppedLine}
use Rattle.cfdp_lines.specs.Hexadecimal.{hex_octets}
use Rattle.cfdp_lines.specs.Report.{Report, script_report}
use Rattle.cfdp_commands.specs.RequestLines.{request_on, dropped_text, response_line}

-- the blocks of the filestore
abbrev pub plain_blocks : ℕ
plain_blocks = 64

pub record PlainState : Type 0 where
  pub filestore : Filestore
  pub stopped : Bool

-- what a store and a flag are seen as
abbrev pub plain_state : Store → Bool → PlainState
plain_state store stopped = record { filestore = store.filestore; stopped = stopped }

abbrev pub at_start : PlainState
at_start = record { filestore = empty_filestore; stopped = false }

-- an empty line: the next list on the same filestore
abbrev pub new_list : PlainState → PlainState
new_list state = record state { stopped = false }

-- a name that is no path is not allowed
abbrev pub outcome_by : Filestore → Action → Option Request → Outcome
outcome_by F action None = refused (NotAllowed action)
outcome_by F action (Some request) = act [] F (plain_blocks - blocks F) request

abbrev pub outcome_on : Filestore → RequestFields → Outcome
outcome_on F fields = outcome_by F fields.action (request_by fields)

-- the status that answers a request; an install answers none
abbrev pub status_in : Action → Answer → Status
status_in action (Performed status) = status
status_in action Installed = Successful action
status_in action NotInstalled = NotAllowed action

abbrev pub comes_to : Filestore → Outcome → Status → PlainState × Status
comes_to F outcome status = (
  record { filestore = after F outcome.changes; stopped = not (is_successful status) },
  status,
)

abbrev pub when_stopped : Bool → PlainState → RequestFields → PlainState × Status
when_stopped true state fields = (state, NotPerformed fields.action)
when_stopped false state fields =
    let outcome = outcome_on state.filestore fields in
    comes_to state.filestore outcome (status_in fields.action outcome.answer)

-- after a request that was not successful nothing more of the list is performed
abbrev pub performed_on : PlainState → RequestFields → PlainState × Status
performed_on state fields = when_stopped state.stopped state fields

-- what a line brings
abbrev pub answer_to : PlainState → Result RequestFields DroppedLine → PlainState × List ℕ
answer_to state (Err dropped) = (state, dropped_text dropped)
answer_to state (Ok fields) =
    let performed = performed_on state fields in (performed.0, response_line fields performed.1)

-- a line without a pair of digits is empty
abbrev pub octets_answer : PlainState → List ℕ → PlainState × List ℕ
octets_answer state [] = (new_list state, [])
octets_answer state (octet ∷ octets) = answer_to state (request_on (octet ∷ octets))

abbrev pub hex_answer : PlainState → Option (List ℕ) → Option (PlainState × List ℕ)
hex_answer state None = None
hex_answer state (Some octets) = Some (octets_answer state octets)

abbrev pub plain_answer : PlainState → List ℕ → Option (PlainState × List ℕ)
plain_answer state line = hex_answer state (hex_octets line)

abbrev pub plain_report : List ℕ → Report
plain_report script = script_report plain_answer at_start script
