-- Requests in words: an action, and its one or two paths, with spaces between them.
--   action_named   the action that a word names, if it does
--   request_form   how a request for an action is written
--   request_in     the request that a text writes, or the first fault: no word, or one that names no action (Action);
--                  another number of paths than the action has (Paths); a path that is none (FirstPath, SecondPath)
use Rattle.std.specs.Prelude.{ℕ, ◌==◌, ◌||◌, Bool, true, false, if◌then◌else◌, List, [], ◌∷◌, length, Option, Some, None, Result, Ok, Err, bytes_eq, codes}
use Rattle.cfdp_status.specs.Codes.{has_second}
use Rattle.cfdp_status.specs.declared.action.Action.{Action}
use Rattle.cfdp_status.specs.declared.action.Action.TheVariants as actions
use Rattle.cfdp_tlv.specs.Values.{RequestFields}
use Rattle.cfdp_lines.specs.Words.{words_of}
use Rattle.cfdp_plans.specs.Names.{path_octets_in}
use Rattle.cfdp_plans.specs.declared.fault.RequestFault.{RequestFault}
use Rattle.cfdp_plans.specs.declared.fault.RequestFault.TheVariants as faults

unfoldable pub action_named : List ℕ → Option Action
action_named word =
    if bytes_eq word (codes "create-file") then Some actions.CreateFile
    else if bytes_eq word (codes "delete-file") then Some actions.DeleteFile
    else if bytes_eq word (codes "rename") || bytes_eq word (codes "rename-file") then Some actions.RenameFile
    else if bytes_eq word (codes "append") || bytes_eq word (codes "append-file") then Some actions.AppendFile
    else if bytes_eq word (codes "replace") || bytes_eq word (codes "replace-file") then Some actions.ReplaceFile
    else if bytes_eq word (codes "create-directory") then Some actions.CreateDirectory
    else if bytes_eq word (codes "remove-directory") then Some actions.RemoveDirectory
    else if bytes_eq word (codes "deny-file") then Some actions.DenyFile
    else if bytes_eq word (codes "deny-directory") then Some actions.DenyDirectory
    else None

unfoldable pub request_form : Action → List ℕ
request_form actions.CreateFile = codes "create-file PATH"
request_form actions.DeleteFile = codes "delete-file PATH"
request_form actions.RenameFile = codes "rename OLD NEW"
request_form actions.AppendFile = codes "append FILE ADDED"
request_form actions.ReplaceFile = codes "replace FILE BY"
request_form actions.CreateDirectory = codes "create-directory PATH"
request_form actions.RemoveDirectory = codes "remove-directory PATH"
request_form actions.DenyFile = codes "deny-file PATH"
request_form actions.DenyDirectory = codes "deny-directory PATH"

abbrev pub with_one : Action → Option (List ℕ) → Result RequestFields RequestFault
with_one action None = Err faults.FirstPath
with_one action (Some first) = Ok (record { action = action; first = first; second = None })

abbrev pub with_two : Action → Option (List ℕ) → Option (List ℕ) → Result RequestFields RequestFault
with_two action None second = Err faults.FirstPath
with_two action (Some first) None = Err faults.SecondPath
with_two action (Some first) (Some second) = Ok (record { action = action; first = first; second = Some second })

abbrev pub by_count : Bool → Action → List (List ℕ) → Result RequestFields RequestFault
by_count false action (first ∷ []) = with_one action (path_octets_in first)
by_count true action (first ∷ second ∷ []) = with_two action (path_octets_in first) (path_octets_in second)
by_count second action paths = Err (faults.Paths action)

abbrev pub by_action : Option Action → List (List ℕ) → Result RequestFields RequestFault
by_action None paths = Err faults.Action
by_action (Some action) paths = by_count (has_second action) action paths

abbrev pub by_words : List (List ℕ) → Result RequestFields RequestFault
by_words [] = Err faults.Action
by_words (word ∷ paths) = by_action (action_named word) paths

abbrev pub request_in : List ℕ → Result RequestFields RequestFault
request_in text = by_words (words_of text)
