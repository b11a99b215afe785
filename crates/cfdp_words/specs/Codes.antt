-- The codes of CFDP in the standard's words.
--   condition_words      a condition code (CCSDS 727.0-B-5 §5.2.2)
--   checksum_words       a checksum type
--   file_status_words    a file status (§5.2.3)
--   directive_words      a directive code (§5.2)
--   action_words         the action of a filestore request (§5.4.1)
--   status_words         the status of a filestore response (§5.4.2)
--   transaction_words    a transaction status (§5.2.4)
use Rattle.std.specs.Prelude.{ℕ, List, [], ◌∷◌, ◌==◌, if◌then◌else◌, codes}
use Rattle.cfdp_status.specs.declared.action.Action.{Action}
use Rattle.cfdp_status.specs.declared.action.Action.TheVariants as actions
use Rattle.cfdp_status.specs.declared.status.Status.{Status}
use Rattle.cfdp_status.specs.declared.status.Status.TheVariants as statuses
use Rattle.cfdp_pdus.specs.Codes.{no_error, positive_ack_limit_reached, keep_alive_limit_reached, invalid_transmission_mode, filestore_rejection, file_checksum_failure, file_size_error, nak_limit_reached, inactivity_detected, invalid_file_structure, check_limit_reached, unsupported_checksum_type, suspend_request_received, cancel_request_received, eof_code, finished_code, ack_code, metadata_code, nak_code, prompt_code, keep_alive_code, file_discarded, file_rejected, file_retained, modular_checksum_type, proximity_1_crc_32_type, crc_32c_type, ieee_802_3_crc_32_type, null_checksum_type}
use Rattle.cfdp_directives.specs.declared.ack.TransactionStatus.{TransactionStatus}
use Rattle.cfdp_directives.specs.declared.ack.TransactionStatus.TheVariants as transactions

-- the words beside a number, or those for any other
abbrev pub words_in : List (ℕ × List ℕ) → List ℕ → ℕ → List ℕ
words_in [] other code = other
words_in (row ∷ rows) other code = if code == row.0 then row.1 else words_in rows other code

abbrev pub reserved_words : List ℕ
reserved_words = codes "reserved"

abbrev pub conditions : List (ℕ × List ℕ)
conditions =
    (no_error, codes "No error")
    ∷ (positive_ack_limit_reached, codes "Positive ACK limit reached")
    ∷ (keep_alive_limit_reached, codes "Keep alive limit reached")
    ∷ (invalid_transmission_mode, codes "Invalid transmission mode")
    ∷ (filestore_rejection, codes "Filestore rejection")
    ∷ (file_checksum_failure, codes "File checksum failure")
    ∷ (file_size_error, codes "File size error")
    ∷ (nak_limit_reached, codes "NAK limit reached")
    ∷ (inactivity_detected, codes "Inactivity detected")
    ∷ (invalid_file_structure, codes "Invalid file structure")
    ∷ (check_limit_reached, codes "Check limit reached")
    ∷ (unsupported_checksum_type, codes "Unsupported checksum type")
    ∷ (suspend_request_received, codes "Suspend.request received")
    ∷ (cancel_request_received, codes "Cancel.request received")
    ∷ []

abbrev pub condition_words : ℕ → List ℕ
condition_words code = words_in conditions reserved_words code

-- those of the registry for checksum types
abbrev pub checksums : List (ℕ × List ℕ)
checksums =
    (modular_checksum_type, codes "modular")
    ∷ (proximity_1_crc_32_type, codes "Proximity-1 CRC-32")
    ∷ (crc_32c_type, codes "CRC-32C")
    ∷ (ieee_802_3_crc_32_type, codes "CRC-32 of IEEE 802.3")
    ∷ (null_checksum_type, codes "null")
    ∷ []

abbrev pub checksum_words : ℕ → List ℕ
checksum_words code = words_in checksums reserved_words code

abbrev pub file_statuses : List (ℕ × List ℕ)
file_statuses =
    (file_discarded, codes "Discarded deliberately")
    ∷ (file_rejected, codes "Discarded due to filestore rejection")
    ∷ (file_retained, codes "Retained in filestore successfully")
    ∷ []

abbrev pub file_status_words : ℕ → List ℕ
file_status_words code = words_in file_statuses (codes "File status unreported") code

abbrev pub directives : List (ℕ × List ℕ)
directives =
    (eof_code, codes "EOF")
    ∷ (finished_code, codes "Finished")
    ∷ (ack_code, codes "ACK")
    ∷ (metadata_code, codes "Metadata")
    ∷ (nak_code, codes "NAK")
    ∷ (prompt_code, codes "Prompt")
    ∷ (keep_alive_code, codes "Keep Alive")
    ∷ []

abbrev pub directive_words : ℕ → List ℕ
directive_words code = words_in directives reserved_words code

abbrev pub action_words : Action → List ℕ
action_words actions.CreateFile = codes "Create File"
action_words actions.DeleteFile = codes "Delete File"
action_words actions.RenameFile = codes "Rename File"
action_words actions.AppendFile = codes "Append File"
action_words actions.ReplaceFile = codes "Replace File"
action_words actions.CreateDirectory = codes "Create Directory"
action_words actions.RemoveDirectory = codes "Remove Directory"
action_words actions.DenyFile = codes "Deny File"
action_words actions.DenyDirectory = codes "Deny Directory"

-- the directory that cannot be created has words of its own
abbrev pub not_allowed_words : Action → List ℕ
not_allowed_words actions.CreateFile = codes "Create not allowed"
not_allowed_words actions.DeleteFile = codes "Delete not allowed"
not_allowed_words actions.RenameFile = codes "Rename not allowed"
not_allowed_words actions.AppendFile = codes "Append not allowed"
not_allowed_words actions.ReplaceFile = codes "Replace not allowed"
not_allowed_words actions.CreateDirectory = codes "Directory cannot be created"
not_allowed_words actions.RemoveDirectory = codes "Delete not allowed"
not_allowed_words actions.DenyFile = codes "Delete not allowed"
not_allowed_words actions.DenyDirectory = codes "Delete not allowed"

abbrev pub status_words : Status → List ℕ
status_words (statuses.Successful action) = codes "Successful"
status_words (statuses.NotAllowed action) = not_allowed_words action
status_words (statuses.NotPerformed action) = codes "Not performed"
status_words statuses.DeleteAbsent = codes "File does not exist"
status_words statuses.RenameOldAbsent = codes "Old File Name does not exist"
status_words statuses.RenameNewPresent = codes "New File Name already exists"
status_words statuses.AppendFirstAbsent = codes "File Name 1 does not exist"
status_words statuses.AppendSecondAbsent = codes "File Name 2 does not exist"
status_words statuses.ReplaceFirstAbsent = codes "File Name 1 does not exist"
status_words statuses.ReplaceSecondAbsent = codes "File Name 2 does not exist"
status_words statuses.RemoveAbsent = codes "Directory does not exist"

abbrev pub transaction_words : TransactionStatus → List ℕ
transaction_words transactions.Undefined = codes "Undefined"
transaction_words transactions.Active = codes "Active"
transaction_words transactions.Terminated = codes "Terminated"
transaction_words transactions.Unrecognized = codes "Unrecognized"
