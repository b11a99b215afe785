-- The codes of filestore requests and responses, as CCSDS 727.0-B-5 lists them in §5.4.1 (action
-- codes) and §5.4.2 (status codes).
--   beside               what is beside a number in a table
--   actions              the table of action codes
--   status_octets        the table of status octets: action code in the high four bits, status code
--                        in the low four
--   code_of              the code of an action
--   has_second           whether a request for an action has a second file name
--   action_of            the action that a status speaks of
--   is_successful        whether a status says that the request was performed
--   not_allowed_code_of  the status code of 'not allowed', which differs from action to action
--   status_code_of       the status code of a status
--   octet_of             the octet of a status
use Rattle.std.specs.Prelude.{ℕ, ◌+◌, ◌*◌, ◌==◌, if◌then◌else◌, Bool, true, false, List, [], ◌∷◌, Option, Some, None}
use Rattle.cfdp_status.specs.declared.action.Action.{Action}
use Rattle.cfdp_status.specs.declared.action.Action.TheVariants.{CreateFile, DeleteFile, RenameFile, AppendFile, ReplaceFile, CreateDirectory, RemoveDirectory, DenyFile, DenyDirectory}
use Rattle.cfdp_status.specs.declared.status.Status.{Status}
use Rattle.cfdp_status.specs.declared.status.Status.TheVariants.{Successful, NotAllowed, NotPerformed, DeleteAbsent, RenameOldAbsent, RenameNewPresent, AppendFirstAbsent, AppendSecondAbsent, ReplaceFirstAbsent, ReplaceSecondAbsent, RemoveAbsent}

-- what the first row with this number has
abbrev pub beside : {A : Type 0} → List (ℕ × A) → ℕ → Option A
beside [] number = None
beside (row ∷ rows) number = if number == row.0 then Some row.1 else beside rows number

abbrev pub actions : List (ℕ × Action)
actions =
    (0, CreateFile) ∷ (1, DeleteFile) ∷ (2, RenameFile) ∷ (3, AppendFile) ∷ (4, ReplaceFile)
    ∷ (5, CreateDirectory) ∷ (6, RemoveDirectory) ∷ (7, DenyFile) ∷ (8, DenyDirectory) ∷ []

abbrev pub status_octets : List (ℕ × Status)
status_octets =
    (0x00, Successful CreateFile) ∷ (0x01, NotAllowed CreateFile) ∷ (0x0f, NotPerformed CreateFile)
    ∷ (0x10, Successful DeleteFile) ∷ (0x11, DeleteAbsent) ∷ (0x12, NotAllowed DeleteFile) ∷ (
      0x1f,
      NotPerformed DeleteFile,
    )
    ∷ (0x20, Successful RenameFile) ∷ (0x21, RenameOldAbsent) ∷ (0x22, RenameNewPresent) ∷ (
      0x23,
      NotAllowed RenameFile,
    ) ∷ (0x2f, NotPerformed RenameFile)
    ∷ (0x30, Successful AppendFile) ∷ (0x31, AppendFirstAbsent) ∷ (0x32, AppendSecondAbsent) ∷ (
      0x33,
      NotAllowed AppendFile,
    ) ∷ (0x3f, NotPerformed AppendFile)
    ∷ (0x40, Successful ReplaceFile) ∷ (0x41, ReplaceFirstAbsent) ∷ (0x42, ReplaceSecondAbsent) ∷ (
      0x43,
      NotAllowed ReplaceFile,
    ) ∷ (0x4f, NotPerformed ReplaceFile)
    ∷ (0x50, Successful CreateDirectory) ∷ (0x51, NotAllowed CreateDirectory) ∷ (0x5f, NotPerformed CreateDirectory)
    ∷ (0x60, Successful RemoveDirectory) ∷ (0x61, RemoveAbsent) ∷ (0x62, NotAllowed RemoveDirectory) ∷ (
      0x6f,
      NotPerformed RemoveDirectory,
    )
    ∷ (0x70, Successful DenyFile) ∷ (0x72, NotAllowed DenyFile) ∷ (0x7f, NotPerformed DenyFile)
    ∷ (0x80, Successful DenyDirectory) ∷ (0x82, NotAllowed DenyDirectory) ∷ (0x8f, NotPerformed DenyDirectory)
    ∷ []

abbrev pub code_of : Action → ℕ
code_of CreateFile = 0
code_of DeleteFile = 1
code_of RenameFile = 2
code_of AppendFile = 3
code_of ReplaceFile = 4
code_of CreateDirectory = 5
code_of RemoveDirectory = 6
code_of DenyFile = 7
code_of DenyDirectory = 8

abbrev pub has_second : Action → Bool
has_second RenameFile = true
has_second AppendFile = true
has_second ReplaceFile = true
has_second _ = false

abbrev pub action_of : Status → Action
action_of (Successful action) = action
action_of (NotAllowed action) = action
action_of (NotPerformed action) = action
action_of DeleteAbsent = DeleteFile
action_of RenameOldAbsent = RenameFile
action_of RenameNewPresent = RenameFile
action_of AppendFirstAbsent = AppendFile
action_of AppendSecondAbsent = AppendFile
action_of ReplaceFirstAbsent = ReplaceFile
action_of ReplaceSecondAbsent = ReplaceFile
action_of RemoveAbsent = RemoveDirectory

abbrev pub is_successful : Status → Bool
is_successful (Successful action) = true
is_successful _ = false

abbrev pub not_allowed_code_of : Action → ℕ
not_allowed_code_of CreateFile = 1
not_allowed_code_of DeleteFile = 2
not_allowed_code_of RenameFile = 3
not_allowed_code_of AppendFile = 3
not_allowed_code_of ReplaceFile = 3
not_allowed_code_of CreateDirectory = 1
not_allowed_code_of RemoveDirectory = 2
not_allowed_code_of DenyFile = 2
not_allowed_code_of DenyDirectory = 2

abbrev pub status_code_of : Status → ℕ
status_code_of (Successful action) = 0
status_code_of (NotAllowed action) = not_allowed_code_of action
status_code_of (NotPerformed action) = 15
status_code_of DeleteAbsent = 1
status_code_of RenameOldAbsent = 1
status_code_of RenameNewPresent = 2
status_code_of AppendFirstAbsent = 1
status_code_of AppendSecondAbsent = 2
status_code_of ReplaceFirstAbsent = 1
status_code_of ReplaceSecondAbsent = 2
status_code_of RemoveAbsent = 1

abbrev pub octet_of : Status → ℕ
octet_of status = 16 * code_of (action_of status) + status_code_of status
