-- What is said of a verdict on a list of filestore requests, in words.
--     with_commas digits    digits with a comma before each three of them, from the last one
--     grouped n             a number in decimal, with these commas
--     counted n one many    a number, and what is counted: one of it, or many
--     verb_of, word_between  an action in words;  the word between its two names
--     acted                 an action in words, with its names
--     request_words r       a request
--     numbered i r          the request with this index, by its number, which counts from 1
--     said_of_name          a name, and what is said of it
--     absent                that nothing exists at a path
--     not_allowed           why the filestore does not allow an action
--     cause_of              why a request has a status
--     status_in_brackets    a status, in brackets
--     bad_path_words, failure_words, many_words, long_words, room_words, refusal_words      why a list is refused
--     grant_words, verdict_words      what is granted;  a verdict
--     verdict_line          the line of a verdict, with the name of the transaction
use Rattle.std.specs.Prelude.{ℕ, ◌+◌, ◌%◌, ◌==◌, ◌&&◌, nat_lt, if◌then◌else◌, List, [], ◌∷◌, ◌++◌, length, Option, Some, None, unwrap_or, codes, decimal}
use Rattle.std.specs.List.{slice_get}
use Rattle.cfdp_status.specs.Codes.{octet_of}
use Rattle.cfdp_status.specs.Transaction.{transaction_name}
use Rattle.cfdp_status.specs.declared.action.Action.{Action}
use Rattle.cfdp_status.specs.declared.action.Action.TheVariants as action
use Rattle.cfdp_status.specs.declared.status.Status.{Status}
use Rattle.cfdp_status.specs.declared.status.Status.TheVariants.{Successful, NotAllowed, NotPerformed, DeleteAbsent, RenameOldAbsent, RenameNewPresent, AppendFirstAbsent, AppendSecondAbsent, ReplaceFirstAbsent, ReplaceSecondAbsent, RemoveAbsent}
use Rattle.cfdp_status.specs.declared.transaction.TransactionId.{TransactionId}
use Rattle.cfdp_tlv.specs.Values.{RequestFields}
use Rattle.cfdp_verifier.specs.Verdict.{Proposal, Verdict, Refuse, Grant}
use Rattle.cfdp_verifier.specs.declared.refusal.Place.{Place}
use Rattle.cfdp_verifier.specs.declared.refusal.Place.TheVariants as place
use Rattle.cfdp_verifier.specs.declared.refusal.Refusal.{Refusal}
use Rattle.cfdp_verifier.specs.declared.refusal.Refusal.TheVariants.{TooManyRequests, BadPath, Conflict, DestinationNotAllowed, WouldFail, TooLong, NoRoom}
use Rattle.cfdp_texts.specs.Replies.{labelled, line, word, two_digits, shown}

-- numbers and names ------------------------------------------------------------------

unfoldable pub with_commas : List ℕ → List ℕ
with_commas [] = []
with_commas (digit ∷ digits) =
    if nat_lt 0 (length digits) && (length digits % 3 == 0) then digit ∷ 44 ∷ with_commas digits
    else digit ∷ with_commas digits

unfoldable pub grouped : ℕ → List ℕ
grouped n = with_commas (decimal n)

unfoldable pub counted : ℕ → (one many : List ℕ) → List ℕ
counted n one many = grouped n ++ (if n == 1 then one else many)

-- requests ---------------------------------------------------------------------------

unfoldable pub verb_of : Action → List ℕ
verb_of action.CreateFile = codes "create-file "
verb_of action.DeleteFile = codes "delete-file "
verb_of action.RenameFile = codes "rename "
verb_of action.AppendFile = codes "append "
verb_of action.ReplaceFile = codes "replace "
verb_of action.CreateDirectory = codes "create-directory "
verb_of action.RemoveDirectory = codes "remove-directory "
verb_of action.DenyFile = codes "deny-file "
verb_of action.DenyDirectory = codes "deny-directory "

-- in the order in which the names are sent
unfoldable pub word_between : Action → List ℕ
word_between action.AppendFile = codes " with "
word_between action.ReplaceFile = codes " by "
word_between other = codes " to "

abbrev pub second_words : Action → Option (List ℕ) → List ℕ
second_words action None = []
second_words action (Some second) = word_between action ++ shown second

unfoldable pub acted : Action → (first : List ℕ) → (second : Option (List ℕ)) → List ℕ
acted action first second = verb_of action ++ shown first ++ second_words action second

abbrev pub request_words : RequestFields → List ℕ
request_words r = acted r.action r.first r.second

-- no list has fewer requests than a verdict on it says
unfoldable pub numbered : ℕ → Option RequestFields → List ℕ
numbered index None = labelled (codes "request ") (index + 1)
numbered index (Some r) = labelled (codes "request ") (index + 1) ++ codes ", " ++ request_words r

-- why a request has a status (CCSDS 727.0-B-5 §5.4.2) ------------------------------------

unfoldable pub said_of_name : (name text : List ℕ) → List ℕ
said_of_name name text = shown name ++ text

unfoldable pub absent : List ℕ → List ℕ
absent name = said_of_name name (codes " does not exist")

unfoldable pub rename_not_allowed : (first second : List ℕ) → List ℕ
rename_not_allowed first second =
    said_of_name second (codes " has no directory above it or more than 8 names, or is below ")
    ++ said_of_name first (codes "; or ")
    ++ said_of_name first (codes " is protected, or above what is")

unfoldable pub octets_not_allowed : (first second : List ℕ) → List ℕ
octets_not_allowed first second =
    said_of_name first (codes " or ") ++ said_of_name second (codes " is a directory, or ")
    ++ said_of_name first (codes " is protected")

unfoldable pub not_allowed : Action → (first second : List ℕ) → List ℕ
not_allowed action.CreateFile first second = said_of_name first (codes " exists, or has no directory above it")
not_allowed action.DeleteFile first second = said_of_name first (codes " is a directory, or protected")
not_allowed action.RenameFile first second = rename_not_allowed first second
not_allowed action.AppendFile first second = octets_not_allowed first second
not_allowed action.ReplaceFile first second = octets_not_allowed first second
not_allowed action.CreateDirectory first second = said_of_name first (codes " exists, or has no directory above it")
not_allowed action.RemoveDirectory first second = said_of_name first (codes " is a file, has entries, or is protected")
not_allowed action.DenyFile first second = said_of_name first (codes " is a directory, or protected")
not_allowed action.DenyDirectory first second = said_of_name first (codes " is a file, has entries, or is protected")

-- by its names; the first two say nothing of a request that fails
unfoldable pub cause_of : Status → (first second : List ℕ) → List ℕ
cause_of (Successful action) first second = codes "it is successful"
cause_of (NotPerformed action) first second = codes "it is not performed"
cause_of (NotAllowed action) first second = not_allowed action first second
cause_of DeleteAbsent first second = absent first
cause_of RenameOldAbsent first second = absent first
cause_of RenameNewPresent first second = said_of_name second (codes " exists")
cause_of AppendFirstAbsent first second = absent first
cause_of AppendSecondAbsent first second = absent second
cause_of ReplaceFirstAbsent first second = absent first
cause_of ReplaceSecondAbsent first second = absent second
cause_of RemoveAbsent first second = absent first

-- verdicts ---------------------------------------------------------------------------

abbrev pub first_of : Option RequestFields → List ℕ
first_of None = []
first_of (Some r) = r.first

abbrev pub second_name_of : Option RequestFields → List ℕ
second_name_of None = []
second_name_of (Some r) = unwrap_or r.second []

unfoldable pub destination_words : Proposal → List ℕ
destination_words P = codes "the destination " ++ shown (unwrap_or P.destination [])

unfoldable pub bad_path_words : Place → Proposal → List ℕ
bad_path_words place.Destination P = destination_words P ++ codes ": it is no path of the filestore"
bad_path_words (place.Request i) P = numbered i (slice_get P.requests i)
    ++ codes ": a name of it is no path of the filestore"

unfoldable pub status_in_brackets : Status → List ℕ
status_in_brackets status = codes " (status " ++ two_digits (octet_of status) ++ codes ")"

unfoldable pub failure_words : ℕ → Status → Option RequestFields → List ℕ
failure_words i status r = numbered i r ++ codes ": " ++ cause_of status (first_of r) (second_name_of r)
    ++ status_in_brackets status

unfoldable pub many_words : ℕ → List ℕ
many_words requests = grouped requests ++ codes " requests, and a list may have at most 64"

unfoldable pub long_words : ℕ → List ℕ
long_words steps = codes "it may take " ++ grouped steps ++ codes " steps, and 65,536 are granted at most"

unfoldable pub room_words : (wanted spare : ℕ) → List ℕ
room_words wanted spare =
    codes "it needs " ++ counted wanted (codes " block") (codes " blocks") ++ codes ", and "
    ++ counted spare (codes " is") (codes " are")
    ++ codes " to spare"

unfoldable pub refusal_words : Refusal → Proposal → List ℕ
refusal_words TooManyRequests P = many_words (length P.requests)
refusal_words (BadPath at) P = bad_path_words at P
refusal_words (Conflict id) P = codes "transaction " ++ transaction_name id ++ codes " uses a path of it"
refusal_words DestinationNotAllowed P =
    destination_words P ++ codes ": it has no directory above it, is a directory, or is protected"
refusal_words (WouldFail i status) P = failure_words i status (slice_get P.requests i)
refusal_words (TooLong steps) P = long_words steps
refusal_words (NoRoom wanted spare) P = room_words wanted spare

unfoldable pub grant_words : (blocks steps : ℕ) → List ℕ
grant_words blocks steps = counted blocks (codes " block") (codes " blocks") ++ codes ", "
    ++ counted steps (codes " step") (codes " steps")

unfoldable pub verdict_words : Verdict → Proposal → List ℕ
verdict_words (Refuse refusal) P = codes "refused: " ++ refusal_words refusal P
verdict_words (Grant items blocks steps) P = codes "admitted: " ++ grant_words blocks steps

abbrev pub verdict_line : TransactionId → Verdict → Proposal → List ℕ
verdict_line id verdict P = line (transaction_name id ++ word (verdict_words verdict P))
