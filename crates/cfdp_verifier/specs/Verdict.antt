-- The verdict on a list of filestore requests, before its transaction begins: what is refused, and what is granted.
-- (The filestore procedures of CCSDS 727.0-B-5 perform the requests once the file is there; that they are judged before
-- is this project's own.)
--     Proposal                  a list as it was sent, with its file's destination and the bound of its length
--     Verdict                   why it is refused (a Refusal, which may name a Place), or what it is granted
--     named, request_named      the path of a second name;  a request of its paths;  request_by: of its names
--     Parsed, parsed P          its items, or the first name that is no path: parsed_from (and_then_parsed) goes
--                               through the requests, and with_destination (with_file) puts the install before them
--     first_failure i answers   the first request that is not successful, counted from i
--     destination_allowed       whether the file may be installed as things are
--     capped                    a number as 32 bits carry it
--     verdict prefixes F leases spare P      by the number of requests; verdict_of: by the names; judged_apart: by the
--                                            leases and the
--                               install; judged: by the first failure, the steps and the blocks
use Rattle.std.specs.Prelude.{ℕ, ◌+◌, min, Bool, true, if◌then◌else◌, nat_lt, List, [], ◌∷◌, length, replicate, Option, Some, None}
use Rattle.cfdp_status.specs.declared.action.Action.{Action}
use Rattle.cfdp_status.specs.declared.action.Action.TheVariants as action
use Rattle.cfdp_status.specs.declared.status.Status.{Status}
use Rattle.cfdp_status.specs.declared.transaction.TransactionId.{TransactionId}
use Rattle.cfdp_status.specs.Codes.{is_successful}
use Rattle.cfdp_paths.specs.Paths.{Path, path_of}
use Rattle.cfdp_actions.specs.Filestore.{Filestore}
use Rattle.cfdp_actions.specs.Actions.{Request, CreateFile, DeleteFile, RenameFile, AppendFile, ReplaceFile, CreateDirectory, RemoveDirectory, DenyFile, DenyDirectory, Item, Install, Perform, Answer, Performed, Installed, NotInstalled, succeeded, row}
use Rattle.cfdp_leases.specs.Footprint.{footprint_of}
use Rattle.cfdp_leases.specs.Leases.{Grants, first_conflict}
use Rattle.cfdp_states.specs.Alone.{alone, statuses_alone, need_alone, steps_alone}
use Rattle.cfdp_tlv.specs.Values.{RequestFields}
pub use Rattle.cfdp_verifier.specs.declared.refusal.Place.{Place}
pub use Rattle.cfdp_verifier.specs.declared.refusal.Place.TheVariants.{Destination}
use Rattle.cfdp_verifier.specs.declared.refusal.Place.TheVariants as places
pub use Rattle.cfdp_verifier.specs.declared.refusal.Refusal.{Refusal}
pub use Rattle.cfdp_verifier.specs.declared.refusal.Refusal.TheVariants.{TooManyRequests, BadPath, Conflict, DestinationNotAllowed, WouldFail, TooLong, NoRoom}

-- no destination: no file, and the bound is 0
pub record Proposal : Type 0 where
  pub destination : Option (List ℕ)
  pub bound : ℕ
  pub requests : List RequestFields

-- a grant has the items, and how many blocks and steps they may take
pub data Verdict : Type 0 where
  Refuse : Refusal → Verdict
  Grant : List Item → ℕ → ℕ → Verdict

-- names and paths ----------------------------------------------------------------

pub data Parsed : Type 0 where
  Bad : Place → Parsed
  Good : List Item → Parsed

abbrev pub named : Option (List ℕ) → Option Path
named None = None
named (Some octets) = path_of octets

-- a request of its paths; None where one of its names is no path
abbrev pub request_named : Action → Option Path → Option Path → Option Request
request_named action.CreateFile (Some p) q = Some (CreateFile p)
request_named action.DeleteFile (Some p) q = Some (DeleteFile p)
request_named action.RenameFile (Some p) (Some q) = Some (RenameFile p q)
request_named action.AppendFile (Some p) (Some q) = Some (AppendFile p q)
request_named action.ReplaceFile (Some p) (Some q) = Some (ReplaceFile p q)
request_named action.CreateDirectory (Some p) q = Some (CreateDirectory p)
request_named action.RemoveDirectory (Some p) q = Some (RemoveDirectory p)
request_named action.DenyFile (Some p) q = Some (DenyFile p)
request_named action.DenyDirectory (Some p) q = Some (DenyDirectory p)
request_named action p q = None

-- a request by what its names spell
abbrev pub request_by : RequestFields → Option Request
request_by r = request_named r.action (path_of r.first) (named r.second)

abbrev pub and_then_parsed : Option Request → ℕ → Parsed → Parsed
and_then_parsed None i rest = Bad (places.Request i)
and_then_parsed (Some r) i (Bad place) = Bad place
and_then_parsed (Some r) i (Good items) = Good (Perform r ∷ items)

-- the first name that is no path, from the left, or the items; requests count from i
abbrev pub parsed_from : ℕ → List RequestFields → Parsed
parsed_from i [] = Good []
parsed_from i (r ∷ rs) = and_then_parsed (request_by r) i (parsed_from (i + 1) rs)

abbrev pub with_file : Option Path → Parsed → Parsed
with_file None parsed = Bad Destination
with_file (Some p) (Bad place) = Bad place
with_file (Some p) (Good items) = Good (Install p ∷ items)

abbrev pub with_destination : Option (List ℕ) → Parsed → Parsed
with_destination None parsed = parsed
with_destination (Some octets) parsed = with_file (path_of octets) parsed

abbrev pub parsed : Proposal → Parsed
parsed P = with_destination P.destination (parsed_from 0 P.requests)

-- what is in the way -------------------------------------------------------------

-- the first request that is not successful; the install is no request
abbrev pub first_failure : ℕ → List Answer → Option (ℕ × Status)
first_failure i [] = None
first_failure i (Performed s ∷ rest) = if is_successful s then first_failure (i + 1) rest else Some (i, s)
first_failure i (Installed ∷ rest) = first_failure i rest
first_failure i (NotInstalled ∷ rest) = first_failure i rest

abbrev pub destination_allowed : List Path → Filestore → List Item → Bool
destination_allowed prefixes F (Install p ∷ items) = succeeded (row prefixes F 0 (Install p)).answer
destination_allowed prefixes F items = true

-- the verdict --------------------------------------------------------------------

-- carried in 32 bits
abbrev pub capped : ℕ → ℕ
capped n = min n 4294967295

-- of items without a conflict whose destination is allowed, by their first failure, Need and Steps alone
abbrev pub judged_items : ℕ → List Item → Option (ℕ × Status) → ℕ → ℕ → Verdict
judged_items spare items (Some f) needed steps = Refuse (WouldFail f.0 f.1)
judged_items spare items None needed steps =
    if nat_lt 65536 steps then Refuse (TooLong (capped steps))
    else if nat_lt spare needed then Refuse (NoRoom (capped needed) (capped spare))
    else Grant items needed steps

abbrev pub judged_apart : List Path → Filestore → ℕ → List ℕ → List Item → Option TransactionId → Verdict
judged_apart prefixes F spare x items (Some id) = Refuse (Conflict id)
judged_apart prefixes F spare x items None =
    if destination_allowed prefixes (alone F x) items
    then judged_items spare items (first_failure 0 (statuses_alone prefixes F x items)) (need_alone prefixes F x items)
    (steps_alone prefixes F x items)
    else Refuse DestinationNotAllowed

abbrev pub verdict_of : List Path → Filestore → Grants → ℕ → Proposal → Parsed → Verdict
verdict_of prefixes F leases spare P (Bad place) = Refuse (BadPath place)
verdict_of prefixes F leases spare P (Good items) = judged_apart prefixes F spare (replicate P.bound 0) items
    (first_conflict leases (footprint_of items))

abbrev pub verdict : List Path → Filestore → Grants → ℕ → Proposal → Verdict
verdict prefixes F leases spare P = if nat_lt 64 (length P.requests) then Refuse TooManyRequests
    else verdict_of prefixes F leases spare P (parsed P)
