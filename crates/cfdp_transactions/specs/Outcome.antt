-- The outcome of a transaction, as its Finished PDU reports it (CCSDS 727.0-B-5 §5.2.3, filestore responses §5.4.2).
--     condition_of              the condition code: filestore rejection for a list that was refused
--     file_status_of            the file status: unreported where there is no file
--     responses_of              one response for each request, in order
--     fault_location_of         the fault location: who is at fault
--     finished, outcome_of
use Rattle.std.specs.Prelude.{ℕ, Bool, true, false, not, ◌||◌, ◌==◌, if◌then◌else◌, List, [], ◌∷◌, Option, Some, None}
use Rattle.cfdp_status.specs.declared.status.Status.{Status}
use Rattle.cfdp_status.specs.declared.status.Status.TheVariants.{NotPerformed}
use Rattle.cfdp_tlv.specs.Values.{RequestFields, ResponseFields}
use Rattle.cfdp_pdus.specs.Values.{FinishedFields}
use Rattle.cfdp_pdus.specs.Codes.{no_error, filestore_rejection, unsupported_checksum_type, file_discarded, file_rejected, file_retained, file_unreported}
use Rattle.cfdp_transactions.specs.Entry.{Phase, Refused, Ended, Entry, has_file}
use Rattle.cfdp_transactions.specs.Events.{Outcome}

abbrev pub condition_of : Phase → ℕ
condition_of Refused = filestore_rejection
condition_of (Ended condition) = condition
condition_of phase = no_error

abbrev pub is_refused : Phase → Bool
is_refused Refused = true
is_refused phase = false

abbrev pub file_status_of : Entry → ℕ
file_status_of e =
    if not (has_file e.metadata) then file_unreported
    else if e.installed then file_retained
    else if is_refused e.phase then file_rejected
    else file_discarded

-- the names as they were spelled, and no message
abbrev pub answered : RequestFields → Status → ResponseFields
answered r s = record { status = s; first = r.first; second = r.second; message = [] }

-- a request without a status was not performed
abbrev pub responses_of : List RequestFields → List Status → List ResponseFields
responses_of [] ss = []
responses_of (r ∷ rs) [] = answered r (NotPerformed r.action) ∷ responses_of rs []
responses_of (r ∷ rs) (s ∷ ss) = answered r s ∷ responses_of rs ss

-- nobody, where the condition is 'no error' or 'unsupported checksum type'
abbrev pub fault_location_of : Entry → Option ℕ
fault_location_of e =
    if (condition_of e.phase == no_error) || (condition_of e.phase == unsupported_checksum_type) then None
    else if e.ended_by_eof then Some e.header.source
    else Some e.header.destination

abbrev pub finished : Entry → FinishedFields
finished e = record {
  condition = condition_of e.phase;
  incomplete = not e.complete;
  file_status = file_status_of e;
  responses = responses_of e.metadata.requests e.statuses;
  fault = fault_location_of e;
}

-- in unacknowledged mode it is sent where closure was requested
abbrev pub outcome_of : Entry → Outcome
outcome_of e = record {
  header = record e.header { toward_sender = true };
  finished = finished e;
  send = e.header.acknowledged || e.metadata.closure;
}
