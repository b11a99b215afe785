-- A reply as the numbers that C sees.
--   bare id kind        one that brings no numbers but its kind and its transaction
--   refusal_fields id refusal  the refusal of a list of filestore requests
--   reported id reply   a reply about a transaction. A reply that says out of memory, or of a full journal, does not go
--                       to C: kind 0
use Rattle.std.specs.Prelude.{ℕ}
use Rattle.cfdp_status.specs.Codes.{octet_of}
use Rattle.cfdp_status.specs.declared.transaction.TransactionId.{TransactionId}
use Rattle.cfdp_verifier.specs.declared.refusal.Place.TheVariants as place
use Rattle.cfdp_verifier.specs.declared.refusal.Refusal.{Refusal}
use Rattle.cfdp_verifier.specs.declared.refusal.Refusal.TheVariants as refusal
use Rattle.cfdp_transactions.specs.declared.reply.Reply.{Reply}
use Rattle.cfdp_transactions.specs.declared.reply.Reply.TheVariants as reply
use Rattle.cfdp_c.specs.Numbers.{reply_none, reply_admitted, reply_refused, reply_stored, reply_dropped, reply_complete, reply_waiting, reply_faulted, reply_performed, reply_installed, reply_finished, reply_cancelled, reply_taken, reply_duplicate, reply_unknown, reply_idle, reply_not_for_us, reply_table_full, refusal_none, refusal_too_many_requests, refusal_bad_destination, refusal_bad_request_path, refusal_conflict, refusal_destination_not_allowed, refusal_would_fail, refusal_too_long, refusal_no_room}
use Rattle.cfdp_c.specs.declared.reply.ReplyFields.{ReplyFields}

abbrev pub bare : TransactionId → ℕ → ReplyFields
bare id kind = record {
  kind = kind;
  refusal = refusal_none;
  blocks = 0;
  steps = 0;
  spare = 0;
  request = 0;
  status = 0;
  condition = 0;
  source = id.source;
  number = id.number;
  other_source = 0;
  other_number = 0;
}

abbrev pub refusal_fields : TransactionId → Refusal → ReplyFields
refusal_fields id refusal.TooManyRequests =
    record (bare id reply_refused) { refusal = refusal_too_many_requests }
refusal_fields id (refusal.BadPath place.Destination) =
    record (bare id reply_refused) { refusal = refusal_bad_destination }
refusal_fields id (refusal.BadPath (place.Request request)) =
    record (bare id reply_refused) { refusal = refusal_bad_request_path; request = request }
refusal_fields id (refusal.Conflict other) = record (bare id reply_refused) {
  refusal = refusal_conflict;
  other_source = other.source;
  other_number = other.number;
}
refusal_fields id refusal.DestinationNotAllowed =
    record (bare id reply_refused) { refusal = refusal_destination_not_allowed }
refusal_fields id (refusal.WouldFail request status) = record (bare id reply_refused) {
  refusal = refusal_would_fail;
  request = request;
  status = octet_of status;
}
refusal_fields id (refusal.TooLong steps) =
    record (bare id reply_refused) { refusal = refusal_too_long; steps = steps }
refusal_fields id (refusal.NoRoom blocks spare) =
    record (bare id reply_refused) { refusal = refusal_no_room; blocks = blocks; spare = spare }

abbrev pub reported : TransactionId → Reply → ReplyFields
reported id (reply.Admitted blocks steps) = record (bare id reply_admitted) { blocks = blocks; steps = steps }
reported id (reply.Refused why) = refusal_fields id why
reported id reply.Stored = bare id reply_stored
reported id reply.Dropped = bare id reply_dropped
reported id reply.Complete = bare id reply_complete
reported id reply.Waiting = bare id reply_waiting
reported id (reply.Faulted condition) = record (bare id reply_faulted) { condition = condition }
reported id (reply.Performed status) = record (bare id reply_performed) { status = octet_of status }
reported id reply.Installed = bare id reply_installed
reported id reply.Done = bare id reply_finished
reported id reply.Cancelled = bare id reply_cancelled
reported id (reply.Taken outcome) = record (bare id reply_taken) { condition = outcome.finished.condition }
reported id reply.Duplicate = bare id reply_duplicate
reported id reply.Unknown = bare id reply_unknown
reported id reply.Idle = bare id reply_idle
reported id reply.NotForUs = bare id reply_not_for_us
reported id reply.TableFull = bare id reply_table_full
reported id reply.Memory = bare id reply_none
reported id reply.JournalFull = bare id reply_none
