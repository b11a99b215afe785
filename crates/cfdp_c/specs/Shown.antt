-- The text of a reply that C has as numbers: the line that `replay` writes of it.
--   small n                   a number that is an octet
--   status_numbered, refusal_in, reply_in  the status, the refusal and the reply of these numbers, where there is one;
--                                      an outcome is none of them
--   reply_shown fields octets  the line of a reply, where there is such a reply; that of an outcome with the octets of
--                             its Finished PDU
--   HasWidths fields          the numbers fit the struct's fields, as those that C passes do
--   longest_line octets       how many octets the line of a reply has at most, by those of the Finished PDU
--   answer_line answer        the line of octets that brought no event, by what was answered of them
--   with_end_mark text out    a buffer with a text at its beginning, and a 0 after it where there is room
--   PutsText text             a text is written so, and its length returned; or it does not fit
--   Writes text               likewise, where there is a text, or there is no memory for it
--   IsReported reply          a reply that goes to C, and whose numbers are octets where they are to be
--   ShownAsReplayed           each such reply is shown as `replay` writes it
use Rattle.std.specs.Prelude.{◌≡◌, ◌⊎◌, ⊤, ℕ, ◌+◌, ◌*◌, ◌^◌, max, ◌<◌, ◌≤◌, ◌==◌, nat_lt, if◌then◌else◌, List, [], ◌∷◌, ◌++◌, drop, length, Option, Some, None}
use Rattle.std.specs.Option.{option_map, option_and_then, option_flatten}
use Rattle.cfdp_status.specs.Codes.{beside, status_octets}
use Rattle.cfdp_status.specs.Transaction.{transaction_name}
use Rattle.cfdp_status.specs.declared.status.Status.{Status}
use Rattle.cfdp_status.specs.declared.transaction.TransactionId.{TransactionId}
use Rattle.cfdp_pdus.specs.declared.fault.PduFault.TheVariants as fault
use Rattle.cfdp_verifier.specs.declared.refusal.Place.TheVariants as place
use Rattle.cfdp_verifier.specs.declared.refusal.Refusal.{Refusal}
use Rattle.cfdp_verifier.specs.declared.refusal.Refusal.TheVariants as refusal
use Rattle.cfdp_transactions.specs.declared.reply.Reply.{Reply}
use Rattle.cfdp_transactions.specs.declared.reply.Reply.TheVariants as reply
use Rattle.cfdp_texts.specs.Replies.{fault_line, line, not_ours, reply_line, taken_text, word}
use Rattle.cfdp_entity.specs.Sending.{sent}
use Rattle.cfdp_c.specs.Answers.{answer_code}
use Rattle.cfdp_c.specs.Calls.{transaction_named}
use Rattle.cfdp_c.specs.Numbers.{reply_admitted, reply_refused, reply_stored, reply_dropped, reply_complete, reply_waiting, reply_faulted, reply_performed, reply_installed, reply_finished, reply_cancelled, reply_taken, reply_duplicate, reply_unknown, reply_idle, reply_not_for_us, reply_table_full, refusal_too_many_requests, refusal_bad_destination, refusal_bad_request_path, refusal_conflict, refusal_destination_not_allowed, refusal_would_fail, refusal_too_long, refusal_no_room}
use Rattle.cfdp_c.specs.Reported.{reported}
use Rattle.cfdp_c.specs.declared.answer.CallAnswer.TheVariants.{Done, Memory, Nothing, TooShort, NotOurs, Truncated, BadVersion, CrcNotSupported, LengthMismatch, BadDirective, BadTlv, RequestTooLong}
use Rattle.cfdp_c.specs.declared.reply.ReplyFields.{ReplyFields}

abbrev pub small : ℕ → Option ℕ
small n = if nat_lt n 256 then Some n else None

abbrev pub status_numbered : ℕ → Option Status
status_numbered n = option_and_then (beside status_octets) (small n)

abbrev pub failure_in : ReplyFields → Option Refusal
failure_in fields = option_and_then (λ request. option_map (λ status. refusal.WouldFail request status)
    (status_numbered fields.status)) (small fields.request)

abbrev pub refusals : ReplyFields → List (ℕ × Option Refusal)
refusals fields =
    (refusal_too_many_requests, Some refusal.TooManyRequests)
    ∷ (refusal_bad_destination, Some (refusal.BadPath place.Destination))
    ∷ (refusal_bad_request_path, option_map (λ request. refusal.BadPath (place.Request request)) (small fields.request))
    ∷ (refusal_conflict, Some (refusal.Conflict (transaction_named fields.other_source fields.other_number)))
    ∷ (refusal_destination_not_allowed, Some refusal.DestinationNotAllowed)
    ∷ (refusal_would_fail, failure_in fields)
    ∷ (refusal_too_long, Some (refusal.TooLong fields.steps))
    ∷ (refusal_no_room, Some (refusal.NoRoom fields.blocks fields.spare))
    ∷ []

abbrev pub refusal_in : ReplyFields → Option Refusal
refusal_in fields = option_flatten (beside (refusals fields) fields.refusal)

abbrev pub reply_table : ReplyFields → List (ℕ × Option Reply)
reply_table fields =
    (reply_admitted, Some (reply.Admitted fields.blocks fields.steps))
    ∷ (reply_refused, option_map (λ why. reply.Refused why) (refusal_in fields))
    ∷ (reply_stored, Some reply.Stored)
    ∷ (reply_dropped, Some reply.Dropped)
    ∷ (reply_complete, Some reply.Complete)
    ∷ (reply_waiting, Some reply.Waiting)
    ∷ (reply_faulted, option_map (λ condition. reply.Faulted condition) (small fields.condition))
    ∷ (reply_performed, option_map (λ status. reply.Performed status) (status_numbered fields.status))
    ∷ (reply_installed, Some reply.Installed)
    ∷ (reply_finished, Some reply.Done)
    ∷ (reply_cancelled, Some reply.Cancelled)
    ∷ (reply_duplicate, Some reply.Duplicate)
    ∷ (reply_unknown, Some reply.Unknown)
    ∷ (reply_idle, Some reply.Idle)
    ∷ (reply_not_for_us, Some reply.NotForUs)
    ∷ (reply_table_full, Some reply.TableFull)
    ∷ []

abbrev pub reply_in : ReplyFields → Option Reply
reply_in fields = option_flatten (beside (reply_table fields) fields.kind)

abbrev pub reply_shown : ReplyFields → List ℕ → Option (List ℕ)
reply_shown fields octets =
    if fields.kind == reply_taken then Some (line (transaction_name (transaction_named fields.source fields.number)
    ++ word (taken_text octets fields.condition)))
    else option_map (reply_line (transaction_named fields.source fields.number)) (reply_in fields)

-- two digits for each; or a refusal for a conflict, with the names of two transactions
abbrev pub longest_line : ℕ → ℕ
longest_line octets = max 101 (52 + 2 * octets)

-- each number is as wide as C's type has it
pub record HasWidths (fields : ReplyFields) : Type 0 where
  pub blocks : fields.blocks < 2 ^ 32
  pub steps : fields.steps < 2 ^ 32
  pub spare : fields.spare < 2 ^ 32
  pub condition : fields.condition < 2 ^ 32
  pub source : fields.source < 2 ^ 64
  pub number : fields.number < 2 ^ 64
  pub other_source : fields.other_source < 2 ^ 64
  pub other_number : fields.other_number < 2 ^ 64

abbrev pub answer_lines : List (ℕ × List ℕ)
answer_lines =
    (answer_code NotOurs, not_ours)
    ∷ (answer_code Truncated, fault_line fault.Truncated)
    ∷ (answer_code BadVersion, fault_line fault.BadVersion)
    ∷ (answer_code CrcNotSupported, fault_line fault.CrcNotSupported)
    ∷ (answer_code LengthMismatch, fault_line fault.LengthMismatch)
    ∷ (answer_code BadDirective, fault_line fault.BadDirective)
    ∷ (answer_code BadTlv, fault_line fault.BadTlv)
    ∷ (answer_code RequestTooLong, fault_line fault.RequestTooLong)
    ∷ []

abbrev pub answer_line : ℕ → Option (List ℕ)
answer_line answer = beside answer_lines answer

abbrev pub with_end : List ℕ → List ℕ
with_end [] = []
with_end (octet ∷ rest) = 0 ∷ rest

abbrev pub with_end_mark : List ℕ → List ℕ → List ℕ
with_end_mark text out = text ++ with_end (drop (length text) out)

abbrev pub PutsText : List ℕ → List ℕ → List ℕ → ℕ → ℕ → Type 0
PutsText text out written count answer =
    ((length text ≤ length out) × (written ≡ with_end_mark text out) × (count ≡ length text) ×
    (answer ≡ answer_code Done))
    ⊎ ((length out < length text) × (written ≡ out) × (count ≡ length text) × (answer ≡ answer_code TooShort))

abbrev pub PutsAny : Option (List ℕ) → List ℕ → List ℕ → ℕ → ℕ → ℕ → Type 0
PutsAny None out written before count answer = (written ≡ out) × (count ≡ before) × (answer ≡ answer_code Nothing)
PutsAny (Some text) out written before count answer = PutsText text out written count answer

abbrev pub Writes : Option (List ℕ) → List ℕ → List ℕ → ℕ → ℕ → ℕ → Type 0
Writes None out written before count answer = (written ≡ out) × (count ≡ before) × (answer ≡ answer_code Nothing)
Writes (Some text) out written before count answer =
    PutsText text out written count answer ⊎ ((written ≡ out) × (count ≡ before) × (answer ≡ answer_code Memory))

abbrev pub IsReported : Reply → Type 0
IsReported (reply.Refused (refusal.BadPath (place.Request request))) = request < 256
IsReported (reply.Refused (refusal.WouldFail request status)) = request < 256
IsReported (reply.Faulted condition) = condition < 256
IsReported reply.Memory = ⊥
IsReported reply.JournalFull = ⊥
IsReported reported = ⊤

abbrev pub ShownAsReplayed : Type 0
ShownAsReplayed = (id : TransactionId) (reply : Reply) → IsReported reply → reply_shown (reported id reply) (sent reply)
    ≡ Some (reply_line id reply)
