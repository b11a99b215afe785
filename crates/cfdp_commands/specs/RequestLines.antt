-- The filestore request that a line of `plain` brings, as a TLV (CCSDS 727.0-B-5 §5.4.1), or why it brings none.
--
--   dropped_for     why a line is dropped whose value is no request
--   answerable      the request of a value, if it can be answered: one of 255 octets cannot, because its response
--                   would be longer than a TLV can be
--   request_alone   the request of a TLV's type and value, with nothing after it
--   request_of_tlv  the request of a TLV that was read, or of one that is cut
--   request_on      the request of a line's octets, or the first fault: TLV cut, octets after it, another type, a value
--                   that is no request, a value of 255 octets
--   dropped_text    the line that is written for a line that is dropped
--   response_to     the response to a request
--   response_line   the line that is written for a request: its response TLV in hexadecimal (§5.4.2)
use Rattle.std.specs.Prelude.{ℕ, ◌==◌, nat_lt, if◌then◌else◌, List, [], ◌∷◌, length, Result, Ok, Err, codes}
use Rattle.hex.specs.Hex.{encode_lower}
use Rattle.cfdp_status.specs.declared.status.Status.{Status}
use Rattle.cfdp_tlv.specs.Types.{filestore_request_type, filestore_response_type}
use Rattle.cfdp_tlv.specs.Field.{tlv, tlv_at}
use Rattle.cfdp_tlv.specs.Grammar.{request_at, response_octets}
use Rattle.cfdp_tlv.specs.Values.{RequestFields, ResponseFields}
use Rattle.cfdp_tlv.specs.declared.fault.TlvFault.{TlvFault}
use Rattle.cfdp_tlv.specs.declared.fault.TlvFault.TheVariants as fault
use Rattle.cfdp_texts.specs.Replies.{line}
use Rattle.cfdp_commands.specs.declared.dropped.DroppedLine.{DroppedLine}
use Rattle.cfdp_commands.specs.declared.dropped.DroppedLine.TheVariants.{Truncated, Trailing, NotARequest, BadAction, RequestTooLong}

-- a value that is no request has one of the first three faults; the others have an answer so that each fault has one
abbrev pub dropped_for : TlvFault → DroppedLine
dropped_for fault.Truncated = Truncated
dropped_for fault.BadAction = BadAction
dropped_for fault.Trailing = Trailing
dropped_for fault.TooLong = RequestTooLong
dropped_for fault.BadStatus = BadAction
dropped_for fault.Memory = Truncated

-- a request that can be answered: a value of 255 octets, the longest that a TLV has, is one too long
abbrev pub answerable : List ℕ → Result RequestFields TlvFault → Result RequestFields DroppedLine
answerable value (Ok request) = if nat_lt 254 (length value) then Err RequestTooLong else Ok request
answerable value (Err fault) = Err (dropped_for fault)

-- of a TLV's type and value, and what is after it
abbrev pub request_alone : ℕ → List ℕ → List ℕ → Result RequestFields DroppedLine
request_alone kind value (octet ∷ octets) = Err Trailing
request_alone kind value [] =
    if kind == filestore_request_type then answerable value (request_at value) else Err NotARequest

-- the whole line is one TLV, of type 00
abbrev pub request_of_tlv : Result (ℕ × List ℕ × List ℕ) TlvFault → Result RequestFields DroppedLine
request_of_tlv (Err fault) = Err Truncated
request_of_tlv (Ok field) = request_alone field.0 field.1 field.2

abbrev pub request_on : List ℕ → Result RequestFields DroppedLine
request_on octets = request_of_tlv (tlv_at octets)

-- the line that is written for a dropped one
abbrev pub dropped_text : DroppedLine → List ℕ
dropped_text Truncated = codes "dropped truncated\n"
dropped_text Trailing = codes "dropped trailing\n"
dropped_text NotARequest = codes "dropped not-a-request\n"
dropped_text BadAction = codes "dropped bad-action\n"
dropped_text RequestTooLong = codes "dropped request-too-long\n"

-- the response to a request: its own names, and no message
abbrev pub response_to : RequestFields → Status → ResponseFields
response_to request status = record { status = status; first = request.first; second = request.second; message = [] }

abbrev pub response_line : RequestFields → Status → List ℕ
response_line request status =
    line (encode_lower (tlv filestore_response_type (response_octets (response_to request status))))
