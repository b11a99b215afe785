-- ACK, NAK, Prompt and Keep Alive PDUs: how each is read (CCSDS 727.0-B-5 §5.2.4, §5.2.6 to §5.2.8).
--   status_code, status_coded    the two bits of a transaction status, and what they say
--   ack_at, prompt_at, keep_alive_at     what comes after the directive code, or the first fault
--   directive_in header field    the data field of an ACK, Prompt or Keep Alive PDU
--   directive_spelled octets     the ACK, Prompt or Keep Alive PDU that the octets spell, or the first fault
--   NakFields                    what a NAK PDU says
--   pair_len large               how many octets a start and an end have
--   pairs_in header field        the header of a NAK PDU, and the octets of its starts and ends
--   nak_at octets                the NAK PDU that the octets spell, or the first fault
--   nak_within room octets       the same, with its requests in a list of that length
use Rattle.std.specs.Prelude.{ℕ, zero, suc, ◌-◌, ◌*◌, ◌/◌, ◌%◌, ◌==◌, ◌&&◌, nat_le, nat_lt, if◌then◌else◌, Bool, List, [], ◌∷◌, length, take, drop, Result, Ok, Err}
use Rattle.byteorder.specs.Endian.{big_number}
use Rattle.cfdp_tlv.specs.Reading.{◌>>=◌}
use Rattle.cfdp_pdus.specs.Bits.{flag, fss}
use Rattle.cfdp_pdus.specs.Codes.{ack_code, nak_code, prompt_code, keep_alive_code}
use Rattle.cfdp_pdus.specs.First.{Start, start_at, number_at}
use Rattle.cfdp_pdus.specs.declared.header.Header.{Header}
use Rattle.cfdp_pdus.specs.declared.fault.PduFault.{PduFault}
use Rattle.cfdp_pdus.specs.declared.fault.PduFault.TheVariants.{LengthMismatch, BadDirective}
use Rattle.cfdp_directives.specs.declared.ack.Ack.{Ack}
use Rattle.cfdp_directives.specs.declared.ack.TransactionStatus.{TransactionStatus}
use Rattle.cfdp_directives.specs.declared.ack.TransactionStatus.TheVariants.{Undefined, Active, Terminated, Unrecognized}
use Rattle.cfdp_directives.specs.declared.keep_alive.KeepAlive.{KeepAlive}
use Rattle.cfdp_directives.specs.declared.nak.Nak.{Nak}
use Rattle.cfdp_directives.specs.declared.nak.NakFault.{NakFault}
use Rattle.cfdp_directives.specs.declared.nak.NakFault.TheVariants as nak_faults
use Rattle.cfdp_directives.specs.declared.prompt.Prompt.{Prompt}
use Rattle.cfdp_directives.specs.declared.prompt.Prompt.TheVariants as prompts
use Rattle.cfdp_directives.specs.declared.read.Directive.{Directive}
use Rattle.cfdp_directives.specs.declared.read.Directive.TheVariants as directives

abbrev pub status_code : TransactionStatus → ℕ
status_code Undefined = 0
status_code Active = 1
status_code Terminated = 2
status_code Unrecognized = 3

abbrev pub status_coded : ℕ → TransactionStatus
status_coded code =
    if code == 0 then Undefined
    else if code == 1 then Active
    else if code == 2 then Terminated
    else Unrecognized

-- ---- ACK, Prompt and Keep Alive

-- spare bits and the directive subtype code are passed over
unfoldable pub ack_at : List ℕ → Result Ack PduFault
ack_at (kind ∷ state ∷ []) =
    Ok (record { directive = kind / 16; condition = state / 16; status = status_coded (state % 4) })
ack_at octets = Err LengthMismatch

unfoldable pub prompt_at : List ℕ → Result Prompt PduFault
prompt_at (flags ∷ []) = Ok (if flag 7 flags then prompts.KeepAlive else prompts.Nak)
prompt_at octets = Err LengthMismatch

unfoldable pub keep_alive_at : Bool → List ℕ → Result KeepAlive PduFault
keep_alive_at large octets = do
  progress ← number_at LengthMismatch (fss large) octets
  if length progress.1 == 0 then Ok (record { progress = progress.0 }) else Err LengthMismatch

unfoldable pub directive_in : Header → List ℕ → Result Directive PduFault
directive_in header [] = Err LengthMismatch
directive_in header (code ∷ octets) =
    if code == ack_code then (ack_at octets >>= λ ack. Ok (directives.Ack header ack))
    else if code == prompt_code then (prompt_at octets >>= λ prompt. Ok (directives.Prompt header prompt))
    else if code == keep_alive_code
    then (keep_alive_at header.large octets >>= λ keep_alive. Ok (directives.KeepAlive header keep_alive))
    else Err BadDirective

abbrev pub directive_from : Start → Result Directive PduFault
directive_from start = if start.file_data then Err BadDirective else directive_in start.header start.field

unfoldable pub directive_spelled : List ℕ → Result Directive PduFault
directive_spelled octets = start_at octets >>= directive_from

-- ---- NAK

pub record NakFields : Type 0 where
  pub header : Header
  pub scope : ℕ × ℕ
  pub requests : List (ℕ × ℕ)

abbrev pub pair_len : Bool → ℕ
pair_len large = 2 * fss large

-- a start and an end
unfoldable pub range_at : Bool → List ℕ → ℕ × ℕ
range_at large octets = (big_number (fss large) octets, big_number (fss large) (drop (fss large) octets))

-- the first starts and ends, of that count
unfoldable pub ranges_at : Bool → ℕ → List ℕ → List (ℕ × ℕ)
ranges_at large zero octets = []
ranges_at large (suc count) octets = range_at large octets ∷ ranges_at large count (drop (pair_len large) octets)

-- a start and an end at least, and each start has an end
abbrev pub are_pairs : Bool → ℕ → Bool
are_pairs large len = nat_le (pair_len large) len && (len % pair_len large == 0)

unfoldable pub pairs_in : Header → List ℕ → Result (Header × List ℕ) PduFault
pairs_in header [] = Err LengthMismatch
pairs_in header (code ∷ octets) =
    if code == nak_code
    then (if are_pairs header.large (length octets) then Ok (header, octets) else Err LengthMismatch)
    else Err BadDirective

abbrev pub pairs_from : Start → Result (Header × List ℕ) PduFault
pairs_from start = if start.file_data then Err BadDirective else pairs_in start.header start.field

unfoldable pub pairs_at : List ℕ → Result (Header × List ℕ) PduFault
pairs_at octets = start_at octets >>= pairs_from

-- how many requests there are in the octets of the starts and ends: the first two are the scope
abbrev pub request_count : Bool → ℕ → ℕ
request_count large len = len / pair_len large - 1

-- the scope, and after it the requests
abbrev pub nak_of : Header × List ℕ → NakFields
nak_of pairs = record {
  header = pairs.0;
  scope = range_at pairs.0.large pairs.1;
  requests =
      ranges_at pairs.0.large (request_count pairs.0.large (length pairs.1)) (drop (pair_len pairs.0.large) pairs.1);
}

abbrev pub nak_at : List ℕ → Result NakFields PduFault
nak_at octets = pairs_at octets >>= λ pairs. Ok (nak_of pairs)

abbrev pub fitted : ℕ → Result NakFields PduFault → Result NakFields NakFault
fitted room (Ok nak) =
    if nat_lt room (length nak.requests) then Err (nak_faults.TooMany (length nak.requests)) else Ok nak
fitted room (Err fault) = Err (nak_faults.Pdu fault)

abbrev pub nak_within : ℕ → List ℕ → Result NakFields NakFault
nak_within room octets = fitted room (nak_at octets)

-- what is read, with its requests at the front of a list
abbrev pub nak_in : List (ℕ × ℕ) → Nak → NakFields
nak_in list nak = record { header = nak.header; scope = nak.scope; requests = take nak.count list }
