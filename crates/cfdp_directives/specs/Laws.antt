-- What is written of a PDU with a valid header is read as that header and value. A NAK PDU has room for as many
-- requests as `most_requests` says, and for no more.
use Rattle.std.specs.Prelude.{◌≡◌, ◌≤◌, ◌↔◌, ℕ, Bool, List, length, Ok, All}
use Rattle.cfdp_pdus.specs.Canonical.{IsHeader}
use Rattle.cfdp_pdus.specs.declared.header.Header.{Header}
use Rattle.cfdp_directives.specs.declared.ack.Ack.{Ack}
use Rattle.cfdp_directives.specs.declared.keep_alive.KeepAlive.{KeepAlive}
use Rattle.cfdp_directives.specs.declared.prompt.Prompt.{Prompt}
use Rattle.cfdp_directives.specs.declared.read.Directive.TheVariants as directives
use Rattle.cfdp_directives.specs.Reading.{directive_spelled, nak_at}
use Rattle.cfdp_directives.specs.Spelling.{IsSizedAck, IsSizedRange, IsSizedKeepAlive, most_requests, ack_pdu, nak_field, nak_pdu, prompt_pdu, keep_alive_pdu}

abbrev pub AckReadsBack : Type 0
AckReadsBack =
    (header : Header) (ack : Ack) → IsHeader header → IsSizedAck ack →
    directive_spelled (ack_pdu header ack) ≡ Ok (directives.Ack header ack)

abbrev pub NakReadsBack : Type 0
NakReadsBack =
    (header : Header) (scope : ℕ × ℕ) (requests : List (ℕ × ℕ)) → IsHeader header →
    length requests ≤ most_requests header.large →
    IsSizedRange header.large scope → All (IsSizedRange header.large) requests →
    nak_at (nak_pdu header scope requests) ≡ Ok (record { header = header; scope = scope; requests = requests })

abbrev pub MostRequestsFit : Type 0
MostRequestsFit =
    (large : Bool) (scope : ℕ × ℕ) (requests : List (ℕ × ℕ)) →
    (length requests ≤ most_requests large) ↔ (length (nak_field large scope requests) ≤ 65535)

abbrev pub PromptReadsBack : Type 0
PromptReadsBack =
    (header : Header) (prompt : Prompt) → IsHeader header →
    directive_spelled (prompt_pdu header prompt) ≡ Ok (directives.Prompt header prompt)

abbrev pub KeepAliveReadsBack : Type 0
KeepAliveReadsBack =
    (header : Header) (keep_alive : KeepAlive) → IsHeader header → IsSizedKeepAlive header.large keep_alive →
    directive_spelled (keep_alive_pdu header keep_alive) ≡ Ok (directives.KeepAlive header keep_alive)
