-- What octets that came bring to a receiving entity (CCSDS 727.0-B-5 §5.1 to §5.3).
--     input_at now octets       the input that a PDU without a CRC is, or why it is dropped
--     heard now octets          the same, of octets that may have a CRC
--     IsDropped now octets why  why octets were dropped: by their first fault, or out of memory for a Metadata
--                               PDU;  IsUnread: without a CRC
use Rattle.std.specs.Prelude.{◌≡◌, ◌⊎◌, ℕ, ◌==◌, if◌then◌else◌, List, Result, Ok, Err}
use Rattle.cfdp_crc.specs.Seal.{unsealed}
use Rattle.cfdp_crc.specs.declared.sealing.CrcFault.{CrcFault}
use Rattle.cfdp_pdus.specs.First.{pdu_at}
use Rattle.cfdp_pdus.specs.Codes.{nak_code}
use Rattle.cfdp_pdus.specs.declared.header.Header.{Header}
use Rattle.cfdp_pdus.specs.declared.pdu.Pdu.{Pdu}
use Rattle.cfdp_pdus.specs.declared.pdu.Pdu.TheVariants as pdus
use Rattle.cfdp_pdus.specs.declared.fault.PduFault.{PduFault}
use Rattle.cfdp_pdus.specs.declared.fault.PduFault.TheVariants.{Memory}
use Rattle.cfdp_directives.specs.Reading.{NakFields, nak_at, directive_spelled}
use Rattle.cfdp_directives.specs.declared.read.Directive.{Directive}
use Rattle.cfdp_directives.specs.declared.read.Directive.TheVariants as directives
use Rattle.cfdp_entity.specs.Hearing.{MayLackMemory}
use Rattle.cfdp_receiver.specs.declared.reading.Dropped.{Dropped}
use Rattle.cfdp_receiver.specs.declared.reading.Dropped.TheVariants as dropped
use Rattle.cfdp_receiver.specs.State.{Input, MetadataPdu, DataPdu, EofPdu, AckPdu, PromptPdu, OtherPdu}

-- a NAK PDU goes toward a sender, whatever it asks for
abbrev pub nak_input : ℕ → Header → Result NakFields PduFault → Result Input Dropped
nak_input now h (Ok nak) = Ok (OtherPdu now h)
nak_input now h (Err fault) = Err (dropped.Pdu fault)

abbrev pub directive_input : ℕ → Result Directive PduFault → Result Input Dropped
directive_input now (Ok (directives.Ack h ack)) = Ok (AckPdu now h ack)
directive_input now (Ok (directives.Prompt h prompt)) = Ok (PromptPdu now h prompt)
directive_input now (Ok (directives.KeepAlive h keep_alive)) = Ok (OtherPdu now h)
directive_input now (Err fault) = Err (dropped.Pdu fault)

-- a NAK PDU, or an ACK, Prompt or Keep Alive PDU
abbrev pub other_input : ℕ → Header → ℕ → List ℕ → Result Input Dropped
other_input now h code octets = if code == nak_code then nak_input now h (nak_at octets)
    else directive_input now (directive_spelled octets)

abbrev pub pdu_input : ℕ → List ℕ → Result Pdu PduFault → Result Input Dropped
pdu_input now octets (Ok (pdus.Metadata h m)) = Ok (MetadataPdu now h m)
pdu_input now octets (Ok (pdus.FileData h piece)) = Ok (DataPdu now h piece)
pdu_input now octets (Ok (pdus.Eof h eof)) = Ok (EofPdu now h eof)
pdu_input now octets (Ok (pdus.Finished h finished)) = Ok (OtherPdu now h)
pdu_input now octets (Ok (pdus.NotOurs h code)) = other_input now h code octets
pdu_input now octets (Err fault) = Err (dropped.Pdu fault)

abbrev pub input_at : ℕ → List ℕ → Result Input Dropped
input_at now octets = pdu_input now octets (pdu_at octets)

abbrev pub heard_in : ℕ → Result (List ℕ) CrcFault → Result Input Dropped
heard_in now (Ok octets) = input_at now octets
heard_in now (Err fault) = Err (dropped.Crc fault)

abbrev pub heard : ℕ → List ℕ → Result Input Dropped
heard now octets = heard_in now (unsealed octets)

abbrev pub IsUnread : ℕ → List ℕ → Dropped → Type 0
IsUnread now octets why = (input_at now octets ≡ Err why) ⊎ ((why ≡ dropped.Pdu Memory) × MayLackMemory octets)

abbrev pub IsUnheardInput : ℕ → Result (List ℕ) CrcFault → Dropped → Type 0
IsUnheardInput now (Ok octets) why = IsUnread now octets why
IsUnheardInput now (Err fault) why = why ≡ dropped.Crc fault

abbrev pub IsDropped : ℕ → List ℕ → Dropped → Type 0
IsDropped now octets why = IsUnheardInput now (unsealed octets) why
