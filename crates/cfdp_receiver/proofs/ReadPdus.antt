-- PDUs that were read: what holds of a Metadata PDU, and the header of a Finished PDU.
use Rattle.std.specs.Prelude.{⊤, Result, Ok, Err}
use Rattle.std.proofs.Common.{◌≡◌, ℕ, false, ◌==◌, List, [], ◌∷◌, None, refl, sym, ap, subst}
use Rattle.cfdp_status.proofs.Choices.{either_way}
use Rattle.cfdp_tlv.specs.Reading.{◌>>=◌}
use Rattle.cfdp_pdus.specs.First.{Start, start_at, field_at, directive_at, pdu_at, metadata_at, eof_at, finished_at, file_data_at}
use Rattle.cfdp_pdus.specs.Receiving.{received_of}
use Rattle.cfdp_pdus.specs.Sound.{IsSoundMetadata}
use Rattle.cfdp_pdus.specs.Values.{MetadataFields, FileDataFields, FinishedFields}
use Rattle.cfdp_pdus.specs.declared.eof.Eof.{Eof}
use Rattle.cfdp_pdus.specs.declared.header.Header.{Header}
use Rattle.cfdp_pdus.specs.declared.pdu.Pdu.{Pdu}
use Rattle.cfdp_pdus.specs.declared.pdu.Pdu.TheVariants as pdus
use Rattle.cfdp_pdus.specs.declared.fault.PduFault.{PduFault}
use Rattle.cfdp_pdus.specs.declared.fault.PduFault.TheVariants.{BadDirective}
use Rattle.cfdp_transactions.specs.declared.event.Event.TheVariants.{Metadata as MetadataCame}
use Rattle.cfdp_transactions.specs.Writable.{IsReadable}
use Rattle.cfdp_transactions.proofs.Promises.Readable.{read_is_readable}
use Rattle.cfdp_receiver.specs.Heard.{pdu_input, input_at}
use Rattle.cfdp_receiver.specs.State.{OtherPdu}

-- the same header toward the receiver
abbrev ahead : Header → Header
ahead h = record h { toward_sender = false }

sound_ahead : (h : Header) (m : MetadataFields) → IsSoundMetadata h m → IsSoundMetadata (ahead h) m
sound_ahead h m s = record {
  header_fits = record {
    id_low = s.header_fits.id_low;
    id_high = s.header_fits.id_high;
    number_low = s.header_fits.number_low;
    number_high = s.header_fits.number_high;
    source = s.header_fits.source;
    number = s.header_fits.number;
    destination = s.header_fits.destination;
  };
  sized = s.sized;
  answerable = s.answerable;
}

pub metadata_readable : (h : Header) (m : MetadataFields) → IsSoundMetadata h m → IsReadable (MetadataCame h m)
metadata_readable h m s = (s.header_fits, (read_is_readable (pdus.Metadata (ahead h) m) (MetadataCame (ahead h) m) (sound_ahead h m s) refl).1)

-- a Finished PDU has this header
abbrev HasHeader : Header → Result Pdu PduFault → Type 0
HasHeader h (Ok (pdus.Finished k finished)) = k ≡ h
HasHeader h read = ⊤

by_metadata : (h : Header) (read : Result MetadataFields PduFault) → HasHeader h (read >>= λ m. Ok (pdus.Metadata h m))
by_metadata h (Ok m) = tt
by_metadata h (Err fault) = tt

by_data : (h : Header) (read : Result FileDataFields PduFault) → HasHeader h (read >>= λ d. Ok (pdus.FileData h d))
by_data h (Ok d) = tt
by_data h (Err fault) = tt

by_eof : (h : Header) (read : Result Eof PduFault) → HasHeader h (read >>= λ eof. Ok (pdus.Eof h eof))
by_eof h (Ok eof) = tt
by_eof h (Err fault) = tt

by_finished : (h : Header) (read : Result FinishedFields PduFault) → HasHeader h (read >>= λ f. Ok (pdus.Finished h f))
by_finished h (Ok f) = refl
by_finished h (Err fault) = tt

by_directive : (h : Header) (octets : List ℕ) → HasHeader h (directive_at h octets)
unfolding directive_at
by_directive h [] = tt
by_directive h (code ∷ octets) =
    either_way (HasHeader h) (code == 7) _ _ (by_metadata h (metadata_at h.large octets)) (
    either_way (HasHeader h) (code == 4) _ _ (by_eof h (eof_at h.large octets)) (
    either_way (HasHeader h) (code == 5) _ _ (by_finished h (finished_at octets)) (
    either_way (HasHeader h) (code == 6) (Ok (pdus.NotOurs h 6)) _ tt (
    either_way (HasHeader h) (code == 8) (Ok (pdus.NotOurs h 8)) _ tt (
    either_way (HasHeader h) (code == 9) (Ok (pdus.NotOurs h 9)) _ tt (
    either_way (HasHeader h) (code == 12) (Ok (pdus.NotOurs h 12)) (Err BadDirective) tt tt
    ))))))

by_start : (start : Start) → HasHeader start.header (field_at start)
unfolding field_at
by_start start =
    either_way (HasHeader start.header) start.file_data _ _ (by_data start.header (file_data_at start.header.large start.segment_metadata start.field))
    (by_directive start.header start.field)

-- what is read of a Finished PDU is its header
as_other : (h : Header) (read : Result Pdu PduFault) (now : ℕ) (octets : List ℕ) → HasHeader h read → received_of read ≡ Ok None → pdu_input now octets read
    ≡ Ok (OtherPdu now h)
as_other h (Ok (pdus.Metadata k m)) now octets same none = absurd cc
as_other h (Ok (pdus.FileData k d)) now octets same none = absurd cc
as_other h (Ok (pdus.Eof k eof)) now octets same none = absurd cc
as_other h (Ok (pdus.Finished k finished)) now octets same none = ap (λ (x : Header). Ok (OtherPdu now x)) same
as_other h (Ok (pdus.NotOurs k code)) now octets same none = absurd cc
as_other h (Err fault) now octets same none = absurd cc

pub finished_input : (octets : List ℕ) (start : Start) (now : ℕ) → start_at octets ≡ Ok start → received_of (pdu_at octets) ≡ Ok None → input_at now octets
    ≡ Ok (OtherPdu now start.header)
finished_input octets start now began none =
    as_other start.header (pdu_at octets) now octets
    (subst (λ (read : Result Start PduFault). HasHeader start.header (read >>= field_at)) (sym began) (by_start start)) none
