-- Worked examples over octets: what is heard of them, and what is sent.
use Rattle.std.proofs.Common.{◌≡◌, [], ◌∷◌, refl}
use Rattle.std.specs.Prelude.{true, Ok, Err}
use Rattle.cfdp_crc.specs.Seal.{sealed_at, plain_len}
use Rattle.cfdp_crc.specs.declared.sealing.CrcFault.TheVariants as crc_fault
use Rattle.cfdp_directives.specs.Reading.{keep_alive_at, prompt_at, ack_at, directive_in, directive_spelled}
use Rattle.cfdp_directives.specs.Spelling.{ack_field, nak_field, ack_pdu, nak_pdu}
use Rattle.cfdp_directives.specs.Reading.{NakFields}
use Rattle.cfdp_directives.specs.declared.ack.TransactionStatus.TheVariants.{Active}
use Rattle.cfdp_pdus.specs.First as pdu_first
use Rattle.cfdp_tlv.specs.Field.{lv_at}
use Rattle.cfdp_pdus.specs.declared.fault.PduFault.TheVariants as fault
use Rattle.cfdp_receiver.specs.declared.mib.Mib.{Mib}
use Rattle.cfdp_receiver.specs.declared.reading.Dropped.TheVariants as dropped
use Rattle.cfdp_receiver.specs.State.{MetadataPdu, EofPdu}
use Rattle.cfdp_receiver.specs.Heard.{heard}
use Rattle.cfdp_receiver.specs.Sent.{as_sent}
use Rattle.cfdp_receiver.proofs.WorkedWords.{mib, header, M, E, ack, nak}

-- ---- octets that are dropped, and why

cut : heard 0 (0x24 ∷ 0 ∷ 3 ∷ 0 ∷ 1 ∷ 5 ∷ 2 ∷ 6 ∷ []) ≡ Err (dropped.Pdu fault.Truncated)
unfolding sealed_at pdu_first.start_at pdu_first.header_at pdu_first.number_at pdu_first.field_at pdu_first.directive_at
cut = refl

unknown_code : heard 0 (0x20 ∷ 0 ∷ 1 ∷ 0 ∷ 1 ∷ 5 ∷ 2 ∷ 0xa ∷ []) ≡ Err (dropped.Pdu fault.BadDirective)
unfolding sealed_at pdu_first.start_at pdu_first.header_at pdu_first.number_at pdu_first.field_at pdu_first.directive_at
unknown_code = refl

long_prompt : heard 0 (0x20 ∷ 0 ∷ 3 ∷ 0 ∷ 1 ∷ 5 ∷ 2 ∷ 9 ∷ 0 ∷ 0 ∷ []) ≡ Err (dropped.Pdu fault.LengthMismatch)
unfolding sealed_at pdu_first.start_at pdu_first.header_at pdu_first.number_at pdu_first.field_at pdu_first.directive_at directive_spelled directive_in
    prompt_at
long_prompt = refl

long_ack : heard 0 (0x20 ∷ 0 ∷ 4 ∷ 0 ∷ 1 ∷ 5 ∷ 2 ∷ 6 ∷ 0x51 ∷ 0 ∷ 0 ∷ []) ≡ Err (dropped.Pdu fault.LengthMismatch)
unfolding sealed_at pdu_first.start_at pdu_first.header_at pdu_first.number_at pdu_first.field_at pdu_first.directive_at directive_spelled directive_in ack_at
long_ack = refl

short_keep_alive : heard 0 (0x20 ∷ 0 ∷ 4 ∷ 0 ∷ 1 ∷ 5 ∷ 2 ∷ 0xc ∷ 0 ∷ 0 ∷ 0 ∷ []) ≡ Err (dropped.Pdu fault.LengthMismatch)
unfolding sealed_at pdu_first.start_at pdu_first.header_at pdu_first.number_at pdu_first.field_at pdu_first.directive_at directive_spelled directive_in
    keep_alive_at
short_keep_alive = refl

long_keep_alive : heard 0 (0x20 ∷ 0 ∷ 6 ∷ 0 ∷ 1 ∷ 5 ∷ 2 ∷ 0xc ∷ 0 ∷ 0 ∷ 0 ∷ 0 ∷ 0 ∷ []) ≡ Err (dropped.Pdu fault.LengthMismatch)
unfolding sealed_at pdu_first.start_at pdu_first.header_at pdu_first.number_at pdu_first.field_at pdu_first.directive_at directive_spelled directive_in
    keep_alive_at
long_keep_alive = refl

-- ---- PDUs that have a CRC

metadata_with_crc : heard 0 (0x22 ∷ 0 ∷ 0xc ∷ 0 ∷ 1 ∷ 5 ∷ 2 ∷ 7 ∷ 0x40 ∷ 0 ∷ 0 ∷ 0 ∷ 0xf ∷ 1 ∷ 0x73 ∷ 1 ∷ 0x66 ∷ 0x63 ∷ 0xcb ∷ []) ≡
    Ok (MetadataPdu 0 (header 5) M)
unfolding sealed_at pdu_first.start_at pdu_first.header_at pdu_first.number_at pdu_first.field_at pdu_first.directive_at pdu_first.metadata_at
    pdu_first.requests_of pdu_first.fields_at pdu_first.some_fields_at lv_at
metadata_with_crc = refl

-- the last octet of its CRC is 0 instead of 0x7e
data_with_another_crc : heard 0 (0x32 ∷ 0 ∷ 0x15 ∷ 0 ∷ 1 ∷ 5 ∷ 2 ∷ 0 ∷ 0 ∷ 0 ∷ 0 ∷ 0 ∷ 1 ∷ 2 ∷ 3 ∷ 4 ∷ 5 ∷ 6 ∷ 7 ∷ 8 ∷ 9 ∷ 0xa ∷ 0xb ∷ 0xc ∷ 0xd ∷ 0xe ∷ 0x55 ∷
    0 ∷ []) ≡
    Err (dropped.Crc crc_fault.BadCrc)
unfolding sealed_at
data_with_another_crc = refl

eof_with_crc : heard 0 (0x22 ∷ 0 ∷ 0xc ∷ 0 ∷ 1 ∷ 5 ∷ 2 ∷ 4 ∷ 0 ∷ 0x18 ∷ 0x1c ∷ 0x20 ∷ 0x15 ∷ 0 ∷ 0 ∷ 0 ∷ 0xf ∷ 0x85 ∷ 0xd ∷ []) ≡
    Ok (EofPdu 0 (header 5) E)
unfolding sealed_at pdu_first.start_at pdu_first.header_at pdu_first.number_at pdu_first.field_at pdu_first.directive_at pdu_first.eof_at pdu_first.all_whole
    pdu_first.fields_at pdu_first.some_fields_at
eof_with_crc = refl

abbrev with_crc : Mib
with_crc = record mib { has_crc = true }

-- the ACK PDU of the row `two_gaps`, and the NAK PDU where nothing of the file came
ack_with_crc : as_sent with_crc (ack_pdu (ack 5 0 Active).0 (ack 5 0 Active).1) ≡ 0x2a ∷ 0 ∷ 5 ∷ 0 ∷ 1 ∷ 5 ∷ 2 ∷ 6 ∷ 0x40 ∷ 1 ∷ 0x20 ∷ 0x99 ∷ []
unfolding plain_len ack_field
ack_with_crc = refl

abbrev whole_file : NakFields
whole_file = nak 5 0 15 ((0, 15) ∷ [])

nak_with_crc : as_sent with_crc (nak_pdu whole_file.header whole_file.scope whole_file.requests) ≡
    0x2a ∷ 0 ∷ 0x13 ∷ 0 ∷ 1 ∷ 5 ∷ 2 ∷ 8 ∷ 0 ∷ 0 ∷ 0 ∷ 0 ∷ 0 ∷ 0 ∷ 0 ∷ 0xf ∷ 0 ∷ 0 ∷ 0 ∷ 0 ∷ 0 ∷ 0 ∷ 0 ∷ 0xf ∷ 0x1f ∷ 0x66 ∷ []
unfolding plain_len nak_field
nak_with_crc = refl
