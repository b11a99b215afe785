-- The messages to user of a Metadata PDU (CCSDS 727.0-B-5 §5.4.3): the values of its options of type 2, in the order in
-- which they come.
--   whole_fields fields             the TLV fields before the first that is cut
--   messages_among octets           the values of type 2 among TLV fields
--   before_options large metadata   how many octets of the data field come before the options: the directive code, the
--                                   flags, the file size and the two names
--   messages_at octets              the messages of the Metadata PDU that the octets spell; none where they spell no
--                                   Metadata PDU
--   options_said ..                 the options that the grammar finds in the Metadata PDU that the octets spell
use Rattle.std.specs.Prelude.{ℕ, ◌+◌, Bool, true, false, List, [], ◌∷◌, length, drop, Option, Some, None, Result, Ok, Err}
use Rattle.cfdp_tlv.specs.Types.{message_to_user_type}
use Rattle.cfdp_tlv.specs.Field.{lv}
use Rattle.cfdp_pdus.specs.declared.fault.PduFault.{PduFault}
use Rattle.cfdp_pdus.specs.declared.header.Header.{Header}
use Rattle.cfdp_pdus.specs.declared.pdu.Pdu.{Pdu}
use Rattle.cfdp_pdus.specs.declared.pdu.Pdu.TheVariants as pdus
use Rattle.cfdp_pdus.specs.Values.{MetadataFields}
use Rattle.cfdp_pdus.specs.Bits.{flag, fss}
use Rattle.cfdp_pdus.specs.Grammar.{Field, values_of, SpellsField, SpellsPdu}
use Rattle.cfdp_pdus.specs.First.{Start, fields_at, field_at, start_at}

-- ---- the messages

abbrev pub whole_fields : List (Option Field) → List Field
whole_fields [] = []
whole_fields (None ∷ fields) = []
whole_fields (Some field ∷ fields) = field ∷ whole_fields fields

unfoldable pub messages_among : List ℕ → List (List ℕ)
messages_among octets = values_of message_to_user_type (whole_fields (fields_at octets))

abbrev pub before_options : Bool → MetadataFields → ℕ
before_options large metadata = 2 + fss large + length (lv metadata.source_name) + length (lv metadata.destination_name)

-- of a PDU and its data field
abbrev pub messages_of : Result Pdu PduFault → List ℕ → List (List ℕ)
messages_of (Ok (pdus.Metadata header metadata)) field =
    messages_among (drop (before_options header.large metadata) field)
messages_of read field = []

abbrev pub messages_from : Result Start PduFault → List (List ℕ)
messages_from (Ok start) = messages_of (field_at start) start.field
messages_from (Err fault) = []

unfoldable pub messages_at : List ℕ → List (List ℕ)
messages_at octets = messages_from (start_at octets)

-- ---- in the words of the grammar

-- in the data field of a Metadata PDU
abbrev pub spelled_options : (file_data segment_metadata : Bool) (field : List ℕ) (header : Header)
    (metadata : MetadataFields)
    → SpellsField file_data segment_metadata field (pdus.Metadata header metadata) → List Field
spelled_options true segment_metadata field header metadata spelled = absurd spelled
spelled_options false segment_metadata [] header metadata spelled = absurd spelled
spelled_options false segment_metadata (code ∷ octets) header metadata spelled = spelled.1.options

abbrev pub options_said : (octets : List ℕ) (header : Header) (metadata : MetadataFields) →
    SpellsPdu octets (pdus.Metadata header metadata) → List Field
options_said [] header metadata spelled = absurd spelled
options_said (first ∷ []) header metadata spelled = absurd spelled
options_said (first ∷ high ∷ []) header metadata spelled = absurd spelled
options_said (first ∷ high ∷ low ∷ []) header metadata spelled = absurd spelled
options_said (first ∷ high ∷ low ∷ fourth ∷ rest) header metadata spelled =
    spelled_options (flag 4 first) (flag 3 fourth) spelled.field header metadata spelled.spelled
