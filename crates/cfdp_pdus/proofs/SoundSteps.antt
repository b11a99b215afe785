-- A PDU that octets spell is sound.
use Rattle.std.proofs.Common.{◌≡◌, ◌<◌, ◌≤◌, ℕ, zero, suc, ◌^◌, List, [], ◌∷◌, ◌++◌, length, get_or, Bool, true, false, Result, Ok, Err, sym, ap, subst, arith}
use Rattle.std.specs.Prelude.{IfOk}
use Rattle.std.specs.List.{AllByRecursion}
use Rattle.byteorder.specs.Numbers.{big_from-lt}
use Rattle.cfdp_tlv.specs.Field.{lv}
use Rattle.cfdp_tlv.specs.Values.{RequestFields}
use Rattle.cfdp_tlv.specs.Grammar.{SpellsRequest, request_octets}
use Rattle.cfdp_pdus.specs.declared.header.Header.{Header}
use Rattle.cfdp_pdus.specs.declared.eof.Eof.{Eof}
use Rattle.cfdp_pdus.specs.declared.pdu.Pdu.{Pdu}
use Rattle.cfdp_pdus.specs.declared.pdu.Pdu.TheVariants as pdus
use Rattle.cfdp_pdus.specs.declared.fault.PduFault.{PduFault}
use Rattle.cfdp_pdus.specs.Values.{MetadataFields, FileDataFields, FinishedFields}
use Rattle.cfdp_pdus.specs.Bits.{flag, IsNumber, fss}
use Rattle.cfdp_pdus.specs.Grammar.{values_of, field_octets, EachAsks, HasHeader, header_of, SpellsDirective, SpellsField, SpellsMetadata, SpellsFileData, SpellsEof, SpellsFinished, SpellsPdu}
use Rattle.cfdp_pdus.specs.Canonical.{IsHeader, IsSizedFileData, IsSizedEof, IsAnswerable}
use Rattle.cfdp_pdus.specs.First.{Start, start_at}
use Rattle.cfdp_pdus.proofs.PduSteps.{start_takes}
use Rattle.cfdp_pdus.specs.Sound.{IsSound, IsSoundMetadata, IsSoundFinished}

-- ---- octets are below 256

abbrev pub AreOctets : List ℕ → Type 0
AreOctets octets = AllByRecursion (λ octet. octet < 256) octets

pub octets_from : (octets : List ℕ) → ((i : ℕ) → get_or octets i 0 < 256) → AreOctets octets
octets_from [] below = tt
octets_from (octet ∷ octets) below = (below 0, octets_from octets (λ i. below (suc i)))

below_from : (octets : List ℕ) → AreOctets octets → (i : ℕ) → get_or octets i 0 < 256
below_from [] are i = omega arith
below_from (octet ∷ octets) are zero = are.0
below_from (octet ∷ octets) are (suc i) = below_from octets are.1 i

front : (a b : List ℕ) → AreOctets (a ++ b) → AreOctets a
front [] b are = tt
front (octet ∷ a) b are = (are.0, front a b are.1)

following : (a b : List ℕ) → AreOctets (a ++ b) → AreOctets b
following [] b are = are
following (octet ∷ a) b are = following a b are.1

-- a number of this many octets fits them
number_fits : (octets : List ℕ) (len x : ℕ) → AreOctets octets → IsNumber octets len x → x < 256 ^ len
number_fits octets len x are number = subst (λ (n : ℕ). n < 256 ^ len) (sym number.spelled) (big_from-lt 0 len octets (below_from octets are))

-- ---- the header

header_sound : (first fourth : ℕ) (names : List ℕ) (header : Header) → AreOctets names → HasHeader first fourth names header → IsHeader header
header_sound first fourth names header are has =
    let all = subst AreOctets has.parts are in
    let rest = following has.source_octets (has.number_octets ++ has.destination_octets) all in
    record {
      id_low = omega (arith, has.id_len);
      id_high = omega (arith, has.id_len);
      number_low = omega (arith, has.number_len);
      number_high = omega (arith, has.number_len);
      source = number_fits has.source_octets header.id_len header.source (front has.source_octets (has.number_octets ++ has.destination_octets) all) has.source;
      number = number_fits has.number_octets header.number_len header.number (front has.number_octets has.destination_octets rest) has.number;
      destination = number_fits has.destination_octets header.id_len header.destination (following has.number_octets has.destination_octets rest)
          has.destination;
    }

-- a data field's length has two octets
pub field_short : (octets : List ℕ) (start : Start) → AreOctets octets → start_at octets ≡ Ok start → length start.field ≤ 65535
field_short octets start are read =
    let begins = start_takes octets start read in
    let all : AreOctets (begins.first ∷ begins.high ∷ begins.low ∷ begins.fourth ∷ begins.rest) = subst AreOctets begins.octets_are are in
    let high : begins.high < 256 = all.1.0 in
    let low : begins.low < 256 = all.1.1.0 in
    omega (arith, begins.field_len)

-- ---- the data fields

same_length : (value : List ℕ) (request : RequestFields) → SpellsRequest value request → length (request_octets request) ≡ length value
same_length [] request spelled = absurd spelled
same_length (octet ∷ names) request spelled = ap (λ (t : List ℕ). length (octet ∷ t)) (sym spelled.named)

answerable : (value : List ℕ) (request : RequestFields) → SpellsRequest value request → length value < 255 → IsAnswerable request
answerable [] request spelled short = absurd spelled
answerable (octet ∷ names) request spelled short = record {
  complete = spelled.complete;
  short = omega (arith, same_length (octet ∷ names) request spelled);
}

all_answerable : (values : List (List ℕ)) (requests : List RequestFields) → EachAsks values requests → AllByRecursion IsAnswerable requests
all_answerable [] [] asks = tt
all_answerable [] (request ∷ requests) asks = absurd asks
all_answerable (value ∷ values) [] asks = absurd asks
all_answerable (value ∷ values) (request ∷ requests) asks = (answerable value request asks.0 asks.1, all_answerable values requests asks.2)

metadata_sound : (header : Header) (octets : List ℕ) (metadata : MetadataFields) → AreOctets octets → IsHeader header →
    SpellsMetadata header.large octets metadata → IsSoundMetadata header metadata
metadata_sound header octets metadata are is spelled =
    let all = subst AreOctets spelled.parts are in
    let size = front spelled.size_octets (lv metadata.source_name ++ (lv metadata.destination_name ++ field_octets spelled.options)) all.1 in
    record {
      header_fits = is;
      sized = record {
        checksum_type = omega (arith, spelled.checksum_type);
        size = number_fits spelled.size_octets (fss header.large) metadata.size size spelled.size;
      };
      answerable = all_answerable (values_of 0 spelled.options) metadata.requests spelled.requests;
    }

file_data_sound : (header : Header) (segment_metadata : Bool) (octets : List ℕ) (file_data : FileDataFields) → AreOctets octets →
    SpellsFileData header.large segment_metadata octets file_data → IsSizedFileData header.large file_data
file_data_sound header segment_metadata octets file_data are spelled =
    let all = subst AreOctets spelled.parts are in
    let rest = following spelled.segment (spelled.offset_octets ++ file_data.octets) all in
    record { offset = number_fits spelled.offset_octets (fss header.large) file_data.offset (front spelled.offset_octets file_data.octets rest) spelled.offset }

eof_sound : (header : Header) (octets : List ℕ) (eof : Eof) → AreOctets octets → SpellsEof header.large octets eof → IsSizedEof header.large eof
eof_sound header octets eof are spelled =
    let all = subst AreOctets spelled.parts are in
    let rest = following spelled.checksum_octets (spelled.size_octets ++ field_octets spelled.fields) all.1 in
    record {
      condition = omega (arith, spelled.condition, all.0);
      size = number_fits spelled.size_octets (fss header.large) eof.size (front spelled.size_octets (field_octets spelled.fields) rest) spelled.size;
    }

finished_sound : (header : Header) (octets : List ℕ) (finished : FinishedFields) → AreOctets octets → IsHeader header → SpellsFinished octets finished →
    IsSoundFinished header finished
finished_sound header octets finished are is spelled =
    let all = subst AreOctets spelled.parts are in
    record {
      header_fits = is;
      condition = omega (arith, spelled.condition, all.0);
      file_status = omega (arith, spelled.file_status);
    }

directive_sound : (code : ℕ) (octets : List ℕ) (pdu : Pdu) → AreOctets octets → IsHeader (header_of pdu) → SpellsDirective code octets pdu → IsSound pdu
directive_sound code octets (pdus.Metadata header metadata) are is spelled = metadata_sound header octets metadata are is spelled.1
directive_sound code octets (pdus.FileData header file_data) are is spelled = absurd spelled
directive_sound code octets (pdus.Eof header eof) are is spelled = (is, eof_sound header octets eof are spelled.1)
directive_sound code octets (pdus.Finished header finished) are is spelled = finished_sound header octets finished are is spelled.1
directive_sound code octets (pdus.NotOurs header other) are is spelled = is

field_sound : (file_data segment_metadata : Bool) (field : List ℕ) (pdu : Pdu) → AreOctets field → IsHeader (header_of pdu) →
    SpellsField file_data segment_metadata field pdu → IsSound pdu
field_sound true segment_metadata field (pdus.FileData header file_data) are is spelled =
    (is, file_data_sound header segment_metadata field file_data are spelled)
field_sound true segment_metadata field (pdus.Metadata header metadata) are is spelled = absurd spelled
field_sound true segment_metadata field (pdus.Eof header eof) are is spelled = absurd spelled
field_sound true segment_metadata field (pdus.Finished header finished) are is spelled = absurd spelled
field_sound true segment_metadata field (pdus.NotOurs header code) are is spelled = absurd spelled
field_sound false segment_metadata [] pdu are is spelled = absurd spelled
field_sound false segment_metadata (code ∷ octets) pdu are is spelled = directive_sound code octets pdu are.1 is spelled

pub pdu_sound : (octets : List ℕ) (pdu : Pdu) → AreOctets octets → SpellsPdu octets pdu → IsSound pdu
pdu_sound [] pdu are spelled = absurd spelled
pdu_sound (first ∷ []) pdu are spelled = absurd spelled
pdu_sound (first ∷ high ∷ []) pdu are spelled = absurd spelled
pdu_sound (first ∷ high ∷ low ∷ []) pdu are spelled = absurd spelled
pdu_sound (first ∷ high ∷ low ∷ fourth ∷ rest) pdu are spelled =
    let all = subst AreOctets spelled.parts are.1.1.1.1 in
    let names = front spelled.names spelled.field all in
    field_sound (flag 4 first) (flag 3 fourth) spelled.field pdu (following spelled.names spelled.field all)
    (header_sound first fourth spelled.names (header_of pdu) names spelled.header) spelled.spelled

pub is_sound : (octets : List ℕ) (result : Result Pdu PduFault) → AreOctets octets → IfOk result (SpellsPdu octets) → IfOk result IsSound
is_sound octets (Ok pdu) are found = pdu_sound octets pdu are found
is_sound octets (Err fault) are found = tt
