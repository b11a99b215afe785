-- What is written of a PDU spells it.
use Rattle.std.proofs.Common.{◌≡◌, ◌≤◌, ◌<◌, ℕ, ◌+◌, ◌-◌, ◌*◌, ◌/◌, ◌%◌, ◌^◌, List, [], ◌∷◌, ◌++◌, length, Bool, true, false, not, eqb, cond, Option, Some, None, refl, sym, ap, subst, ◌∙◌, append_assoc, arith}
use Rattle.std.specs.Prelude.{IfSome}
use Rattle.std.specs.List.{flat_map, AllByRecursion}
use Rattle.std.proofs.lemmas.Bool.{leb-true, and_parts}
use Rattle.std.proofs.lemmas.List.{append-nil, length-append}
use Rattle.std.proofs.lemmas.List.Concat.{flat_map-cons}
use Rattle.byteorder.specs.Endian.{big_bytes, big_number}
use Rattle.byteorder.specs.Numbers.{length-bytes_high_first, big_number-reads_back}
use Rattle.cfdp_tlv.specs.Values.{RequestFields, ResponseFields, IsResponse}
use Rattle.cfdp_tlv.specs.Grammar.{request_octets, response_octets}
use Rattle.cfdp_tlv.proofs.Requests.{request_spelled}
use Rattle.cfdp_tlv.proofs.Responses.{response_spelled}
use Rattle.cfdp_pdus.specs.declared.header.Header.{Header}
use Rattle.cfdp_pdus.specs.declared.eof.Eof.{Eof}
use Rattle.cfdp_pdus.specs.declared.pdu.Pdu.{Pdu}
use Rattle.cfdp_pdus.specs.declared.pdu.Pdu.TheVariants as pdus
use Rattle.cfdp_pdus.specs.Values.{MetadataFields, FileDataFields, FinishedFields}
use Rattle.cfdp_pdus.specs.Bits.{flag, one_if, IsNumber, fss}
use Rattle.cfdp_pdus.specs.Grammar.{Field, field_octets, values_of, EachAsks, EachTells, AreEntities, last_entity, HasHeader, header_of, SpellsField, SpellsPdu}
use Rattle.cfdp_pdus.specs.Canonical.{IsHeader, first_octet, fourth_octet, names_octets, pdu_octets, request_field, metadata_field, IsSizedMetadata, IsAnswerable, metadata_fits, file_data_field, IsSizedFileData, file_data_fits, location, eof_location, eof_field, IsSizedEof, response_field, fault_location, finished_field, IsSizedFinished, finished_fits}

-- ---- numbers

pub number_spelled : (len x : ℕ) → x < 256 ^ len → IsNumber (big_bytes len x) len x
number_spelled len x fits = record {
  len_is = length-bytes_high_first len x;
  spelled = sym (ap (big_number len) (sym (append-nil (big_bytes len x))) ∙ big_number-reads_back len x [] fits);
}

-- ---- the header

abbrev first_of : (file_data toward_sender acknowledged large : Bool) → ℕ
first_of file_data toward_sender acknowledged large = 32 + 16 * one_if file_data + 8 * one_if toward_sender + 4 * one_if (not acknowledged) + one_if large

bits : (file_data toward_sender acknowledged large : Bool)
    → (first_of file_data toward_sender acknowledged large / 32 ≡ 1) × (flag 1 (first_of file_data toward_sender acknowledged large) ≡ false)
    × (toward_sender ≡ flag 3 (first_of file_data toward_sender acknowledged large))
    × (acknowledged ≡ not (flag 2 (first_of file_data toward_sender acknowledged large)))
    × (large ≡ flag 0 (first_of file_data toward_sender acknowledged large)) × (file_data ≡ flag 4 (first_of file_data toward_sender acknowledged large))
bits false false false false = (refl, refl, refl, refl, refl, refl)
bits false false false true = (refl, refl, refl, refl, refl, refl)
bits false false true false = (refl, refl, refl, refl, refl, refl)
bits false false true true = (refl, refl, refl, refl, refl, refl)
bits false true false false = (refl, refl, refl, refl, refl, refl)
bits false true false true = (refl, refl, refl, refl, refl, refl)
bits false true true false = (refl, refl, refl, refl, refl, refl)
bits false true true true = (refl, refl, refl, refl, refl, refl)
bits true false false false = (refl, refl, refl, refl, refl, refl)
bits true false false true = (refl, refl, refl, refl, refl, refl)
bits true false true false = (refl, refl, refl, refl, refl, refl)
bits true false true true = (refl, refl, refl, refl, refl, refl)
bits true true false false = (refl, refl, refl, refl, refl, refl)
bits true true false true = (refl, refl, refl, refl, refl, refl)
bits true true true false = (refl, refl, refl, refl, refl, refl)
bits true true true true = (refl, refl, refl, refl, refl, refl)

-- the fourth octet has no flag but the lengths
no_metadata : (a b : ℕ) → a ≤ 7 → b ≤ 7 → (16 * a + b) / 8 % 2 ≡ 0
no_metadata a b p q = omega arith

fourth_says : (header : Header) → IsHeader header → (header.id_len ≡ fourth_octet header / 16 % 8 + 1) × (header.number_len ≡ fourth_octet header % 8 + 1)
    × (flag 3 (fourth_octet header) ≡ false)
fourth_says header is =
    let none = no_metadata (header.id_len - 1) (header.number_len - 1) (omega (arith, is.id_high)) (omega (arith, is.number_high)) in
    (omega (arith, is.id_low, is.id_high, is.number_low, is.number_high), omega (arith, is.id_low, is.id_high, is.number_low, is.number_high), rw none refl)

header_spelled : (file_data : Bool) (header : Header) → IsHeader header →
    HasHeader (first_octet file_data header) (fourth_octet header) (names_octets header) header
header_spelled file_data header is =
    let says = bits file_data header.toward_sender header.acknowledged header.large in
    let lens = fourth_says header is in
    record {
      version = says.0;
      no_crc = says.1;
      direction = says.2;
      mode = says.3;
      large = says.4;
      id_len = lens.0;
      number_len = lens.1;
      source_octets = big_bytes header.id_len header.source;
      number_octets = big_bytes header.number_len header.number;
      destination_octets = big_bytes header.id_len header.destination;
      parts = refl;
      source = number_spelled header.id_len header.source is.source;
      number = number_spelled header.number_len header.number is.number;
      destination = number_spelled header.id_len header.destination is.destination;
    }

-- a header before a data field that is spelled so, of at most 65,535 octets
pub pdu_spelled : (file_data : Bool) (pdu : Pdu) (field : List ℕ) → IsHeader (header_of pdu) → length field ≤ 65535 → SpellsField file_data false field pdu →
    SpellsPdu (pdu_octets file_data (header_of pdu) field) pdu
pdu_spelled file_data pdu field is short spelled =
    let header = header_of pdu in
    let says = bits file_data header.toward_sender header.acknowledged header.large in
    let lens = fourth_says header is in
    record {
      names = names_octets header;
      field = field;
      parts = refl;
      field_len = omega (arith, short);
      header = header_spelled file_data header is;
      spelled = rw (← says.5, lens.2) spelled;
    }

-- ---- TLV fields

abbrev asked_fields : List RequestFields → List Field
asked_fields [] = []
asked_fields (request ∷ requests) = (0, request_octets request) ∷ asked_fields requests

asked_octets : (requests : List RequestFields) → field_octets (asked_fields requests) ≡ flat_map request_field requests
asked_octets [] = refl
asked_octets (request ∷ requests) = ap (λ (t : List ℕ). request_field request ++ t) (asked_octets requests) ∙ sym (flat_map-cons request_field request requests)

each_asks : (requests : List RequestFields) → AllByRecursion IsAnswerable requests → EachAsks (values_of 0 (asked_fields requests)) requests
each_asks [] all = tt
each_asks (request ∷ requests) all = (request_spelled request all.0.complete, all.0.short, each_asks requests all.1)

abbrev response_fields : List ResponseFields → List Field
response_fields [] = []
response_fields (response ∷ responses) = (1, response_octets response) ∷ response_fields responses

abbrev located_fields : ℕ → Option ℕ → List Field
located_fields id_len None = []
located_fields id_len (Some entity) = (6, big_bytes id_len entity) ∷ []

located_octets : (id_len : ℕ) (fault : Option ℕ) → field_octets (located_fields id_len fault) ≡ fault_location id_len fault
located_octets id_len None = refl
located_octets id_len (Some entity) = append-nil (location id_len entity)

octets_of_responses : (responses : List ResponseFields) (others : List Field)
    → field_octets (response_fields responses ++ others) ≡ flat_map response_field responses
    ++ field_octets others
octets_of_responses [] others = refl
octets_of_responses (response ∷ responses) others =
    ap (λ (t : List ℕ). response_field response ++ t) (octets_of_responses responses others)
    ∙ sym (append_assoc (response_field response) (flat_map response_field responses) (field_octets others))
    ∙ ap (λ (t : List ℕ). t ++ field_octets others) (sym (flat_map-cons response_field response responses))

responses_found : (responses : List ResponseFields) (id_len : ℕ) (fault : Option ℕ) → AllByRecursion IsResponse responses →
    EachTells (values_of 1 (response_fields responses ++ located_fields id_len fault)) responses
responses_found [] id_len None all = tt
responses_found [] id_len (Some entity) all = tt
responses_found (response ∷ responses) id_len fault all = (response_spelled response all.0, responses_found responses id_len fault all.1)

locations_after : (responses : List ResponseFields) (others : List Field) → values_of 6 (response_fields responses ++ others) ≡ values_of 6 others
locations_after [] others = refl
locations_after (response ∷ responses) others = locations_after responses others

located_entities : (id_len : ℕ) (fault : Option ℕ) → 1 ≤ id_len → id_len ≤ 8 → AreEntities (values_of 6 (located_fields id_len fault))
located_entities id_len None low high = tt
located_entities id_len (Some entity) low high =
    let len = length-bytes_high_first id_len entity in
    ((omega (arith, len, low), omega (arith, len, high)), tt)

located_last : (id_len : ℕ) (fault : Option ℕ) → IfSome fault (λ entity. entity < 256 ^ id_len) → fault
    ≡ last_entity (values_of 6 (located_fields id_len fault))
located_last id_len None fits = refl
located_last id_len (Some entity) fits =
    let number = number_spelled id_len entity fits in
    let same : entity ≡ big_number (length (big_bytes id_len entity)) (big_bytes id_len entity) = number.spelled
    ∙ ap (λ (n : ℕ). big_number n (big_bytes id_len entity)) (sym number.len_is) in
    ap (λ (n : ℕ). Some n) same

-- ---- flags

pub one_if-small : (b : Bool) → one_if b ≤ 1
one_if-small true = omega arith
one_if-small false = omega arith

one_if-is : (b : Bool) → b ≡ eqb (one_if b) 1
one_if-is true = refl
one_if-is false = refl

closure_says : (closure : Bool) (checksum_type : ℕ) → checksum_type < 16 → closure ≡ flag 6 (64 * one_if closure + checksum_type)
closure_says closure checksum_type fits =
    let bit : (64 * one_if closure + checksum_type) / 64 % 2 ≡ one_if closure = omega (arith, one_if-small closure) in
    rw bit (one_if-is closure)

incomplete_says : (condition : ℕ) (incomplete : Bool) (file_status : ℕ) → file_status < 4 → incomplete
    ≡ flag 2 (16 * condition + 4 * one_if incomplete + file_status)
incomplete_says condition incomplete file_status fits =
    let bit : (16 * condition + 4 * one_if incomplete + file_status) / 4 % 2 ≡ one_if incomplete = omega (arith, one_if-small incomplete) in
    rw bit (one_if-is incomplete)

-- ---- data fields

pub metadata_spelled : (header : Header) (metadata : MetadataFields) → IsSizedMetadata header.large metadata → AllByRecursion IsAnswerable metadata.requests →
    SpellsField false false (metadata_field header.large metadata) (pdus.Metadata header metadata)
unfolding metadata_field
metadata_spelled header metadata sized all = (
  refl,
  record {
    flags = 64 * one_if metadata.closure + metadata.checksum_type;
    size_octets = big_bytes (fss header.large) metadata.size;
    options = asked_fields metadata.requests;
    parts = rw (asked_octets metadata.requests) refl;
    closure = closure_says metadata.closure metadata.checksum_type sized.checksum_type;
    checksum_type = omega (arith, sized.checksum_type, one_if-small metadata.closure);
    size = number_spelled (fss header.large) metadata.size sized.size;
    requests = each_asks metadata.requests all;
  },
)

pub file_data_spelled : (header : Header) (file_data : FileDataFields) → IsSizedFileData header.large file_data →
    SpellsField true false (file_data_field header.large file_data) (pdus.FileData header file_data)
unfolding file_data_field
file_data_spelled header file_data sized = record {
  segment = [];
  offset_octets = big_bytes (fss header.large) file_data.offset;
  parts = refl;
  state = refl;
  offset = number_spelled (fss header.large) file_data.offset sized.offset;
}

-- the source entity, where there is a fault
abbrev eof_fields : Header → Eof → List Field
eof_fields header eof = cond (eqb eof.condition 0) [] ((6, big_bytes header.id_len header.source) ∷ [])

eof_octets : (none : Bool) (id_len entity : ℕ) → field_octets (cond none [] ((6, big_bytes id_len entity) ∷ [])) ≡ cond none [] (location id_len entity)
eof_octets true id_len entity = refl
eof_octets false id_len entity = append-nil (location id_len entity)

pub eof_spelled : (header : Header) (eof : Eof) → IsSizedEof header.large eof → eof.checksum < 256 ^ 4 →
    SpellsField false false (eof_field header eof) (pdus.Eof header eof)
unfolding eof_field
eof_spelled header eof sized checksum = (
  refl,
  record {
    condition_octet = 16 * eof.condition;
    checksum_octets = big_bytes 4 eof.checksum;
    size_octets = big_bytes (fss header.large) eof.size;
    fields = eof_fields header eof;
    parts = rw (eof_octets (eqb eof.condition 0) header.id_len header.source) refl;
    condition = omega arith;
    checksum = number_spelled 4 eof.checksum checksum;
    size = number_spelled (fss header.large) eof.size sized.size;
  },
)

pub finished_spelled : (header : Header) (finished : FinishedFields) → IsHeader header → IsSizedFinished header finished →
    AllByRecursion IsResponse finished.responses → SpellsField false false (finished_field header finished) (pdus.Finished header finished)
unfolding finished_field
finished_spelled header finished is sized all =
    let others = located_fields header.id_len finished.fault in
    let octets = octets_of_responses finished.responses others ∙ ap (λ (t : List ℕ). flat_map response_field finished.responses ++ t)
    (located_octets header.id_len finished.fault) in
    let sixes = locations_after finished.responses others in (
      refl,
      record {
        flags = 16 * finished.condition + 4 * one_if finished.incomplete + finished.file_status;
        fields = response_fields finished.responses ++ others;
        parts = rw octets refl;
        condition = omega (arith, sized.file_status, one_if-small finished.incomplete);
        incomplete = incomplete_says finished.condition finished.incomplete finished.file_status sized.file_status;
        file_status = omega (arith, sized.file_status);
        responses = responses_found finished.responses header.id_len finished.fault all;
        entities = subst AreEntities (sym sixes) (located_entities header.id_len finished.fault is.id_low is.id_high);
        fault = located_last header.id_len finished.fault sized.fault ∙ ap last_entity (sym sixes);
      },
    )

-- ---- lengths

pub metadata_short : (large : Bool) (metadata : MetadataFields) → metadata_fits large metadata ≡ true → length (metadata_field large metadata) ≤ 65535
unfolding metadata_fits
metadata_short large metadata e = leb-true _ _ (and_parts _ _ e).1

pub finished_short : (header : Header) (finished : FinishedFields) → finished_fits header finished ≡ true → length (finished_field header finished) ≤ 65535
unfolding finished_fits
finished_short header finished e = leb-true _ _ (and_parts _ _ e).1

pub file_data_short : (large : Bool) (file_data : FileDataFields) → file_data_fits large file_data ≡ true → length (file_data_field large file_data) ≤ 65535
unfolding file_data_fits
file_data_short large file_data e = leb-true _ _ e

pub fss_small : (large : Bool) → fss large ≤ 8
fss_small true = omega arith
fss_small false = omega arith

eof_location_small : (none : Bool) (id_len entity : ℕ) → id_len ≤ 8 → length (cond none [] (location id_len entity)) ≤ 10
eof_location_small true id_len entity high = omega arith
eof_location_small false id_len entity high = omega (arith, length-bytes_high_first id_len entity)

pub eof_short : (header : Header) (eof : Eof) → IsHeader header → length (eof_field header eof) ≤ 65535
unfolding eof_field
eof_short header eof is =
    let checksum = length-bytes_high_first 4 eof.checksum in
    let size = length-bytes_high_first (fss header.large) eof.size in
    let location = eof_location_small (eqb eof.condition 0) header.id_len header.source is.id_high in
    let fss_len = fss_small header.large in
    omega (
      arith,
      length-append (big_bytes 4 eof.checksum) (big_bytes (fss header.large) eof.size ++ eof_location header eof),
      length-append (big_bytes (fss header.large) eof.size) (eof_location header eof),
      checksum,
      size,
      location,
      fss_len,
    )
