-- The messages to user that are lent are the options of type 2 that are spelled.
use Rattle.std.proofs.Common.{◌≡◌, ◌<◌, ◌≤◌, ℕ, zero, suc, ◌-◌, ◌%◌, List, [], ◌∷◌, ◌++◌, length, drop, Bool, true, false, eqb, cond, Option, Some, None, Result, Ok, Err, refl, sym, ap, ◌∙◌, append_assoc, arith}
use Rattle.std.specs.Prelude.{slice_get}
use Rattle.std.proofs.lemmas.List.{drop_at, length-append}
use Rattle.cfdp_status.proofs.Choices.{either_way}
use Rattle.cfdp_tlv.specs.Field.{lv, tlv_at}
use Rattle.cfdp_tlv.specs.declared.fault.TlvFault.{TlvFault}
use Rattle.cfdp_tlv.specs.Reading.{◌>>=◌}
use Rattle.cfdp_tlv.specs.Values.{RequestFields}
use Rattle.cfdp_tlv.proofs.Steps.{bind_ok, ok_is}
use Rattle.cfdp_pdus.specs.declared.header.Header.{Header}
use Rattle.cfdp_pdus.specs.declared.pdu.Pdu.{Pdu}
use Rattle.cfdp_pdus.specs.declared.pdu.Pdu.TheVariants as pdus
use Rattle.cfdp_pdus.specs.declared.fault.PduFault.{PduFault}
use Rattle.cfdp_pdus.specs.declared.fault.PduFault.TheVariants.{LengthMismatch, BadDirective}
use Rattle.cfdp_pdus.specs.declared.eof.Eof.{Eof}
use Rattle.cfdp_pdus.specs.Values.{MetadataFields, FileDataFields, FinishedFields}
use Rattle.cfdp_pdus.specs.Bits.{flag, fss}
use Rattle.cfdp_pdus.specs.Grammar.{Field, field_octets, values_of, SpellsMetadata, SpellsField, SpellsPdu}
use Rattle.cfdp_pdus.specs.First.{Start, front_field, some_fields_at, number_at, name_field_at, fields_at, requests_of, metadata_at, file_data_at, eof_at, finished_at, directive_at, field_at, start_at}
use Rattle.cfdp_pdus.specs.Messages.{whole_fields, messages_among, before_options, messages_of, messages_from, messages_at, spelled_options, options_said}
use Rattle.cfdp_pdus.specs.code.Messages.{after_names, judged_options, options_in, options_from, options_at}
use Rattle.cfdp_pdus.specs.code.Counting.{count_read}
use Rattle.cfdp_pdus.proofs.Splits.{fields_at-step, fields_at-cut, fields_at-nil}
use Rattle.cfdp_pdus.proofs.FieldSteps.{all_of, fields_again}
use Rattle.cfdp_pdus.proofs.RequestSteps.{requests_again}
use Rattle.cfdp_pdus.proofs.NumberSteps.{number_again}
use Rattle.cfdp_pdus.proofs.DataSteps.{name_again, metadata_takes}
use Rattle.cfdp_pdus.proofs.PduSteps.{header_again, field_again, pdu_takes}

-- ---- one field further

pub message_here : (rest : List ℕ) (kind : ℕ) (value after : List ℕ) → tlv_at rest ≡ Ok (kind, value, after) → kind ≡ 2
    → messages_among rest ≡ value ∷ messages_among after
unfolding messages_among
message_here rest kind value after read two =
    let is_message : eqb kind 2 ≡ true = rw two refl in
    rw (fields_at-step rest kind value after read, is_message) refl

pub no_message_here : (rest : List ℕ) (kind : ℕ) (value after : List ℕ) → tlv_at rest ≡ Ok (kind, value, after) → eqb kind 2 ≡ false
    → messages_among rest ≡ messages_among after
unfolding messages_among
no_message_here rest kind value after read other = rw (fields_at-step rest kind value after read, other) refl

pub none_after : (rest : List ℕ) (fault : TlvFault) → tlv_at rest ≡ Err fault → messages_among rest ≡ []
unfolding messages_among
none_after [] fault read = rw fields_at-nil refl
none_after (octet ∷ octets) fault read = rw (fields_at-cut (octet ∷ octets) fault (λ nil. cc) read) refl

pub none_in_nothing : messages_among [] ≡ []
unfolding messages_among
none_in_nothing = rw fields_at-nil refl

-- there are no more messages than octets
few_kind : (is_message : Bool) (value : List ℕ) (values : List (List ℕ)) (n : ℕ) → length values ≤ n → length (cond is_message (value ∷ values) values) ≤ suc n
few_kind true value values n few = omega arith
few_kind false value values n few = omega arith

few_front : (read : Result (ℕ × List ℕ × List ℕ) TlvFault) (n : ℕ) (next : List ℕ → List (Option Field))
    → ((rest : List ℕ) → length (values_of 2 (whole_fields (next rest))) ≤ n) → length (values_of 2 (whole_fields (front_field read next))) ≤ suc n
few_front (Ok field) n next few = few_kind (eqb field.0 2) field.1 (values_of 2 (whole_fields (next field.2))) n (few field.2)
few_front (Err fault) n next few = omega arith

few_fields : (n : ℕ) (octets : List ℕ) → length (values_of 2 (whole_fields (some_fields_at n octets))) ≤ n
unfolding some_fields_at
few_fields zero octets = omega arith
few_fields (suc n) [] = omega arith
few_fields (suc n) (octet ∷ octets) = few_front (tlv_at (octet ∷ octets)) n (some_fields_at n) (few_fields n)

pub few_messages : (octets : List ℕ) → length (messages_among octets) ≤ length octets
unfolding messages_among fields_at
few_messages octets = few_fields (length octets) octets

-- ---- the options that are spelled

whole_all : (fields : List Field) → whole_fields (all_of fields) ≡ fields
whole_all [] = refl
whole_all (field ∷ fields) = ap (λ (fs : List Field). field ∷ fs) (whole_all fields)

among_spelled : (options : List Field) → messages_among (field_octets options) ≡ values_of 2 options
unfolding messages_among
among_spelled options =
    ap (λ fields. values_of 2 (whole_fields fields)) (fields_again options) ∙ ap (values_of 2) (whole_all options)

-- they are what is left of the data field after the names
options_left : (large : Bool) (code : ℕ) (octets : List ℕ) (metadata : MetadataFields) (said : SpellsMetadata large octets metadata)
    → drop (before_options large metadata) (code ∷ octets) ≡ field_octets said.options
options_left large code octets metadata said =
    let source = lv metadata.source_name in
    let destination = lv metadata.destination_name in
    let rest = field_octets said.options in
    let names : List ℕ = source ++ destination in
    let front : List ℕ = code ∷ said.flags ∷ (said.size_octets ++ names) in
    let named : said.size_octets ++ (source ++ (destination ++ rest)) ≡ (said.size_octets ++ names) ++ rest =
    ap (λ (t : List ℕ). said.size_octets ++ t) (sym (append_assoc source destination rest)) ∙ sym (append_assoc said.size_octets names rest) in
    let parts : code ∷ octets ≡ front ++ rest =
    ap (λ (t : List ℕ). code ∷ t) said.parts ∙ ap (λ (t : List ℕ). code ∷ said.flags ∷ t) named in
    let len : length front ≡ before_options large metadata =
    omega (arith, said.size.len_is, length-append said.size_octets names, length-append source destination) in
    ap (drop (before_options large metadata)) parts ∙ drop_at front rest (before_options large metadata) len

left_messages : (large : Bool) (code : ℕ) (octets : List ℕ) (metadata : MetadataFields) (said : SpellsMetadata large octets metadata)
    → messages_among (drop (before_options large metadata) (code ∷ octets)) ≡ values_of 2 said.options
left_messages large code octets metadata said =
    ap messages_among (options_left large code octets metadata said) ∙ among_spelled said.options

of_field : (file_data segment_metadata : Bool) (field : List ℕ) (header : Header) (metadata : MetadataFields)
    (said : SpellsField file_data segment_metadata field (pdus.Metadata header metadata))
    → messages_among (drop (before_options header.large metadata) field) ≡ values_of 2 (spelled_options file_data segment_metadata field header metadata said)
of_field true segment_metadata field header metadata said = absurd said
of_field false segment_metadata [] header metadata said = absurd said
of_field false segment_metadata (code ∷ octets) header metadata said = left_messages header.large code octets metadata said.1

pub spelled_messages : (octets : List ℕ) (header : Header) (metadata : MetadataFields) (said : SpellsPdu octets (pdus.Metadata header metadata))
    → messages_at octets ≡ values_of 2 (options_said octets header metadata said)
unfolding messages_at
spelled_messages [] header metadata said = absurd said
spelled_messages (first ∷ []) header metadata said = absurd said
spelled_messages (first ∷ high ∷ []) header metadata said = absurd said
spelled_messages (first ∷ high ∷ low ∷ []) header metadata said = absurd said
spelled_messages (first ∷ high ∷ low ∷ fourth ∷ rest) header metadata said =
    let begun = ap (λ (t : List ℕ). start_at (first ∷ high ∷ low ∷ fourth ∷ t)) said.parts
    ∙ header_again first high low fourth said.names said.field header said.header said.field_len in
    let read = field_again (flag 4 first) (flag 3 fourth) said.field (pdus.Metadata header metadata) said.spelled in
    ap messages_from begun
    ∙ ap (λ (pdu : Result Pdu PduFault). messages_of pdu said.field) read
    ∙ of_field (flag 4 first) (flag 3 fourth) said.field header metadata said.spelled

-- ---- where no Metadata PDU is spelled

no_metadata : (read : Result Pdu PduFault) (field : List ℕ) → ((header : Header) (metadata : MetadataFields) → read ≡ Ok (pdus.Metadata header metadata) → ⊥)
    → messages_of read field ≡ []
no_metadata (Ok (pdus.Metadata header metadata)) field never = absurd (never header metadata refl)
no_metadata (Ok (pdus.FileData header file_data)) field never = refl
no_metadata (Ok (pdus.Eof header eof)) field never = refl
no_metadata (Ok (pdus.Finished header finished)) field never = refl
no_metadata (Ok (pdus.NotOurs header code)) field never = refl
no_metadata (Err fault) field never = refl

no_metadata_from : (read : Result Start PduFault)
    → ((header : Header) (metadata : MetadataFields) → (read >>= field_at) ≡ Ok (pdus.Metadata header metadata) → ⊥) → messages_from read ≡ []
no_metadata_from (Ok start) never = no_metadata (field_at start) start.field never
no_metadata_from (Err fault) never = refl

pub no_messages : (octets : List ℕ) → ((header : Header) (metadata : MetadataFields) → SpellsPdu octets (pdus.Metadata header metadata) → ⊥)
    → messages_at octets ≡ []
unfolding messages_at
no_messages octets never =
    no_metadata_from (start_at octets) (λ header metadata read. never header metadata (pdu_takes octets (pdus.Metadata header metadata) read))

-- ---- read from left to right

abbrev pub found : Result (List ℕ) PduFault → List (List ℕ)
found (Ok options) = messages_among options
found (Err fault) = []

names_again : (large : Bool) (octets : List ℕ) (metadata : MetadataFields) (said : SpellsMetadata large octets metadata)
    → after_names large octets ≡ Ok (field_octets said.options)
unfolding after_names
names_again large octets metadata said =
    ap (after_names large) said.parts
    ∙ rw (
      number_again LengthMismatch (fss large) said.size_octets metadata.size (lv metadata.source_name
          ++ (lv metadata.destination_name ++ field_octets said.options)) said.size,
      name_again metadata.source_name (lv metadata.destination_name ++ field_octets said.options),
      name_again metadata.destination_name (field_octets said.options),
    ) refl

options_again : (large : Bool) (octets : List ℕ) (metadata : MetadataFields) (said : SpellsMetadata large octets metadata)
    → (after_names large octets >>= judged_options) ≡ Ok (field_octets said.options)
options_again large octets metadata said =
    let requests : requests_of (fields_at (field_octets said.options)) ≡ Ok metadata.requests =
    ap requests_of (fields_again said.options) ∙ requests_again said.options metadata.requests said.requests in
    rw (names_again large octets metadata said, requests) refl

-- where the options are found, a Metadata PDU is read
record Read (large : Bool) (octets : List ℕ) : Type 0 where
  metadata : MetadataFields
  is : metadata_at large octets ≡ Ok metadata

metadata_made : (large : Bool) (flags : ℕ) (octets : List ℕ) (size : ℕ) (after_size source after_source destination rest : List ℕ)
    (requests : List RequestFields)
    → number_at LengthMismatch (fss large) octets ≡ Ok (size, after_size) → name_field_at after_size ≡ Ok (source, after_source)
    → name_field_at after_source ≡ Ok (destination, rest) → requests_of (fields_at rest) ≡ Ok requests → Read large (flags ∷ octets)
unfolding metadata_at
metadata_made large flags octets size after_size source after_source destination rest requests one two three four = record {
  metadata = record {
    closure = flag 6 flags;
    checksum_type = flags % 16;
    size = size;
    source_name = source;
    destination_name = destination;
    requests = requests;
  };
  is = rw (one, two, three, four) refl;
}

-- where the names are found, each part of them is
record Named (large : Bool) (octets rest : List ℕ) : Type 0 where
  size : ℕ
  after_size : List ℕ
  source : List ℕ
  after_source : List ℕ
  destination : List ℕ
  one : number_at LengthMismatch (fss large) octets ≡ Ok (size, after_size)
  two : name_field_at after_size ≡ Ok (source, after_source)
  three : name_field_at after_source ≡ Ok (destination, rest)

names_read : (large : Bool) (flags : ℕ) (octets rest : List ℕ) → after_names large (flags ∷ octets) ≡ Ok rest → Named large octets rest
unfolding after_names
names_read large flags octets rest e =
    let a = bind_ok (number_at LengthMismatch (fss large) octets)
    (λ size. name_field_at size.1 >>= λ source. name_field_at source.1 >>= λ destination. Ok destination.1)
    rest e in
    let b = bind_ok (name_field_at a.0.1) (λ source. name_field_at source.1 >>= λ destination. Ok destination.1) rest a.2 in
    let d = bind_ok (name_field_at b.0.1) (λ destination. Ok destination.1) rest b.2 in
    let last : name_field_at b.0.1 ≡ Ok (d.0.0, rest) = d.1 ∙ ap (λ (t : List ℕ). Ok (d.0.0, t)) (ok_is d.0.1 rest d.2) in
    record { size = a.0.0; after_size = a.0.1; source = b.0.0; after_source = b.0.1; destination = d.0.0; one = a.1; two = b.1; three = last }

no_names : (large : Bool) (rest : List ℕ) → after_names large [] ≡ Ok rest → ⊥
unfolding after_names
no_names large rest e = cc

options_read : (large : Bool) (octets options : List ℕ) → (after_names large octets >>= judged_options) ≡ Ok options → Read large octets
options_read large [] options e =
    let a = bind_ok (after_names large []) judged_options options e in
    absurd (no_names large a.0 a.1)
options_read large (flags ∷ octets) options e =
    let a = bind_ok (after_names large (flags ∷ octets)) judged_options options e in
    let named = names_read large flags octets a.0 a.1 in
    let r = bind_ok (requests_of (fields_at a.0)) (λ requests. Ok a.0) options a.2 in
    metadata_made large flags octets named.size named.after_size named.source named.after_source named.destination a.0 r.0 named.one named.two named.three r.1

never_both : {A : Type 0} (read : Result A PduFault) (x : A) (fault : PduFault) → read ≡ Ok x → read ≡ Err fault → ⊥
never_both read x fault e f = cc

not_found : (large : Bool) (octets : List ℕ) (fault : PduFault) (options : Result (List ℕ) PduFault)
    → metadata_at large octets ≡ Err fault → (after_names large octets >>= judged_options) ≡ options → found options ≡ []
not_found large octets fault (Ok options) failed e =
    let read = options_read large octets options e in
    absurd (never_both (metadata_at large octets) read.metadata fault read.is failed)
not_found large octets fault (Err other) failed e = refl

of_metadata : (header : Header) (code : ℕ) (octets : List ℕ) (read : Result MetadataFields PduFault) → metadata_at header.large octets ≡ read
    → messages_of (read >>= λ metadata. Ok (pdus.Metadata header metadata)) (code ∷ octets) ≡ found (after_names header.large octets >>= judged_options)
of_metadata header code octets (Ok metadata) e =
    let said = metadata_takes header.large octets metadata e in
    ap messages_among (options_left header.large code octets metadata said)
    ∙ sym (ap found (options_again header.large octets metadata said))
of_metadata header code octets (Err fault) e = sym (not_found header.large octets fault (after_names header.large octets >>= judged_options) e refl)

-- a PDU of another kind has none
record Silent (read : Result Pdu PduFault) (field : List ℕ) : Type 0 where
  none : messages_of read field ≡ []

chosen : (b : Bool) {x y : Result Pdu PduFault} {field : List ℕ} → Silent x field → Silent y field → Silent (cond b x y) field
chosen b {field = field} left right = either_way (λ (r : Result Pdu PduFault). Silent r field) b _ _ left right

file_data : (header : Header) (read : Result FileDataFields PduFault) (field : List ℕ) → Silent (read >>= λ d. Ok (pdus.FileData header d)) field
file_data header (Ok d) field = record { none = refl }
file_data header (Err fault) field = record { none = refl }

eof : (header : Header) (read : Result Eof PduFault) (field : List ℕ) → Silent (read >>= λ e. Ok (pdus.Eof header e)) field
eof header (Ok e) field = record { none = refl }
eof header (Err fault) field = record { none = refl }

finished : (header : Header) (read : Result FinishedFields PduFault) (field : List ℕ) → Silent (read >>= λ f. Ok (pdus.Finished header f)) field
finished header (Ok f) field = record { none = refl }
finished header (Err fault) field = record { none = refl }

not_ours : {header : Header} {code : ℕ} {field : List ℕ} → Silent (Ok (pdus.NotOurs header code)) field
not_ours = record { none = refl }

refused : {fault : PduFault} {field : List ℕ} → Silent (Err fault) field
refused = record { none = refl }

of_directive : (header : Header) (code : ℕ) (octets : List ℕ) (is_metadata : Bool)
    → messages_of (cond is_metadata (metadata_at header.large octets >>= λ metadata. Ok (pdus.Metadata header metadata))
    (cond (eqb code 4) (eof_at header.large octets >>= λ e. Ok (pdus.Eof header e))
    (cond (eqb code 5) (finished_at octets >>= λ f. Ok (pdus.Finished header f))
    (cond (eqb code 6) (Ok (pdus.NotOurs header 6)) (cond (eqb code 8) (Ok (pdus.NotOurs header 8))
    (cond (eqb code 9) (Ok (pdus.NotOurs header 9)) (cond (eqb code 12) (Ok (pdus.NotOurs header 12)) (Err BadDirective)))))))) (code ∷ octets)
    ≡ found (cond is_metadata (after_names header.large octets >>= judged_options) (Err BadDirective))
of_directive header code octets true = of_metadata header code octets (metadata_at header.large octets) refl
of_directive header code octets false =
    (chosen (eqb code 4) (eof header _ _) (chosen (eqb code 5) (finished header _ _) (chosen (eqb code 6) not_ours
    (chosen (eqb code 8) not_ours (chosen (eqb code 9) not_ours (chosen (eqb code 12) not_ours refused)))))).none

of_start : (file_data segment_metadata : Bool) (header : Header) (field : List ℕ)
    → messages_of (field_at (record { file_data = file_data; segment_metadata = segment_metadata; header = header; field = field })) field
    ≡ found (options_from (record { file_data = file_data; segment_metadata = segment_metadata; header = header; field = field }))
unfolding field_at directive_at options_in
of_start true segment_metadata header field = (file_data header (file_data_at header.large segment_metadata field) field).none
of_start false segment_metadata header [] = refl
of_start false segment_metadata header (code ∷ octets) = of_directive header code octets (eqb code 7)

found_from : (read : Result Start PduFault) → messages_from read ≡ found (read >>= options_from)
found_from (Ok start) = of_start start.file_data start.segment_metadata start.header start.field
found_from (Err fault) = refl

pub messages_are : (octets : List ℕ) → messages_at octets ≡ found (options_at octets)
unfolding messages_at options_at
messages_are octets = found_from (start_at octets)

-- ---- what the code learns

counted_ok : (options : List ℕ) (count : ℕ) (read : Result (List RequestFields) PduFault) → Ok count ≡ count_read read → (read >>= λ requests. Ok options)
    ≡ Ok options
counted_ok options count (Ok requests) e = refl
counted_ok options count (Err fault) e = absurd cc

counted_err : (options : List ℕ) (fault : PduFault) (read : Result (List RequestFields) PduFault) → Err fault ≡ count_read read →
    (read >>= λ requests. Ok options) ≡ Err fault
counted_err options fault (Ok requests) e = absurd cc
counted_err options fault (Err other) e = cc

-- the requests were counted
pub judged_ok : (options : List ℕ) (count : ℕ) → Ok count ≡ count_read (requests_of (fields_at options)) → judged_options options ≡ Ok options
judged_ok options count e = counted_ok options count (requests_of (fields_at options)) e

pub judged_err : (options : List ℕ) (fault : PduFault) → Err fault ≡ count_read (requests_of (fields_at options)) → judged_options options ≡ Err fault
judged_err options fault e = counted_err options fault (requests_of (fields_at options)) e

-- a message less to pass over
pub one_less : (all messages rest : List (List ℕ)) (message : List ℕ) (n before : ℕ) → slice_get all n ≡ slice_get messages before
    → messages ≡ message ∷ rest → 0 < before → slice_get all n ≡ slice_get rest (before - 1)
one_less all messages rest message n zero so_far e some = absurd (omega arith)
one_less all messages rest message n (suc before) so_far e some =
    so_far ∙ ap (λ (ms : List (List ℕ)). slice_get ms (suc before)) e ∙ ap (slice_get rest) (omega arith)

pub last_of_them : (all messages rest : List (List ℕ)) (message : List ℕ) (n before : ℕ) → slice_get all n ≡ slice_get messages before
    → messages ≡ message ∷ rest → before ≤ 0 → Some message ≡ slice_get all n
last_of_them all messages rest message n zero so_far e none = sym (so_far ∙ ap (λ (ms : List (List ℕ)). slice_get ms 0) e)
last_of_them all messages rest message n (suc before) so_far e none = absurd (omega arith)

pub not_that_many : (all messages : List (List ℕ)) (n before : ℕ) → slice_get all n ≡ slice_get messages before
    → messages ≡ [] → None ≡ slice_get all n
not_that_many all messages n before so_far e = sym (so_far ∙ ap (λ (ms : List (List ℕ)). slice_get ms before) e)
