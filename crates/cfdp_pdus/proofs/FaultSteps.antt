-- No octets have the fault that memory ran out.
use Rattle.std.proofs.Common.{ℕ, ◌%◌, ◌/◌, ◌+◌, ◌*◌, List, [], ◌∷◌, length, Bool, true, false, Option, Some, None, Result, Ok, Err, ◌≡◌, subst}
use Rattle.std.specs.Prelude.{⊤, ◌==◌, nat_lt, nat_le, ◌&&◌, if◌then◌else◌}
use Rattle.cfdp_status.proofs.Choices.{either_way}
use Rattle.cfdp_tlv.specs.Reading.{◌>>=◌}
use Rattle.cfdp_tlv.specs.Field.{lv_at}
use Rattle.cfdp_tlv.specs.Grammar.{request_at, response_at}
use Rattle.cfdp_tlv.specs.declared.fault.TlvFault.{TlvFault}
use Rattle.cfdp_pdus.specs.declared.header.Header.{Header}
use Rattle.cfdp_pdus.specs.declared.fault.PduFault.{PduFault}
use Rattle.cfdp_pdus.specs.declared.fault.PduFault.TheVariants.{Truncated, LengthMismatch, BadTlv, Memory}
use Rattle.cfdp_pdus.specs.Bits.{flag, fss}
use Rattle.cfdp_pdus.specs.Grammar.{Field}
use Rattle.cfdp_pdus.specs.Reading.{mend}
use Rattle.cfdp_pdus.specs.First.{Start, number_at, fields_at, asked_at, requests_of, entity_at, outcome_fields, all_whole, after_segment, metadata_at, file_data_at, eof_at, finished_at, header_at, start_at, directive_at, field_at, pdu_at}

abbrev IsOfOctets : PduFault → Type 0
IsOfOctets Memory = ⊥
IsOfOctets fault = ⊤

abbrev AreOfOctets : {A : Type 0} → Result A PduFault → Type 0
AreOfOctets (Ok x) = ⊤
AreOfOctets (Err fault) = IsOfOctets fault

-- the faults of reading are those of octets
record OfOctets {A : Type 0} (read : Result A PduFault) : Type 0 where
  pub are : AreOfOctets read

value : {A : Type 0} {x : A} → OfOctets (Ok x)
value = record { are = tt }

fault : {A : Type 0} {fault : PduFault} → IsOfOctets fault → OfOctets {A = A} (Err fault)
fault is = record { are = is }

chosen : {A : Type 0} (b : Bool) {x y : Result A PduFault} → OfOctets x → OfOctets y → OfOctets (if b then x else y)
chosen b left right = either_way OfOctets b _ _ left right

following : {A B : Type 0} {read : Result A PduFault} {next : A → Result B PduFault} → OfOctets read → ((x : A) → OfOctets (next x)) → OfOctets (read >>= next)
following {read = Ok x} here there = there x
following {read = Err fault} here there = record { are = here.are }

mended : {A : Type 0} (why : PduFault) (read : Result A TlvFault) → IsOfOctets why → OfOctets (mend why read)
mended why (Ok x) is = value
mended why (Err other) is = fault is

number : (why : PduFault) (len : ℕ) (octets : List ℕ) → IsOfOctets why → OfOctets (number_at why len octets)
unfolding number_at
number why len octets is = chosen (nat_lt (length octets) len) (fault is) value

-- ---- TLV fields

asked : (octets : List ℕ) → OfOctets (asked_at octets)
unfolding asked_at
asked octets = following (mended BadTlv (request_at octets) tt) (λ request. chosen (nat_lt (length octets) 255) value (fault tt))

requests : (fields : List (Option Field)) → OfOctets (requests_of fields)
unfolding requests_of
requests [] = value
requests (None ∷ fields) = fault tt
requests (Some field ∷ fields) =
    chosen (field.0 == 0) (following (asked field.1) (λ request. following (requests fields) (λ others. value))) (requests fields)

entity : (octets : List ℕ) → OfOctets (entity_at octets)
unfolding entity_at
entity octets = chosen (nat_le 1 (length octets) && nat_le (length octets) 8) value (fault tt)

outcome : (fields : List (Option Field)) → OfOctets (outcome_fields fields)
unfolding outcome_fields
outcome [] = value
outcome (None ∷ fields) = fault tt
outcome (Some field ∷ fields) =
    chosen (field.0 == 1) (following (mended BadTlv (response_at field.1) tt) (λ response. following (outcome fields) (λ others. value)))
    (chosen (field.0 == 6) (following (entity field.1) (λ entity. following (outcome fields) (λ others. value))) (outcome fields))

all_whole_faults : (fields : List (Option Field)) → OfOctets (all_whole fields)
unfolding all_whole
all_whole_faults [] = value
all_whole_faults (None ∷ fields) = fault tt
all_whole_faults (Some field ∷ fields) = all_whole_faults fields

-- ---- data fields

metadata : (large : Bool) (octets : List ℕ) → OfOctets (metadata_at large octets)
unfolding metadata_at
metadata large [] = fault tt
metadata large (flags ∷ octets) =
    following (number LengthMismatch (fss large) octets tt) (λ size.
    following (mended LengthMismatch (lv_at size.1) tt) (λ source.
    following (mended LengthMismatch (lv_at source.1) tt) (λ destination.
    following (requests (fields_at destination.1)) (λ asked. value))))

segment : (segment_metadata : Bool) (octets : List ℕ) → OfOctets (after_segment segment_metadata octets)
unfolding after_segment
segment false octets = value
segment true [] = fault tt
segment true (state ∷ octets) = chosen (nat_lt (length octets) (state % 64)) (fault tt) value

file_data : (large segment_metadata : Bool) (octets : List ℕ) → OfOctets (file_data_at large segment_metadata octets)
unfolding file_data_at
file_data large segment_metadata octets =
    following (segment segment_metadata octets) (λ rest. following (number LengthMismatch (fss large) rest tt) (λ offset. value))

eof : (large : Bool) (octets : List ℕ) → OfOctets (eof_at large octets)
unfolding eof_at
eof large [] = fault tt
eof large (condition ∷ octets) =
    following (number LengthMismatch 4 octets tt) (λ checksum.
    following (number LengthMismatch (fss large) checksum.1 tt) (λ size.
    following (all_whole_faults (fields_at size.1)) (λ all. value)))

finished : (octets : List ℕ) → OfOctets (finished_at octets)
unfolding finished_at
finished [] = fault tt
finished (flags ∷ octets) = following (outcome (fields_at octets)) (λ returned. value)

-- ---- whole PDUs

header : (first : ℕ) (octets : List ℕ) → OfOctets (header_at first octets)
unfolding header_at
header first [] = fault tt
header first (high ∷ []) = fault tt
header first (high ∷ low ∷ []) = fault tt
header first (high ∷ low ∷ fourth ∷ octets) =
    following (number Truncated (fourth / 16 % 8 + 1) octets tt) (λ source.
    following (number Truncated (fourth % 8 + 1) source.1 tt) (λ number_read.
    following (number Truncated (fourth / 16 % 8 + 1) number_read.1 tt) (λ destination.
    chosen (nat_lt (length destination.1) (256 * high + low)) (fault tt)
    (chosen (nat_lt (256 * high + low) (length destination.1)) (fault tt) value))))

start : (octets : List ℕ) → OfOctets (start_at octets)
unfolding start_at
start [] = fault tt
start (first ∷ octets) = chosen (first / 32 == 1) (chosen (flag 1 first) (fault tt) (header first octets)) (fault tt)

directive : (of_header : Header) (octets : List ℕ) → OfOctets (directive_at of_header octets)
unfolding directive_at
directive of_header [] = fault tt
directive of_header (code ∷ octets) =
    chosen (code == 7) (following (metadata of_header.large octets) (λ read. value))
    (chosen (code == 4) (following (eof of_header.large octets) (λ read. value))
    (chosen (code == 5) (following (finished octets) (λ read. value))
    (chosen (code == 6) value (chosen (code == 8) value (chosen (code == 9) value (chosen (code == 12) value (fault tt)))))))

field : (begun : Start) → OfOctets (field_at begun)
unfolding field_at
field begun =
    chosen begun.file_data (following (file_data begun.header.large begun.segment_metadata begun.field) (λ read. value))
    (directive begun.header begun.field)

pub never_memory : (octets : List ℕ) → pdu_at octets ≡ Err Memory → ⊥
never_memory octets e = subst AreOfOctets e (following (start octets) field).are
