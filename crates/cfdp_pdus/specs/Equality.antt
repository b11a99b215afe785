-- When two values of one kind of PDU are one.
--   same_metadata, same_file_data, same_finished
--                     each part is the same
use Rattle.std.specs.Prelude.{Bool, nat_eq}
use Rattle.std.specs.Bool.{beq}
use Rattle.std.specs.Option.{option_eq}
use Rattle.std.specs.Ordering.{eq_of_both, on}
use Rattle.std.specs.Cmp.Lexicographic.{pointwise}
use Rattle.cfdp_tlv.specs.Equality.{same_request, same_response}
use Rattle.cfdp_pdus.specs.Values.{MetadataFields, FileDataFields, FinishedFields}

-- ---- Metadata

unfoldable pub same_options : MetadataFields → MetadataFields → Bool
same_options = eq_of_both (on (λ m. m.closure) beq) (eq_of_both (on (λ m. m.checksum_type) nat_eq)
    (on (λ m. m.size) nat_eq))

unfoldable pub same_file_names : MetadataFields → MetadataFields → Bool
same_file_names = eq_of_both (on (λ m. m.source_name) (pointwise nat_eq))
    (on (λ m. m.destination_name) (pointwise nat_eq))

abbrev pub same_metadata : MetadataFields → MetadataFields → Bool
same_metadata = eq_of_both same_options (eq_of_both same_file_names (on (λ m. m.requests) (pointwise same_request)))

-- ---- File Data

abbrev pub same_file_data : FileDataFields → FileDataFields → Bool
same_file_data = eq_of_both (on (λ d. d.offset) nat_eq) (on (λ d. d.octets) (pointwise nat_eq))

-- ---- Finished

unfoldable pub same_codes : FinishedFields → FinishedFields → Bool
same_codes = eq_of_both (on (λ f. f.condition) nat_eq)
    (eq_of_both (on (λ f. f.incomplete) beq) (on (λ f. f.file_status) nat_eq))

abbrev pub same_finished : FinishedFields → FinishedFields → Bool
same_finished = eq_of_both same_codes (eq_of_both (on (λ f. f.responses) (pointwise same_response))
    (on (λ f. f.fault) (option_eq nat_eq)))
