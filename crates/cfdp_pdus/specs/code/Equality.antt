-- What only the proofs of the code need of `Equality`.
use Rattle.std.specs.Cmp.{IsEquivalence, IsPartialEquivalence, partial_equiv_from_equiv, and_equiv, on_equiv, nat_eq_equiv, bool_eq_equiv}
use Rattle.std.specs.Cmp.Lexicographic.{lists_equiv, options_equiv}
use Rattle.cfdp_tlv.specs.code.Equality.{requests_equiv, responses_equiv}
use Rattle.cfdp_pdus.specs.Values.{MetadataFields, FileDataFields, FinishedFields}
use Rattle.cfdp_pdus.specs.Equality.{same_options, same_file_names, same_metadata, same_file_data, same_codes, same_finished}

-- ---- Metadata

same_options_equiv : IsEquivalence same_options
unfolding same_options
same_options_equiv =
    and_equiv (on_equiv (λ (m : MetadataFields). m.closure) bool_eq_equiv)
    (and_equiv (on_equiv (λ (m : MetadataFields). m.checksum_type) nat_eq_equiv)
    (on_equiv (λ (m : MetadataFields). m.size) nat_eq_equiv))

same_file_names_equiv : IsEquivalence same_file_names
unfolding same_file_names
same_file_names_equiv =
    and_equiv (on_equiv (λ (m : MetadataFields). m.source_name) (lists_equiv nat_eq_equiv))
    (on_equiv (λ (m : MetadataFields). m.destination_name) (lists_equiv nat_eq_equiv))

pub metadata_equiv : IsEquivalence same_metadata
metadata_equiv =
    and_equiv same_options_equiv (and_equiv same_file_names_equiv
    (on_equiv (λ (m : MetadataFields). m.requests) (lists_equiv requests_equiv)))

pub metadata_per : IsPartialEquivalence same_metadata
metadata_per = partial_equiv_from_equiv metadata_equiv

-- ---- File Data

pub file_data_equiv : IsEquivalence same_file_data
file_data_equiv =
    and_equiv (on_equiv (λ (d : FileDataFields). d.offset) nat_eq_equiv)
    (on_equiv (λ (d : FileDataFields). d.octets) (lists_equiv nat_eq_equiv))

pub file_data_per : IsPartialEquivalence same_file_data
file_data_per = partial_equiv_from_equiv file_data_equiv

-- ---- Finished

same_codes_equiv : IsEquivalence same_codes
unfolding same_codes
same_codes_equiv =
    and_equiv (on_equiv (λ (f : FinishedFields). f.condition) nat_eq_equiv)
    (and_equiv (on_equiv (λ (f : FinishedFields). f.incomplete) bool_eq_equiv)
    (on_equiv (λ (f : FinishedFields). f.file_status) nat_eq_equiv))

pub finished_equiv : IsEquivalence same_finished
finished_equiv =
    and_equiv same_codes_equiv
    (and_equiv (on_equiv (λ (f : FinishedFields). f.responses) (lists_equiv responses_equiv))
    (on_equiv (λ (f : FinishedFields). f.fault) (options_equiv nat_eq_equiv)))

pub finished_per : IsPartialEquivalence same_finished
finished_per = partial_equiv_from_equiv finished_equiv
