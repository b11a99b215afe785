-- What a first pass over TLV fields finds.
--   count_read read        how many were read
--   responses_in_fields fields  the responses of a Finished PDU, without its fault location
--   outcome_count fields   how many responses, and the last fault location
use Rattle.std.specs.Prelude.{ℕ, List, length, Option, Result, Ok}
use Rattle.cfdp_tlv.specs.Reading.{◌>>=◌}
use Rattle.cfdp_tlv.specs.Values.{ResponseFields}
use Rattle.cfdp_pdus.specs.declared.fault.PduFault.{PduFault}
use Rattle.cfdp_pdus.specs.Grammar.{Field}
use Rattle.cfdp_pdus.specs.First.{outcome_fields}

abbrev pub count_read : {A : Type 0} → Result (List A) PduFault → Result ℕ PduFault
count_read read = read >>= λ items. Ok (length items)

abbrev pub responses_in_fields : List (Option Field) → Result (List ResponseFields) PduFault
responses_in_fields fields = outcome_fields fields >>= λ outcome. Ok outcome.0

abbrev pub outcome_count : List (Option Field) → Result (ℕ × Option ℕ) PduFault
outcome_count fields = outcome_fields fields >>= λ outcome. Ok (length outcome.0, outcome.1)
