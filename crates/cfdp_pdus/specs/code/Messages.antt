-- What only the proofs of the code need of `Messages`.
--   options_at octets               the octets of the options of a Metadata PDU, read from left to right; or the first
--                                   fault
use Rattle.std.specs.Prelude.{ℕ, ◌==◌, if◌then◌else◌, Bool, List, [], ◌∷◌, Result, Ok, Err}
use Rattle.cfdp_tlv.specs.Reading.{◌>>=◌}
use Rattle.cfdp_pdus.specs.declared.fault.PduFault.{PduFault}
use Rattle.cfdp_pdus.specs.declared.fault.PduFault.TheVariants.{LengthMismatch, BadDirective}
use Rattle.cfdp_pdus.specs.Bits.{fss}
use Rattle.cfdp_pdus.specs.Codes.{metadata_code}
use Rattle.cfdp_pdus.specs.First.{Start, number_at, name_field_at, fields_at, requests_of, start_at}

-- ---- from left to right

-- what is left after the names of a Metadata PDU, of the octets after its directive code
unfoldable pub after_names : Bool → List ℕ → Result (List ℕ) PduFault
after_names large [] = Err LengthMismatch
after_names large (flags ∷ octets) = do
  size ← number_at LengthMismatch (fss large) octets
  source ← name_field_at size.1
  destination ← name_field_at source.1
  Ok destination.1

-- the same options, where each of them is whole and each request among them is one
abbrev pub judged_options : List ℕ → Result (List ℕ) PduFault
judged_options options = requests_of (fields_at options) >>= λ requests. Ok options

unfoldable pub options_in : Bool → List ℕ → Result (List ℕ) PduFault
options_in large [] = Err LengthMismatch
options_in large (code ∷ octets) =
    if code == metadata_code then after_names large octets >>= judged_options else Err BadDirective

abbrev pub options_from : Start → Result (List ℕ) PduFault
options_from start = if start.file_data then Err BadDirective else options_in start.header.large start.field

unfoldable pub options_at : List ℕ → Result (List ℕ) PduFault
options_at octets = start_at octets >>= options_from
