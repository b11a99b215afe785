-- LV and TLV fields (CCSDS 727.0-B-5 §5.1.8 and §5.1.9). An octet is a number below 256.
--   lv value          the octets of an LV field: the length of the value, and the value
--   tlv kind value    the octets of a TLV field: the type, the length, and the value
--   lv_at octets      the value at the front and what is after it; Truncated where it is cut
--   tlv_at octets     the type and the value at the front and what is after them, likewise
use Rattle.std.specs.Prelude.{ℕ, List, [], ◌∷◌, length, take, drop, nat_lt, if◌then◌else◌, Result, Ok, Err}
use Rattle.cfdp_tlv.specs.declared.fault.TlvFault.{TlvFault}
use Rattle.cfdp_tlv.specs.declared.fault.TlvFault.TheVariants.{Truncated}
use Rattle.cfdp_tlv.specs.Reading.{◌>>=◌}

abbrev pub lv : List ℕ → List ℕ
lv value = length value ∷ value

abbrev pub tlv : ℕ → List ℕ → List ℕ
tlv kind value = kind ∷ lv value

unfoldable pub lv_at : List ℕ → Result (List ℕ × List ℕ) TlvFault
lv_at [] = Err Truncated
lv_at (len ∷ octets) = if nat_lt (length octets) len then Err Truncated else Ok (take len octets, drop len octets)

unfoldable pub tlv_at : List ℕ → Result (ℕ × List ℕ × List ℕ) TlvFault
tlv_at [] = Err Truncated
tlv_at (kind ∷ octets) = do
  field ← lv_at octets
  Ok (kind, field.0, field.1)
