-- A PDU with a CRC (CCSDS 727.0-B-5 §5.1): the flag is bit 1 of the first octet, and the CRC is the last two octets of
-- the data field, counted in its length. It is the CRC of all octets before it.
--     header_len fourth      how many octets a header has, by its fourth octet
--     sealed_at octets       the length of the data field where there is a CRC that is right, None where there is none,
--                            or the first fault
--     unsealed octets        the PDU without its CRC, or the first fault
--     plain_len octets       the length of the data field of a PDU that can get a CRC, or the first fault
--     with_flag octets len   the PDU with the flag, and with two octets more in the length of its data field
--     sealed octets          the PDU with its CRC, or the first fault
--     UnsealsSealed          the law: the CRC that was added is right, and without it the PDU is as it was
use Rattle.std.specs.Prelude.{◌≡◌, ℕ, ◌+◌, ◌-◌, ◌*◌, ◌/◌, ◌%◌, ◌||◌, ◌==◌, nat_lt, if◌then◌else◌, List, [], ◌∷◌, ◌++◌, length, take, slice_set, slice_index, Option, Some, None, Result, Ok, Err}
use Rattle.cfdp_crc.specs.Crc.{crc_of}
use Rattle.cfdp_crc.specs.Laws.{AreOctets}
use Rattle.cfdp_crc.specs.declared.sealing.CrcFault.{CrcFault}
use Rattle.cfdp_crc.specs.declared.sealing.CrcFault.TheVariants.{Truncated, BadVersion, LengthMismatch, BadCrc}
use Rattle.cfdp_crc.specs.declared.sealing.SealFault.{SealFault}
use Rattle.cfdp_crc.specs.declared.sealing.SealFault.TheVariants.{NotAPdu, HasCrc, TooLong}

abbrev pub header_len : ℕ → ℕ
header_len fourth = 4 + 2 * (fourth / 16 % 8 + 1) + (fourth % 8 + 1)

-- ---- a CRC is checked and taken off

abbrev pub sealed_by : List ℕ → ℕ → ℕ → Result (Option ℕ) CrcFault
sealed_by octets len whole =
    if nat_lt (length octets) whole then Err Truncated
    else if nat_lt whole (length octets) || nat_lt len 2 then Err LengthMismatch
    else if crc_of octets == 0 then Ok (Some len)
    else Err BadCrc

abbrev pub sealed_in : ℕ → List ℕ → Result (Option ℕ) CrcFault
sealed_in first (high ∷ low ∷ fourth ∷ rest) =
    sealed_by (first ∷ high ∷ low ∷ fourth ∷ rest) (256 * high + low) (header_len fourth + (256 * high + low))
sealed_in first rest = Err Truncated

unfoldable pub sealed_at : List ℕ → Result (Option ℕ) CrcFault
sealed_at [] = Err Truncated
sealed_at (first ∷ rest) =
    if first / 32 == 1
    then (if first / 2 % 2 == 0 then Ok None else sealed_in first rest)
    else Err BadVersion

abbrev pub without_crc : Option ℕ → List ℕ → List ℕ
without_crc None octets = octets
without_crc (Some len) octets =
    take (length octets - 2) (slice_set (slice_set (slice_set octets 0 (slice_index octets 0 - 2)) 1 ((len - 2) / 256))
    2 ((len - 2) % 256))

abbrev pub opened_by : Result (Option ℕ) CrcFault → List ℕ → Result (List ℕ) CrcFault
opened_by (Ok found) octets = Ok (without_crc found octets)
opened_by (Err fault) octets = Err fault

abbrev pub unsealed : List ℕ → Result (List ℕ) CrcFault
unsealed octets = opened_by (sealed_at octets) octets

-- ---- a CRC is added

-- of a PDU with this data field, which is of `whole` octets
abbrev pub plain_by : List ℕ → ℕ → ℕ → Result ℕ SealFault
plain_by octets len whole =
    if length octets == whole
    then (if nat_lt 65533 len then Err TooLong else Ok len)
    else Err NotAPdu

abbrev pub plain_in : ℕ → List ℕ → Result ℕ SealFault
plain_in first (high ∷ low ∷ fourth ∷ rest) =
    plain_by (first ∷ high ∷ low ∷ fourth ∷ rest) (256 * high + low) (header_len fourth + (256 * high + low))
plain_in first rest = Err NotAPdu

unfoldable pub plain_len : List ℕ → Result ℕ SealFault
plain_len [] = Err NotAPdu
plain_len (first ∷ rest) =
    if first / 32 == 1
    then (if first / 2 % 2 == 0 then plain_in first rest else Err HasCrc)
    else Err NotAPdu

abbrev pub with_flag : List ℕ → ℕ → List ℕ
with_flag octets len =
    slice_set (slice_set (slice_set octets 0 (slice_index octets 0 + 2)) 1 ((len + 2) / 256)) 2 ((len + 2) % 256)

-- the octets, and then these two
abbrev pub with_crc : List ℕ → ℕ → List ℕ
with_crc front crc = front ++ crc / 256 ∷ crc % 256 ∷ []

abbrev pub sealed_from : Result ℕ SealFault → List ℕ → Result (List ℕ) SealFault
sealed_from (Ok len) octets = Ok (with_crc (with_flag octets len) (crc_of (with_flag octets len)))
sealed_from (Err fault) octets = Err fault

abbrev pub sealed : List ℕ → Result (List ℕ) SealFault
sealed octets = sealed_from (plain_len octets) octets

abbrev pub UnsealsSealed : Type 0
UnsealsSealed = (octets whole : List ℕ) → AreOctets octets → sealed octets ≡ Ok whole → unsealed whole ≡ Ok octets
